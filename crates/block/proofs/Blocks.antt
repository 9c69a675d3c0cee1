-- A block is stored number by number: what is stored, with what is still to come, is the block.
-- Assumes nothing.
use Prim.Native.Nat.{ℕ, suc, ◌+◌, ◌-◌, ◌*◌, ◌^◌, ◌<◌, ◌≤◌}
use mathlib.Core.Path.{◌≡◌, sym, ap, ap₂, ◌∙◌}
use mathlib.Core.List.{List, [], ◌++◌, append_assoc, append-nil}
use native.Mathlib.Omega.{arith}
use lib.ListN.{length, take, drop, length-append, length-take}
use lib.Seq.{sets, sets-eq, length-sets, take_at}
use Rattle.leap.specs.declared.Table.{Table}
use Rattle.leap.specs.Leap.{vouched_to}
use Rattle.leap.specs.Entries.{Entry, entry, entries_from}
use Rattle.leap.proofs.Facts.{Later, Accepted}
use Rattle.leap.proofs.Entries.{entries_same}
use Rattle.leap.proofs.Vouched.{right_late}
use Rattle.block.specs.declared.Form.{Form}
use Rattle.block.specs.declared.Form.TheVariants.{Old, New}
use Rattle.block.specs.Numbers.{number_bytes}
use Rattle.block.specs.Blocks.{step_number, step_bytes, block_of, opening}
use Rattle.block.proofs.Numbers.{number_size, zero_bytes}
use Rattle.block.proofs.Steps.{bit_small}
use Rattle.laws.proofs.Placed.{take_sets}

-- the month that a table is vouched for is not in its block
pub block_same : (v : ℕ) (t : Table) → block_of (vouched_to v t) ≡ block_of t
unfolding block_of
block_same v t = ap (λ es. number_bytes t.count ++ step_bytes es) (entries_same v t)

-- an opening has no more than four bytes
pub opening_size : (form : Form) (v : ℕ) → length (opening form v) ≤ 4
opening_size Old v = omega arith
opening_size New v = omega (arith, length-append (number_bytes 0) (number_bytes v), number_size v, ap length zero_bytes)

-- the number of a month that is accepted has three groups at most
pub month_small : {t : Table} → Accepted t → t.vouched < 128 ^ 3
month_small a = omega (arith, right_late _ a.month_right)

pub step_small : {e f : Entry} → Later e f → step_number e f < 128 ^ 3
step_small {e} {f} l = omega (arith, l.early, bit_small e.1 f.1)

-- the number of the entry after entry k
abbrev pub step_after : Table → ℕ → ℕ
step_after t k = step_number (entry t k) (entry t (k + 1))

-- what is left after entry k of n
abbrev left : Table → ℕ → ℕ → List ℕ
left t k n = step_bytes (entries_from t k (n - k))

module _ (t : Table) (k n : ℕ) where
  steps_more : k + 1 < n → left t k n ≡ number_bytes (step_after t k) ++ left t (k + 1) n
  unfolding entries_from step_bytes
  steps_more l =
      let p : n - k ≡ suc (suc (n - (k + 2))) = omega arith in
      let q : n - (k + 1) ≡ suc (n - (k + 2)) = omega arith in
      rw (p, q)

  steps_end : k < n → n ≤ k + 1 → left t k n ≡ []
  unfolding entries_from step_bytes
  steps_end h l = let e : n - k ≡ 1 = omega arith in rw e

-- behind `front` the block is stored up to entry k, which ends at len
pub record Stored (front : List ℕ) (t : Table) (bytes : List ℕ) (len k : ℕ) : Type 0 where
  pub goes : take len bytes ++ left t k t.count ≡ front ++ block_of t
  pub right : Accepted t
  pub inside : k < t.count
  pub short : len ≤ 4 + 3 * (k + 1)
  pub long : length bytes ≡ 196

-- what opens a block was stored in 196 bytes, and then the count at place `at`
module _ (form : Form) (t : Table) (given : List ℕ) (long : length given ≡ 196) {start : List ℕ} {at : ℕ} (ea : at ≡ length (opening form t.vouched)) (es : start ≡ sets given 0 (opening form t.vouched)) where
  pub opened_long : length start ≡ 196
  opened_long = ap length es ∙ length-sets given 0 (opening form t.vouched) ∙ long

  pub opened_room : at + length (number_bytes t.count) ≤ length start
  opened_room = omega (arith, opened_long, opening_size form t.vouched, number_size t.count)

  module _ {bytes : List ℕ} (eb : bytes ≡ sets start at (number_bytes t.count)) where
    kept : take at bytes ≡ take at start
    kept =
        let rest = drop (at + length (number_bytes t.count)) start in
        ap (take at) (eb ∙ sets-eq (number_bytes t.count) start at opened_room ∙ append_assoc (take at start) (number_bytes t.count) rest)
        ∙ take_at (take at start) (number_bytes t.count ++ rest) at (omega (arith, length-take at start, opened_room))

    pub opened_front : take at bytes ≡ opening form t.vouched
    opened_front = let e : at ≡ 0 + length (opening form t.vouched) = omega arith in kept ∙ ap₂ take e es ∙ take_sets given 0 (opening form t.vouched) (omega (arith, long, opening_size form t.vouched))

    pub stored_first : {r : ℕ} → Accepted t → r ≡ at + length (number_bytes t.count) → Stored (take at bytes) t bytes r 0
    unfolding block_of
    stored_first a er =
        let none : t.count - 0 ≡ t.count = omega arith in
        let rest = step_bytes (entries_from t 0 t.count) in
        record {
          goes = rw none (ap (λ x. x ++ rest) (ap₂ take er eb ∙ take_sets start at (number_bytes t.count) opened_room ∙ ap (λ x. x ++ number_bytes t.count) (sym kept)) ∙ append_assoc (take at bytes) (number_bytes t.count) rest);
          right = a;
          inside = a.some_entry;
          short = omega (arith, number_size t.count, opening_size form t.vouched);
          long = ap length eb ∙ length-sets start at (number_bytes t.count) ∙ opened_long;
        }

module _ {front : List ℕ} {t : Table} {bytes : List ℕ} {len k : ℕ} (h : Stored front t bytes len k) where
  pub stored_last : t.count ≤ k + 1 → take len bytes ≡ front ++ block_of t
  stored_last l = sym (append-nil (take len bytes)) ∙ ap (λ x. take len bytes ++ x) (sym (steps_end t k t.count h.inside l)) ∙ h.goes

  module _ (l : k + 1 < t.count) {n : ℕ} (e : n ≡ step_after t k) where
    pub stored_small : (n < 128 ^ 3) × (len + length (number_bytes n) ≤ length bytes)
    stored_small = (rw e (step_small (h.right.later k l)), omega (arith, number_size n, h.right.few, h.long, h.short))

    pub stored_more : {r : ℕ} {next : List ℕ} → r ≡ len + length (number_bytes n) → next ≡ sets bytes len (number_bytes n) → Stored front t next r (k + 1)
    stored_more {r} {next} er en = record {
      goes =
          ap (λ x. x ++ left t (k + 1) t.count) (ap₂ take er en ∙ take_sets bytes len (number_bytes n) stored_small.1)
          ∙ append_assoc (take len bytes) (number_bytes n) (left t (k + 1) t.count)
          ∙ ap (λ x. take len bytes ++ x) (ap (λ x. number_bytes x ++ left t (k + 1) t.count) e ∙ sym (steps_more t k t.count l))
          ∙ h.goes;
      right = h.right;
      inside = l;
      short = omega (arith, number_size n, h.short);
      long = ap length en ∙ length-sets bytes len (number_bytes n) ∙ h.long;
    }
