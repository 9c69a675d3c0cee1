-- A kernel is stored text by text: what is stored, with what is still to come, is the kernel.
-- Assumes nothing.
use Prim.Native.Nat.{ℕ, suc, ◌+◌, ◌-◌, ◌*◌, ◌≤◌, ◌<◌}
use mathlib.Core.Path.{◌≡◌, refl, sym, ap, ◌∙◌}
use mathlib.Core.List.{List, ◌++◌, append_assoc}
use native.Mathlib.Omega.{arith}
use lib.IntN.{ℤ}
use lib.ListN.{length, take, drop, length-append}
use lib.Seq.{take_at, length-take-le}
use lib.Signed.{mag}
use Rattle.leap.specs.declared.Table.{Table}
use Rattle.leap.specs.Leap.{vouched_to}
use Rattle.leap.specs.Entries.{entry, entries_from}
use Rattle.leap.proofs.Facts.{Accepted}
use Rattle.leap.proofs.Entries.{entries_same}
use Rattle.digits.specs.Bytes.{ascii, Appended}
use Rattle.digits.specs.Decimals.{signed_text}
use Rattle.digits.proofs.Bytes.{placed}
use Rattle.kernel.specs.Writing.{date_text, pair_text, next_line, later_pairs, pairs_text, front, back, kernel_of}
use Rattle.leap.proofs.Offsets.{small}
use Rattle.digits.proofs.Short.{signed_short}

-- ---- one text more behind the first i bytes

module _ (l : List ℕ) (i : ℕ) (v : List ℕ) {r : ℕ} {o : List ℕ} (s : i ≤ length l) (h : length (take i l) + length v ≤ length l) (p : Appended l i v r o) where
  fits : i + length v ≤ length l
  fits = omega (arith, length-take-le i l s)

  pub put_more : take r o ≡ take i l ++ v
  put_more =
      let q = placed l i v fits p in
      let e : r ≡ length (take i l ++ v) = simp length-append (omega (arith, q.end, length-take-le i l s)) in
      rw (e, q.text, ← append_assoc (take i l) v (drop (i + length v) l)) (take_at (take i l ++ v) (drop (i + length v) l) (length (take i l ++ v)) refl)

-- ---- a pair

pub pair_short : (month : ℕ) (z : ℤ) → mag z < 99 → length (pair_text (month, z)) ≤ 16
pair_short month z h = omega (arith, length-append (signed_text z) (ascii ", " ++ date_text month), signed_short z h)

-- ---- the whole

-- the month that a table is vouched for is not in its kernel
pub kernel_same : (v : ℕ) (t : Table) → kernel_of (vouched_to v t) ≡ kernel_of t
unfolding kernel_of
kernel_same v t = ap (λ es. front ++ (pairs_text es ++ back)) (entries_same v t)

-- what is to come behind the pairs before pair k
abbrev left : Table → ℕ → List ℕ
left t k = later_pairs (entries_from t k (t.count - k)) ++ back

-- the text goes up to the first k pairs
pub record Stored (t : Table) (text : List ℕ) (k : ℕ) : Type 0 where
  pub right : Accepted t
  pub goes : text ++ left t k ≡ kernel_of t
  pub inside : k ≤ t.count
  pub short : length text ≤ 10 + 37 * k

pub stored_first : {t : Table} → Accepted t → {text : List ℕ} → text ≡ front ++ pair_text (entry t 0) → Stored t text 1
unfolding entries_from later_pairs pairs_text kernel_of
stored_first {t} a {text} q =
    let e = pair_text (entry t 0) in
    let n : t.count ≡ suc (t.count - 1) = omega (arith, a.some_entry) in
    let later = later_pairs (entries_from t 1 (t.count - 1)) in
    record {
      right = a;
      goes =
          ap (λ x. x ++ (later ++ back)) q
          ∙ append_assoc front e (later ++ back)
          ∙ ap (λ x. front ++ x) (sym (append_assoc e later back))
          ∙ ap (λ k. front ++ (pairs_text (entries_from t 0 k) ++ back)) (sym n);
      inside = a.some_entry;
      short = let s = ap length q ∙ length-append front e in omega (arith, pair_short (entry t 0).0 (entry t 0).1 (small a 0 a.some_entry));
    }

module _ {t : Table} {text : List ℕ} {k : ℕ} (h : Stored t text k) where
  pub stored_more : k < t.count → {more : List ℕ} → more ≡ text ++ (next_line ++ pair_text (entry t k)) → Stored t more (k + 1)
  unfolding entries_from later_pairs
  stored_more l {more} q =
      let e = pair_text (entry t k) in
      let s : t.count - k ≡ suc (t.count - (k + 1)) = omega arith in
      let later = later_pairs (entries_from t (k + 1) (t.count - (k + 1))) in
      record {
        right = h.right;
        goes =
            ap (λ x. x ++ (later ++ back)) q
            ∙ append_assoc text (next_line ++ e) (later ++ back)
            ∙ ap (λ x. text ++ (next_line ++ x)) (sym (append_assoc e later back))
            ∙ ap (λ j. text ++ (later_pairs (entries_from t k j) ++ back)) (sym s)
            ∙ h.goes;
        inside = omega arith;
        short =
            let s = ap length q ∙ length-append text (next_line ++ e) in
            omega (arith, h.short, pair_short (entry t k).0 (entry t k).1 (small h.right k l));
      }

  pub stored_last : t.count ≤ k → text ++ back ≡ kernel_of t
  unfolding entries_from later_pairs
  stored_last l =
      let n : t.count - k ≡ 0 = omega arith in
      ap (λ j. text ++ (later_pairs (entries_from t k j) ++ back)) (sym n) ∙ h.goes
