-- A block is read entry by entry: what is left to read, after what is read, is the whole.
-- Assumes nothing.
use Prim.Native.Nat.{ℕ, suc, ◌+◌, ◌-◌, ◌/◌, ◌≤◌, ◌<◌}
use mathlib.Core.Path.{◌≡◌, sym, ap, ◌∙◌}
use mathlib.Core.List.{List, [], ◌∷◌, ◌++◌}
use mathlib.Core.Bool.{Bool, true, false}
use native.Mathlib.Omega.{arith}
use lib.ListN.{length, take, drop, get_or, set, length-append, length-drop}
use lib.Seq.{get_or_at, drop-drop}
use lib.Dec.{ltb, leb}
use lib.IntN.{ℤ, pos}
use lib.Signed.{mag}
use borrow.Author.Tests.{lt-ltb, le-leb, ltb-true, leb-true, eq-eqb, ne_eqb}
use Rattle.std.specs.Prelude.{Result, Ok, Err}
use Rattle.std.proofs.lemmas.List.{take_rest}
use Rattle.answer.specs.declared.Fault.{Fault}
use Rattle.answer.specs.declared.Refusal.TheVariants.{Table as TABLE, Tail as TAIL}
use Rattle.leap.specs.Leap.{last_entry_month, tabled, vouched_to, vouched_right}
use Rattle.leap.specs.Entries.{Entry, first_entry, no_entry}
use Rattle.leap.specs.Readers.{found}
use Rattle.leap.specs.Outcomes.{Outcome, fault, joined, table_read}
use Rattle.leap.proofs.Entries.{Holds, holds_at, holds_more, holds_table}
use Rattle.leap.proofs.Readers.{joined_twice}
use Rattle.laws.proofs.Cases.{both, join}
use Rattle.block.specs.declared.Form.TheVariants.{New}
use Rattle.block.specs.Faults.{within, gap_fine}
use Rattle.block.specs.Reading.{NumberRead, read_groups, read_number, number_at, offset_after, next_entry, on_number, last_entry, read_entries, in_block, in_vouched, in_form}
use Rattle.block.proofs.Numbers.{Within, read_within, was_tested}
use Rattle.block.proofs.Steps.{next_small}

-- ---- the tests of a number

pub within_is : (least most n : ℕ) → within least most n ≡ true → (least ≤ n) × (n ≤ most)
within_is least most n e = let b = both (leb least n) (leb n most) e in (leb-true _ _ b.0, leb-true _ _ b.1)

pub is_within : (least most n : ℕ) → least ≤ n → n ≤ most → within least most n ≡ true
is_within least most n h l = join (le-leb least n h) (le-leb n most l)

pub gap_fine_lem : (m n : ℕ) → gap_fine m n ≡ true → (0 < n / 2) × (m + n / 2 ≤ last_entry_month)
gap_fine_lem m n e = let b = both (ltb 0 (n / 2)) (leb (m + n / 2) last_entry_month) e in (ltb-true _ _ b.0, leb-true _ _ b.1)

pub is_gap_fine : (m n : ℕ) → 0 < n / 2 → m + n / 2 ≤ last_entry_month → gap_fine m n ≡ true
is_gap_fine m n h l = join (lt-ltb 0 (n / 2) h) (le-leb (m + n / 2) last_entry_month l)

-- ---- a number at a place

-- what was read there, of a number and of a fault
pub number_is : (at : ℕ) (read : NumberRead) {n size : ℕ} → ◌≡◌ {A = Result (ℕ × ℕ) Fault} (Ok (n, size)) (number_at at read) → ◌≡◌ {A = NumberRead} (Ok (n, size)) read
number_is at (Ok x) {n} {size} e = let f : ◌≡◌ {A = ℕ × ℕ} (n, size) x = cc in ap Ok f
number_is at (Err why) e = let z : ◌≡◌ {A = ℕ} 0 1 = cc in absurd (omega arith)

pub fault_is : (at : ℕ) (read : NumberRead) (follows : ℕ → ℕ → Outcome) {f : Fault} → ◌≡◌ {A = Result (ℕ × ℕ) Fault} (Err f) (number_at at read) → fault f.why f.at ≡ on_number at follows read
fault_is at (Ok x) follows e = let z : ◌≡◌ {A = ℕ} 0 1 = cc in absurd (omega arith)
fault_is at (Err why) follows {f} e = let g : ◌≡◌ {A = Fault} f (record { why = why; at = at }) = cc in ap (λ x. fault x.why x.at) g

-- the same, where the rest of a slice from that place on is read
module _ (fine : ℕ → Bool) (s : List ℕ) (at : ℕ) {read : NumberRead} (r : read ≡ read_number fine (take (length s - at) (drop at s))) where
  rest_is : read ≡ read_number fine (drop at s)
  rest_is = r ∙ ap (read_number fine) (take_rest s at)

  pub rest_number : {n size : ℕ} → ◌≡◌ {A = Result (ℕ × ℕ) Fault} (Ok (n, size)) (number_at at read) → ◌≡◌ {A = NumberRead} (Ok (n, size)) (read_number fine (drop at s))
  rest_number e = number_is at read e ∙ rest_is

  pub rest_fault : (follows : ℕ → ℕ → Outcome) {f : Fault} → ◌≡◌ {A = Result (ℕ × ℕ) Fault} (Err f) (number_at at read) → fault f.why f.at ≡ on_number at follows (read_number fine (drop at s))
  rest_fault follows e = fault_is at read follows e ∙ ap (on_number at follows) rest_is

-- ---- the entries

-- of `count` entries k are read into the arrays, which ends at place `at`; `whole` is what is there in the end
pub record Reading (s : List ℕ) (whole : Outcome) (v count : ℕ) (months : List ℕ) (offsets : List ℤ) (at k : ℕ) : Type 0 where
  pub prior : List Entry
  pub last : Entry
  pub goes : joined prior (read_entries v (count - k) last at (drop at s)) ≡ whole
  pub holds : Holds months offsets (prior ++ last ∷ [])
  pub sized : length prior + 1 ≡ k
  pub inside : k ≤ count
  pub few : count ≤ 64
  pub placed : at ≤ length s
  pub early : last.0 ≤ last_entry_month
  pub near : mag last.1 ≤ 9 + k

module _ {s : List ℕ} {whole : Outcome} {v count : ℕ} {months : List ℕ} {offsets : List ℤ} {at k : ℕ} (h : Reading s whole v count months offsets at k) where
  -- the entry that the arrays have last
  here : (get_or months (k - 1) 0, get_or offsets (k - 1) (pos 0)) ≡ h.last
  here = holds_at h.holds (k - 1) ∙ get_or_at h.prior h.last [] no_entry (k - 1) (omega (arith, h.sized))

  month_is_lem : get_or months (k - 1) 0 ≡ h.last.0
  month_is_lem = ap (λ e. e.0) here

  pub offset_is : get_or offsets (k - 1) (pos 0) ≡ h.last.1
  offset_is = ap (λ e. e.1) here

  pub month_early : get_or months (k - 1) 0 ≤ last_entry_month
  month_early = rw month_is_lem h.early

  size_is : length (h.prior ++ h.last ∷ []) ≡ k
  size_is = length-append h.prior (h.last ∷ []) ∙ h.sized

  -- the number that the code reads here is that after the last entry
  pub on_read : {r : NumberRead} → r ≡ read_number (gap_fine (get_or months (k - 1) 0)) (drop at s) → read_number (gap_fine h.last.0) (drop at s) ≡ r
  on_read e = sym (rw month_is_lem at e)

  module _ {n size : ℕ} (e : read_number (gap_fine h.last.0) (drop at s) ≡ Ok (n, size)) where
    pub on_number_lem : Within 3 (drop at s) n size
    on_number_lem = read_within 3 (drop at s) n size (was_tested _ (read_groups 3 (drop at s)) e).0

    -- it ends within the block
    pub on_size : at + size ≤ length s
    on_size = omega (arith, on_number_lem.inside, length-drop at s, h.placed)

  module _ (l : k < count) where
    -- what is there, by what is read here
    pub on_answer : {r : NumberRead} → read_number (gap_fine h.last.0) (drop at s) ≡ r
        → joined h.prior (on_number at (λ n size. joined (h.last ∷ []) (read_entries v (count - (k + 1)) (next_entry h.last n) (at + size) (drop size (drop at s)))) r) ≡ whole
    unfolding read_entries
    on_answer e =
        let c : count - k ≡ suc (count - (k + 1)) = omega arith in
        rw (← e) (rw c at h.goes)

    pub on_entry : {n size : ℕ} → read_number (gap_fine h.last.0) (drop at s) ≡ Ok (n, size)
        → Reading s whole v count (set months k (get_or months (k - 1) 0 + n / 2)) (set offsets k (offset_after (get_or offsets (k - 1) (pos 0)) n)) (at + size) (k + 1)
    on_entry {n} {size} e =
        rw (month_is_lem, offset_is) (record {
          prior = h.prior ++ h.last ∷ [];
          last = next_entry h.last n;
          goes = rw (joined_twice, drop-drop size at s) at (on_answer e);
          holds = holds_more h.holds (next_entry h.last n) size_is (omega (arith, h.few));
          sized = ap (λ n. n + 1) size_is;
          inside = omega arith;
          few = h.few;
          placed = on_size e;
          early = (gap_fine_lem h.last.0 n (was_tested _ (read_groups 3 (drop at s)) e).1).1;
          near = omega (arith, next_small h.last.1 n, h.near);
        })

  module _ (l : count ≤ k) where
    pub on_tail : at < length s → fault TAIL at ≡ whole
    unfolding read_entries
    on_tail m =
        let c : count - k ≡ 0 = omega arith in
        rw (c, ne_eqb (length (drop at s)) 0 (omega (arith, length-drop at s))) at h.goes

    -- the last entry's month, as the code reads it
    last_month : get_or months (count - 1) 0 ≡ h.last.0
    last_month = let e : count ≡ k = omega (arith, h.inside) in rw e month_is_lem

    module _ (m : length s ≤ at) where
      at_last : joined h.prior (last_entry v h.last) ≡ whole
      unfolding read_entries
      at_last =
          let c : count - k ≡ 0 = omega arith in
          rw (c, eq-eqb (length (drop at s)) 0 (omega (arith, length-drop at s))) at h.goes

      pub on_month : vouched_right (get_or months (count - 1) 0) v ≡ false → fault TABLE 1 ≡ whole
      on_month e = rw (rw last_month at e) at at_last

      pub on_end : vouched_right (get_or months (count - 1) 0) v ≡ true → found (vouched_to v (tabled count months offsets)) ≡ table_read whole
      on_end e =
          let n : length (h.prior ++ h.last ∷ []) ≡ count = omega (arith, size_is, h.inside) in
          ap (λ t. found (vouched_to v t)) (holds_table h.holds n) ∙ ap table_read (rw (rw last_month at e) at at_last)

-- ---- the count, and then the entries

-- the count of an old block at a place
module _ (v : ℕ) (s : List ℕ) (at : ℕ) where
  pub on_count : {r : NumberRead} → r ≡ read_number (within 1 64) (drop at s) → on_number at (λ n size. read_entries v (n - 1) first_entry (at + size) (drop size (drop at s))) r ≡ in_block v at (drop at s)
  unfolding in_block
  on_count e = rw e

  pub count_entries : {n size : ℕ} → Ok (n, size) ≡ read_number (within 1 64) (drop at s) → read_entries v (n - 1) first_entry (at + size) (drop (at + size) s) ≡ in_block v at (drop at s)
  count_entries {n} {size} e = rw (← drop-drop size at s) (on_count e)

-- it ends within the block, and is that of 1 to 64 entries
pub count_within : (s : List ℕ) (at : ℕ) {n size : ℕ} → Ok (n, size) ≡ read_number (within 1 64) (drop at s) → at ≤ length s → (at + size ≤ length s) × (0 < n) × (n ≤ 64)
count_within s at {n} {size} e h =
    let t = was_tested (within 1 64) (read_groups 3 (drop at s)) (sym e) in
    let b = within_is 1 64 n t.1 in
    (omega (arith, (read_within 3 (drop at s) n size t.0).inside, length-drop at s), b.0, b.1)

-- ---- a new block: the number 0, that of the month, and then an old block

module _ (s : List ℕ) where
  pub on_zero : {r : NumberRead} → r ≡ read_number (within 0 0) s → on_number 0 (λ n size. in_vouched (drop 1 s)) r ≡ in_form New s
  on_zero e = rw e

  pub zero_within : {n size : ℕ} → ◌≡◌ {A = NumberRead} (Ok (n, size)) (read_number (within 0 0) s) → 1 ≤ length s
  zero_within {n} {size} e = let w = read_within 3 s n size (was_tested _ (read_groups 3 s) (sym e)).0 in omega (arith, w.some, w.inside)

  pub on_vouched : {r : NumberRead} → r ≡ read_number (within 0 (last_entry_month + 1)) (drop 1 s) → on_number 1 (λ v size. in_block v (1 + size) (drop size (drop 1 s))) r ≡ in_vouched (drop 1 s)
  unfolding in_vouched
  on_vouched e = rw e

  module _ {v size : ℕ} (e : Ok (v, size) ≡ read_number (within 0 (last_entry_month + 1)) (drop 1 s)) where
    pub vouched_block : in_block v (1 + size) (drop (1 + size) s) ≡ in_vouched (drop 1 s)
    vouched_block = rw (← drop-drop size 1 s) (on_vouched e)

    pub vouched_within : 1 + size ≤ length s
    vouched_within =
        let w = read_within 3 (drop 1 s) v size (was_tested _ (read_groups 3 (drop 1 s)) (sym e)).0 in
        omega (arith, w.some, w.inside, length-drop 1 s)
