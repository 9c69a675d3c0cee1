-- The first fault that the reader meets is that of `first_fault`.
-- Assumes nothing.
use Prim.Native.Nat.{ℕ, zero, suc, ◌+◌, ◌-◌, ◌*◌, ◌%◌, ◌<◌, ◌≤◌}
use mathlib.Core.Path.{◌≡◌, refl, ap, ◌∙◌}
use mathlib.Core.List.{List, [], ◌∷◌}
use mathlib.Core.Bool.{Bool, true, false, cond, ◌||◌}
use native.Mathlib.Omega.{arith}
use lib.ListN.{length, drop, get_or}
use lib.Dec.{ltb, eqb}
use borrow.Author.Tests.{lt-ltb, le-ltb, ltb-true, ltb-false, eqb-true, ne_eqb}
use Rattle.std.specs.Prelude.{Ok, Err}
use Rattle.laws.proofs.Cases.{by_order}
use Rattle.answer.specs.declared.Refusal.TheVariants.{Cut as CUT, Groups as GROUPS, Table as TABLE}
use Rattle.answer.specs.Refusals.{refusing}
use Rattle.answer.proofs.Orders.{refusing_map}
use Rattle.leap.specs.Leap.{last_entry_month, vouched_right}
use Rattle.leap.specs.Entries.{Entry, first_entry}
use Rattle.leap.specs.Outcomes.{Outcome, entered, fault, joined}
use Rattle.block.specs.declared.Form.{Form}
use Rattle.block.specs.declared.Form.TheVariants.{Old, New}
use Rattle.block.specs.Faults.{marks, number_size, number_value, some_last, shortest, number_tests, within, gap_fine, Fault, no_fault, fault_at, month_fault, fault_from, block_fault, vouched_fault, first_fault}
use Rattle.block.specs.Reading.{NumberRead, above, read_groups, tested, read_number, next_entry, on_number, last_entry, read_entries, in_block, in_vouched, in_form}
use Rattle.block.proofs.Numbers.{read_more, above_zero, above_number}

-- ---- a number

-- one group, and a group with the mark for more
module _ (b : ℕ) (s : List ℕ) where
  marks_one : b < 128 → marks (b ∷ s) ≡ 0
  unfolding marks
  marks_one l = rw (lt-ltb b 128 l)

  marks_more : 128 ≤ b → marks (b ∷ s) ≡ suc (marks s)
  unfolding marks
  marks_more l = rw (le-ltb b 128 l)

  value_one : b < 128 → number_value (b ∷ s) ≡ b
  unfolding number_value
  value_one l = rw (lt-ltb b 128 l)

  value_more : 128 ≤ b → number_value (b ∷ s) ≡ number_value s * 128 + b % 128
  unfolding number_value
  value_more l = rw (le-ltb b 128 l)

-- by its last group: a number of one group that is 0 is 0, and one with a last group that is not 0 is not 0
only_group : (s : List ℕ) → marks s ≡ 0 → get_or s (marks s) 0 ≤ 0 → number_value s ≡ 0
unfolding number_value
only_group [] e h = refl
only_group (b ∷ s) e h =
    by_order b 128 (λ l. omega (arith, value_one b s l, rw (marks_one b s l) at h)) (λ l. absurd (omega (arith, marks_more b s l)))

last_group : (s : List ℕ) → 0 < get_or s (marks s) 0 → 0 < number_value s
last_group [] h = absurd (omega arith)
last_group (b ∷ s) h =
    by_order b 128
    (λ l. rw (value_one b s l) (rw (marks_one b s l) at h))
    (λ l. omega (arith, value_more b s l, last_group s (rw (marks_more b s l) at h)))

-- a group below a number n of one group or of more, whose last group is 0 or not
above_cases : (low n bytes : ℕ) (one some : Bool) → (some ≡ true → n ≡ 0 → ⊥) → (some ≡ false → one ≡ true → n ≡ 0) → above low (cond (one || some) (Ok (n, bytes)) (Err GROUPS)) ≡ cond some (Ok (n * 128 + low, bytes + 1)) (Err GROUPS)
above_cases low n bytes true true f g = above_number low n bytes (f refl)
above_cases low n bytes false true f g = above_number low n bytes (f refl)
above_cases low n bytes true false f g = above_zero low n bytes (g refl refl)
above_cases low n bytes false false f g = refl

above_number_of : (low : ℕ) (s : List ℕ) → above low (cond (shortest s) (Ok (number_value s, number_size s)) (Err GROUPS)) ≡ cond (some_last s) (Ok (number_value s * 128 + low, suc (marks s) + 1)) (Err GROUPS)
above_number_of low s =
    above_cases low (number_value s) (number_size s) (eqb (marks s) 0) (some_last s)
    (λ e z. omega (arith, last_group s (ltb-true 0 _ e)))
    (λ e z. only_group s (eqb-true (marks s) 0 z) (ltb-false 0 _ e))
    ∙ ap (λ n. cond (some_last s) (Ok (number_value s * 128 + low, n)) (Err GROUPS)) more
  where
    more : number_size s + 1 ≡ suc (marks s) + 1
    more = omega arith

-- one group more
one_more : (low k m n : ℕ) (x y : NumberRead) → above low x ≡ y → above low (cond (ltb m k) (cond (ltb m n) x (Err CUT)) (Err GROUPS)) ≡ cond (ltb (suc m) (suc k)) (cond (ltb (suc m) (suc n)) y (Err CUT)) (Err GROUPS)
one_more low k m n x y e =
    by_order m k
    (λ p.
    by_order m n
    (λ q. rw (lt-ltb m k p, lt-ltb m n q, lt-ltb (suc m) (suc k) (omega arith), lt-ltb (suc m) (suc n) (omega arith)) e)
    (λ q. rw (lt-ltb m k p, le-ltb m n q, lt-ltb (suc m) (suc k) (omega arith), le-ltb (suc m) (suc n) (omega arith))))
    (λ p. rw (le-ltb m k p, le-ltb (suc m) (suc k) (omega arith)))

-- what is read as a number of at most k groups
abbrev judged : ℕ → List ℕ → NumberRead
judged k s = cond (ltb (marks s) k) (cond (ltb (marks s) (length s)) (cond (shortest s) (Ok (number_value s, number_size s)) (Err GROUPS)) (Err CUT)) (Err GROUPS)

read_is : (k : ℕ) (s : List ℕ) → read_groups k s ≡ judged k s
unfolding read_groups marks
read_is zero s = rw (le-ltb (marks s) 0 (omega arith))
read_is (suc k) [] = rw (lt-ltb 0 (suc k) (omega arith))
read_is (suc k) (b ∷ s) =
    by_order b 128
    (λ l. rw (lt-ltb b 128 l, value_one b s l, lt-ltb 0 (suc k) (omega arith), lt-ltb 0 (suc (length s)) (omega arith)))
    (λ l. read_more k b s l ∙ ap (above (b % 128)) (read_is k s) ∙ one_more (b % 128) k (marks s) (length s) _ _ (above_number_of (b % 128) s) ∙ rw (le-ltb b 128 l, value_more b s l, ne_eqb (suc (marks s)) 0 (omega arith)))

-- ---- the block

-- the fault of what was read
abbrev pub fault_of : Outcome → Fault
fault_of (entered v es) = no_fault
fault_of (fault why at) = fault_at why at

fault_after : (es : List Entry) (o : Outcome) → fault_of (joined es o) ≡ fault_of o
fault_after es (entered v fs) = refl
fault_after es (fault why at) = refl

-- a number's tests, in their order
on_tests : (at : ℕ) (fine : ℕ → Bool) (follows : ℕ → ℕ → Outcome) (s : List ℕ) → on_number at follows (read_number fine s) ≡ refusing (λ why. fault why at) (number_tests fine s) (follows (number_value s) (number_size s))
on_tests at fine follows s = ap (λ r. on_number at follows (tested fine r)) (read_is 3 s) ∙ go (ltb (marks s) 3) (ltb (marks s) (length s)) (shortest s) (fine (number_value s)) refl
  where
    go : (a b c d : Bool) → fine (number_value s) ≡ d → on_number at follows (tested fine (cond a (cond b (cond c (Ok (number_value s, number_size s)) (Err GROUPS)) (Err CUT)) (Err GROUPS)))
        ≡ cond a (cond b (cond c (cond d (follows (number_value s) (number_size s)) (fault TABLE at)) (fault GROUPS at)) (fault CUT at)) (fault GROUPS at)
    go true true true true e = rw e
    go true true true false e = rw e
    go true true false d e = refl
    go true false c d e = refl
    go false b c d e = refl

-- the fault of what follows a number is that of what follows it here
number_fault : (at : ℕ) (fine : ℕ → Bool) (follows : ℕ → ℕ → Outcome) (s : List ℕ) {f : Fault} → fault_of (follows (number_value s) (number_size s)) ≡ f
    → fault_of (on_number at follows (read_number fine s)) ≡ refusing (λ why. fault_at why at) (number_tests fine s) f
number_fault at fine follows s e =
    ap fault_of (on_tests at fine follows s)
    ∙ refusing_map fault_of (λ why. fault why at) (number_tests fine s) (follows (number_value s) (number_size s))
    ∙ ap (refusing (λ why. fault_at why at) (number_tests fine s)) e

last_fault : (v : ℕ) (e : Entry) → fault_of (last_entry v e) ≡ month_fault e.0 v
last_fault v e = go (vouched_right e.0 v)
  where
    go : (b : Bool) → fault_of (cond b (entered v (e ∷ [])) (fault TABLE 1)) ≡ cond b no_fault (fault_at TABLE 1)
    go true = refl
    go false = refl

entries_fault : (v left : ℕ) (e : Entry) (at : ℕ) (s : List ℕ) → fault_of (read_entries v left e at s) ≡ fault_from v left e.0 at s
unfolding read_entries fault_from
entries_fault v zero e at [] = last_fault v e
entries_fault v zero e at (b ∷ s) = rw (ne_eqb (suc (length s)) 0 (omega arith))
entries_fault v (suc left) e at s =
    number_fault at (gap_fine e.0) (λ n k. joined (e ∷ []) (read_entries v left (next_entry e n) (at + k) (drop k s))) s
    (fault_after (e ∷ []) (read_entries v left (next_entry e (number_value s)) (at + number_size s) (drop (number_size s) s)) ∙ entries_fault v left (next_entry e (number_value s)) (at + number_size s) (drop (number_size s) s))

block_fault_lem : (v at : ℕ) (s : List ℕ) → fault_of (in_block v at s) ≡ block_fault v at s
unfolding in_block block_fault
block_fault_lem v at s =
    number_fault at (within 1 64) (λ n k. read_entries v (n - 1) first_entry (at + k) (drop k s)) s (entries_fault v (number_value s - 1) first_entry (at + number_size s) (drop (number_size s) s))

vouched_fault_lem : (s : List ℕ) → fault_of (in_vouched s) ≡ vouched_fault s
unfolding in_vouched vouched_fault
vouched_fault_lem s =
    number_fault 1 (within 0 (last_entry_month + 1)) (λ v k. in_block v (1 + k) (drop k s)) s (block_fault_lem (number_value s) (1 + number_size s) (drop (number_size s) s))

pub form_fault : (form : Form) (s : List ℕ) → fault_of (in_form form s) ≡ first_fault form s
form_fault Old s = block_fault_lem 0 0 s
form_fault New s = number_fault 0 (within 0 0) (λ n k. in_vouched (drop 1 s)) s (vouched_fault_lem (drop 1 s))
