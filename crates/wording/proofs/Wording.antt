-- A line's first bytes and those behind them, as the code cuts them; the numbers of the last line.
-- Assumes nothing.
use mathlib.Core.Path.{◌≡◌, sym, ap, ◌∙◌}
use mathlib.Core.List.{List, ◌++◌}
use Prim.Native.Nat.{ℕ, ◌+◌, ◌-◌, ◌≤◌, min}
use native.Mathlib.Omega.{arith}
use native.Mathlib.Numerals.{add-one}
use lib.ListN.{length, take, drop, get_or, drop_of_length-le}
use lib.Seq.{drop-length}
use Rattle.laws.proofs.Cases.{by_order}
use Rattle.laws.proofs.Placed.{take_min}
use Rattle.digits.specs.Bytes.{ascii}
use Rattle.digits.specs.Decimals.{decimal_text}
use Rattle.phrases.proofs.Parts.{rest_is}
use Rattle.wording.specs.declared.Part.{Part}
use Rattle.wording.specs.Summary.{numbers_text, part_behind}

-- a slice behind so many bytes, or behind all
pub tail_is : (n : ℕ) (s : List ℕ) (k : ℕ) → k ≡ min n (length s) → take (length s - k) (drop k s) ≡ drop n s
tail_is n s k e =
    rest_is s k
    ∙ by_order n (length s) (λ h. let g : k ≡ n = omega arith in ap (λ (j : ℕ). drop j s) g)
    (λ h. let g : k ≡ length s = omega arith in ap (λ (j : ℕ). drop j s) g ∙ drop-length s ∙ sym (drop_of_length-le s h))

-- a slice of the first bytes
pub head_is : (n : ℕ) (s : List ℕ) {k : ℕ} → k ≡ min n (length s) → take k s ≡ take n s
head_is n s {k} e = let g : k ≡ min (length s) n = omega arith in rw g (take_min n s)

-- what stands behind so many bytes lies within the line
pub part_inside : (n : ℕ) (s : List ℕ) {r : Part} → r ≡ part_behind n s → (r.from ≤ r.end) × (r.end ≤ length s)
part_inside n s e = rw e (omega arith, omega arith)

-- one number more
pub numbers_more : (numbers : List ℕ) (n : ℕ) → numbers_text numbers (n + 1) ≡ numbers_text numbers n ++ (ascii " " ++ decimal_text (get_or numbers n 0))
unfolding numbers_text
numbers_more numbers n = rw add-one
