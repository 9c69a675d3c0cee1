-- The fraction: the clock's full text cut to what is shown, and what is not shown.
-- Assumes nothing.
use mathlib.Core.Path.{◌≡◌, refl, ap, ◌∙◌}
use mathlib.Core.Bool.{true}
use mathlib.Core.List.{List, [], ◌∷◌, ◌++◌}
use Prim.Native.Char.{code}
use Prim.Native.Nat.{ℕ, zero, suc, ◌+◌, ◌-◌, ◌%◌, ◌^◌, min, ◌≤◌, ◌<◌}
use native.Mathlib.Omega.{arith}
use borrow.Author.Tests.{eq-eqb, le-leb}
use lib.Dec.{eqb}
use lib.ListN.{length, take, drop, replicate, length-take}
use lib.Seq.{take-append-add, length-take-le}
use Rattle.laws.proofs.Cases.{or_l, or_r, join}
use Rattle.laws.proofs.Placed.{take_min}
use Rattle.digits.specs.Decimals.{digits_of}
use Rattle.digits.proofs.Decimals.{digits_cut}
use Rattle.pictures.specs.Pictures.{clock_text, fraction_text}
use Rattle.pictures.specs.Reading.{right_length}
use Rattle.pictures.proofs.Spelling.{filled_up}

-- ---- the clock's full text, cut to its first n bytes, has the fraction that is shown

pub cut : (h m s u k n : ℕ) → (k ≡ 0 → n ≡ 8) → (0 < k → n ≡ 9 + min 6 k)
    → take n (clock_text h m s ++ fraction_text 6 u) ≡ clock_text h m s ++ fraction_text k u
cut h m s u zero n p q = rw (p refl)
cut h m s u (suc k) n p q =
    let c = clock_text h m s ++ code "." ∷ [] in
    rw (q (omega arith)) (take-append-add c (digits_of 6 u) (min 6 (suc k)) ∙ ap (λ (r : List ℕ). c ++ r) (take_min (suc k) (digits_of 6 u)))

-- ---- digits that are not shown may as well be zero

pub fraction_cut : (k u : ℕ) → k ≤ 6 → fraction_text k u ≡ fraction_text k (u - u % 10 ^ (6 - k))
fraction_cut zero u h = refl
fraction_cut (suc k) u h = ap (λ (l : List ℕ). code "." ∷ l) (digits_cut 6 (suc k) (6 - suc k) u (omega arith))

-- and then zeros in their place give the fraction in full
pub fraction_filled : (k u : ℕ) → k ≤ 6 → u % 10 ^ (6 - k) ≡ 0 → fraction_text k u ++ drop (length (fraction_text k u)) (code "." ∷ replicate 6 48) ≡ fraction_text 6 u
fraction_filled zero u h e = ap (λ (l : List ℕ). code "." ∷ l) (filled_up 6 0 u h e)
fraction_filled (suc k) u h e =
    let n : length (take (suc k) (digits_of 6 u)) ≡ suc k = length-take-le (suc k) (digits_of 6 u) h in
    ap (λ (l : List ℕ). code "." ∷ l) (ap (λ (j : ℕ). take (suc k) (digits_of 6 u) ++ drop j (replicate 6 48)) n ∙ filled_up 6 (suc k) u h e)

-- ---- how long it is

pub fraction_length : (k u : ℕ) → k ≤ 6 → length (fraction_text k u) - 1 ≡ k
fraction_length zero u h = omega arith
fraction_length (suc k) u h = simp length-take (omega arith)

pub fraction_right : (n k u : ℕ) → k ≤ 6 → right_length n (n + length (fraction_text k u)) ≡ true
fraction_right n zero u h = or_l _ (eq-eqb (n + 0) n (omega arith))
fraction_right n (suc k) u h =
    let size = n + suc (length (take (suc k) (digits_of 6 u))) in
    let e : length (take (suc k) (digits_of 6 u)) ≡ suc k = length-take-le (suc k) (digits_of 6 u) h in
    or_r (eqb size n) (join (le-leb (n + 2) size (omega arith)) (le-leb size (n + 7) (omega arith)))
