-- A number over a power of ten, a factor of ten at a time.
-- Assumes nothing.
use Prim.Native.Nat.{ℕ, zero, suc, ◌+◌, ◌*◌, ◌/◌, ◌%◌, ◌^◌, ◌<◌}
use mathlib.Core.Path.{◌≡◌, refl, sym, ap, ap₂, subst, ◌∙◌}
use native.Mathlib.Nat.{pow-succ', mul_left_comm, mul-one, zero-mul, mul-div_cancel, div-div-eq-div-mul, one-le-pow}
use native.Mathlib.Numerals.{add-one}
use native.Mathlib.Omega.{arith}
use borrow.Author.Tests.{eq-eqb, ne_eqb, eqb-true}
use lib.Dec.{eqb, lit<}
use Rattle.std.specs.Prelude.{Option, Some, None}
use Rattle.laws.proofs.Cases.{by_test, by_truth}
use Rattle.columns.specs.Decimals.{whole_of}

-- a multiple of the power is whole
pub whole_is : (k places : ℕ) → whole_of (k * 10 ^ places) places ≡ Some k
unfolding whole_of
whole_is k places =
    let q : k * 10 ^ places / 10 ^ places ≡ k = mul-div_cancel k {n = 10 ^ places} (one-le-pow places 10 (lit< tt)) in
    rw (q, eq-eqb (k * 10 ^ places) (k * 10 ^ places) refl)

-- and what is whole is a multiple
pub whole_was : (number places k : ℕ) → whole_of number places ≡ Some k → number ≡ k * 10 ^ places
unfolding whole_of
whole_was number places k e = by_test (eqb (number / 10 ^ places * 10 ^ places) number)
    (λ t.
    let f : Some (number / 10 ^ places) ≡ Some k = rw t at e in
    sym (eqb-true _ _ t) ∙ ap (λ q. q * 10 ^ places) (inside f))
    (λ t. absurd (never (rw t at e)))
  where
    value : Option ℕ → ℕ
    value (Some n) = n
    value None = 0

    inside : {a b : ℕ} → Some a ≡ Some b → a ≡ b
    inside p = ap value p

    is_bad : Option ℕ → Type 0
    is_bad (Some n) = ⊥
    is_bad None = Unit {0}

    never : None ≡ Some k → ⊥
    never p = subst is_bad p tt

module _ (number p : ℕ) where
  -- one factor of ten of the power
  tenfold : number / 10 ^ suc p * 10 ^ suc p ≡ 10 * (number / 10 ^ suc p * 10 ^ p)
  tenfold = ap (λ t. number / 10 ^ suc p * t) (pow-succ' 10 p) ∙ mul_left_comm (number / 10 ^ suc p) 10 (10 ^ p)

  shorter : number / 10 / 10 ^ p ≡ number / 10 ^ suc p
  shorter = div-div-eq-div-mul number 10 (10 ^ p) ∙ ap (λ t. number / t) (sym (pow-succ' 10 p))

  -- a number that is not divisible by ten is no multiple of a higher power
  not_ten : (number % 10 ≡ 0 → ⊥) → None ≡ whole_of number (suc p)
  unfolding whole_of
  not_ten h = rw (ne_eqb (number / 10 ^ suc p * 10 ^ suc p) number (λ e. h (omega (arith, e, tenfold))))

  -- a factor of ten less in both
  less : number % 10 ≡ 0 → whole_of (number / 10) p ≡ whole_of number (suc p)
  unfolding whole_of
  less h =
      let same : eqb (number / 10 / 10 ^ p * 10 ^ p) (number / 10) ≡ eqb (number / 10 ^ suc p * 10 ^ suc p) number =
      by_truth _ _
      (λ e. eq-eqb (number / 10 ^ suc p * 10 ^ suc p) number (let f : number / 10 ^ suc p * 10 ^ p ≡ number / 10 = ap (λ q. q * 10 ^ p) (sym shorter) ∙ eqb-true _ _ e in omega (arith, f, tenfold)))
      (λ e. eq-eqb _ _ (let f : number / 10 ^ suc p * 10 ^ p ≡ number / 10 = let g = eqb-true (number / 10 ^ suc p * 10 ^ suc p) number e in omega (arith, g, tenfold) in ap (λ q. q * 10 ^ p) shorter ∙ f)) in
      rw (same, shorter)

pub whole_not : (number places : ℕ) → 0 < places → (number % 10 ≡ 0 → ⊥) → None ≡ whole_of number places
whole_not number zero l h = absurd (omega arith)
whole_not number (suc p) l h = not_ten number p h

pub whole_less : (number places p : ℕ) → places ≡ p + 1 → number % 10 ≡ 0 → whole_of (number / 10) p ≡ whole_of number places
whole_less number places p e h = less number p h ∙ ap (whole_of number) (sym (e ∙ add-one p))

pub whole_zero : (places : ℕ) → Some 0 ≡ whole_of 0 places
whole_zero places = sym (ap (λ n. whole_of n places) (sym (zero-mul (10 ^ places))) ∙ whole_is 0 places)

pub whole_one : (number places : ℕ) → places ≡ 0 → Some number ≡ whole_of number places
whole_one number places e = sym (ap₂ whole_of (sym (mul-one number)) e ∙ whole_is number 0)
