-- Machine integers with a sign, in the naturals `up` and `down` that omega reads: ranges, casts between i32, i64 and u64, tests, bits read back.
-- To use: list `one_side z` for each z whose range matters; take a value off its bits by `rw (to_z-of_z fit)`, `read1`, `read2` or `widened`.
-- Assumes nothing.
use mathlib.Core.Path.{◌≡◌, refl, sym, ap, ap₂, subst, ◌∙◌}
use mathlib.Core.Bool.{Bool, true, false}
use Prim.Native.Nat.{ℕ, zero, suc, ◌+◌, ◌*◌, ◌≤◌, ◌<◌, ◌^◌, min}
use native.Mathlib.Omega.{arith}
use borrow.Author.Tests.{eqb-true, eqb-false, eq-eqb}
use lib.Dec.{T, leb, eqb}
use lib.IntN.{ℤ, pos, negsuc, nat_abs, neg_ℤ, suc_ℤ, ◌+ℤ◌, ◌*ℤ◌, +ℤ_one}
use lib.Signed.{mag, non_neg, lt_z}
use mir.Syntax.{Width, w64}
use mir.Val.{SFits, Fits, hbits, to_z, of_z}
use mir.Facts.{to_z-of_z, sfits_widen}
use Rattle.laws.specs.Tests.{eq_z}
use Rattle.laws.proofs.Difference.{up, down, sum_is, suc_is, eq_to, lt_z_true, lt_z_false}

-- ---- ranges

-- one of the two is zero
pub one_side : (z : ℤ) → min (up z) (down z) ≡ 0
one_side (pos n) = omega arith
one_side (negsuc n) = omega arith

-- a fit as a range of naturals, and back
pub fits_to : {w : Width} {z : ℤ} → SFits w z → (up z < 2 ^ hbits w) × (down z ≤ 2 ^ hbits w)
fits_to {z = z} f = go z f.sfits
  where
    go : {H : ℕ} (z : ℤ) → mag z < H → (up z < H) × (down z ≤ H)
    go (pos n) h = omega arith
    go (negsuc n) h = omega arith

pub fits_from : {w : Width} (z : ℤ) → up z < 2 ^ hbits w → down z ≤ 2 ^ hbits w → SFits w z
fits_from {w} z a b = record { sfits = go z a b }
  where
    go : {H : ℕ} (z : ℤ) → up z < H → down z ≤ H → mag z < H
    go (pos n) a b = a
    go (negsuc n) a b = b

-- z lies between -b and a
abbrev pub Within : ℕ → ℕ → ℤ → Type 0
Within a b z = (up z ≤ a) × (down z ≤ b)

-- ---- casts

-- a signed number that is read, cast to a width as wide or wider, and read again
pub widened : {v : Width} (w : Width) {z : ℤ} → T (leb (hbits v) (hbits w)) → SFits v z → to_z w (of_z w (to_z v (of_z v z))) ≡ z
widened w t f = ap (λ x. to_z w (of_z w x)) (to_z-of_z f) ∙ to_z-of_z (sfits_widen t f)

pub nat_abs_is : (z : ℤ) → nat_abs z ≡ up z + down z
nat_abs_is (pos n) = omega arith
nat_abs_is (negsuc n) = omega arith

pub non_neg_from : (z : ℤ) → down z ≡ 0 → T (non_neg z)
non_neg_from (pos n) e = tt
non_neg_from (negsuc n) e = absurd (omega arith)

-- an i64 that is not negative, cast to a u64
pub casts_from : (z : ℤ) → down z ≡ 0 → up z < 2 ^ 64 → T (non_neg z) × Fits w64 (nat_abs z)
casts_from z d u = (non_neg_from z d, record { fits = omega (arith, nat_abs_is z) })

-- ---- tests

-- a test on the bits is the test on the integers
pub bits_eq : {w : Width} {a b : ℤ} → SFits w a → SFits w b → of_z w a ≡ of_z w b → a ≡ b
bits_eq {w} f g e = sym (to_z-of_z f) ∙ ap (to_z w) e ∙ to_z-of_z g

pub eq_z_true : (a b : ℤ) → eq_z a b ≡ true → a ≡ b
unfolding eq_z
eq_z_true (pos a) (pos b) e = ap pos (eqb-true a b e)
eq_z_true (pos a) (negsuc b) e = cc
eq_z_true (negsuc a) (pos b) e = cc
eq_z_true (negsuc a) (negsuc b) e = ap negsuc (eqb-true a b e)

pub eq_z_refl : (a : ℤ) → eq_z a a ≡ true
unfolding eq_z
eq_z_refl (pos a) = eq-eqb a a refl
eq_z_refl (negsuc a) = eq-eqb a a refl

pub eq_z_eq : {a b : ℤ} → a ≡ b → eq_z a b ≡ true
eq_z_eq {a} {b} e = subst (λ (z : ℤ). eq_z a z ≡ true) e (eq_z_refl a)

pub eq_z_ne : (a b : ℤ) → (a ≡ b → ⊥) → eq_z a b ≡ false
eq_z_ne a b n = go (eq_z a b) refl
  where
    go : (t : Bool) → eq_z a b ≡ t → t ≡ false
    go true e = absurd (n (eq_z_true a b e))
    go false e = refl

pub bits_test : {w : Width} {a b : ℤ} → SFits w a → SFits w b → eqb (of_z w a) (of_z w b) ≡ eq_z a b
bits_test {w} {a} {b} f g = go (eqb (of_z w a) (of_z w b)) refl
  where
    go : (t : Bool) → eqb (of_z w a) (of_z w b) ≡ t → t ≡ eq_z a b
    go true e = sym (eq_z_eq (bits_eq f g (eqb-true _ _ e)))
    go false e = sym (eq_z_ne a b (λ q. eqb-false (of_z w a) (of_z w b) e (ap (of_z w) q)))

-- a test of order on the bits is the test on the integers
pub less_is : {w : Width} {a b : ℤ} {t : Bool} → SFits w a → SFits w b → lt_z (to_z w (of_z w a)) (to_z w (of_z w b)) ≡ t → lt_z a b ≡ t
less_is p q e = ap₂ lt_z (sym (to_z-of_z p)) (sym (to_z-of_z q)) ∙ e

-- ---- bits read back

-- a signed argument reaches its callee by its bits: what the callee ensures is of the integer itself
pub read1 : {A : Type 0} (f : ℤ → A) {w : Width} {a : ℤ} {r : A} → SFits w a → r ≡ f (to_z w (of_z w a)) → r ≡ f a
read1 f {r = r} p e = subst (λ (x : ℤ). r ≡ f x) (to_z-of_z p) e

pub read2 : {A : Type 0} (f : ℤ → ℤ → A) {w : Width} {a b : ℤ} {r : A} → SFits w a → SFits w b → r ≡ f (to_z w (of_z w a)) (to_z w (of_z w b)) → r ≡ f a b
read2 f {w} {a} {b} p q e = read1 (λ x. f x b) p (read1 (λ y. f (to_z w (of_z w a)) y) q e)

-- ---- one more, as code tests it: only the lesser of two can be raised without leaving its width

module _ {w : Width} {x y : ℤ} (f : SFits w x) (g : SFits w y) where
  pub raise_fits : lt_z (to_z w (of_z w x)) (to_z w (of_z w y)) ≡ true → SFits w (to_z w (of_z w x) +ℤ pos 1)
  raise_fits e =
      let h = lt_z_true x y (less_is f g e) in
      let a = fits_to f in
      let b = fits_to g in
      let s = sum_is x (pos 1) in
      rw (to_z-of_z f) (fits_from (x +ℤ pos 1) (omega (arith, one_side (x +ℤ pos 1), one_side x, one_side y)) (omega (arith, one_side (x +ℤ pos 1), one_side x)))

  pub raised : (e : lt_z (to_z w (of_z w x)) (to_z w (of_z w y)) ≡ true) → eqb (of_z w y) (of_z w (to_z w (of_z w x) +ℤ pos 1)) ≡ eq_z y (suc_ℤ x)
  raised e = bits_test g (raise_fits e) ∙ ap (λ z. eq_z y (z +ℤ pos 1)) (to_z-of_z f) ∙ ap (eq_z y) (+ℤ_one x)

  pub not_raised : lt_z (to_z w (of_z w x)) (to_z w (of_z w y)) ≡ false → false ≡ eq_z y (suc_ℤ x)
  not_raised e =
      let h = lt_z_false x y (less_is f g e) in
      sym (eq_z_ne y (suc_ℤ x) (λ q. omega (arith, suc_is x, eq_to q)))

-- ---- products

-- a positive multiple of an integer
pub times_is : (k : ℕ) (z : ℤ) → (up (pos k *ℤ z) ≡ k * up z) × (down (pos k *ℤ z) ≡ k * down z)
times_is k (pos n) = (refl, omega arith)
times_is k (negsuc n) = neg_side (k * suc n)
  where
    neg_side : (n : ℕ) → (up (neg_ℤ (pos n)) ≡ k * 0) × (down (neg_ℤ (pos n)) ≡ n)
    neg_side zero = (omega arith, refl)
    neg_side (suc n) = (omega arith, refl)
