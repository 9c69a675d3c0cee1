-- A step of one second and the lowest bit of its number.
-- Assumes nothing.
use Prim.Native.Nat.{ℕ, zero, suc, ◌+◌, ◌*◌, ◌%◌, ◌≤◌, ◌<◌}
use mathlib.Core.Path.{◌≡◌, refl, sym, ap, ◌∙◌}
use mathlib.Core.Logic.{◌⊎◌, inl, inr, ⊎_elim}
use mathlib.Core.Bool.{cond}
use native.Mathlib.Omega.{arith}
use lib.IntN.{ℤ, pos, negsuc, suc_ℤ, pred_ℤ, suc-pred, pred-suc, +ℤ_one, -ℤ_one}
use lib.Signed.{mag, lt_z}
use borrow.Author.Tests.{lt-ltb, le-ltb, ne_eqb}
use Rattle.laws.proofs.Cases.{by_order, pick}
use Rattle.block.specs.Reading.{offset_after}

-- 1 where the step from y to z is down
abbrev pub bit : ℤ → ℤ → ℕ
bit y z = cond (lt_z z y) 1 0

pub bit_small : (y z : ℤ) → bit y z < 2
bit_small y z = pick (λ x. x < 2) (lt_z z y) (λ e. omega arith) (λ e. omega arith)

-- ---- one more, and one less

up_small : (z : ℤ) → mag (suc_ℤ z) ≤ mag z + 1
up_small (pos n) = omega arith
up_small (negsuc zero) = omega arith
up_small (negsuc (suc n)) = omega arith

down_small : (z : ℤ) → mag (pred_ℤ z) ≤ mag z + 1
down_small (pos zero) = omega arith
down_small (pos (suc n)) = omega arith
down_small (negsuc n) = omega arith

bit_up : (z : ℤ) → bit z (suc_ℤ z) ≡ 0
bit_up (pos n) = rw (le-ltb (suc n) n (omega arith))
bit_up (negsuc zero) = refl
bit_up (negsuc (suc n)) = rw (le-ltb (suc n) n (omega arith))

bit_down : (z : ℤ) → bit (suc_ℤ z) z ≡ 1
bit_down (pos n) = rw (lt-ltb n (suc n) (omega arith))
bit_down (negsuc zero) = refl
bit_down (negsuc (suc n)) = rw (lt-ltb n (suc n) (omega arith))

-- ---- the offset that a number gives

module _ (z : ℤ) (n : ℕ) where
  pub next_even : n % 2 ≡ 0 → offset_after z n ≡ suc_ℤ z
  next_even e = rw e (+ℤ_one z)

  pub next_odd : (n % 2 ≡ 0 → ⊥) → offset_after z n ≡ pred_ℤ z
  next_odd e = rw (ne_eqb (n % 2) 0 e) (-ℤ_one z)

  -- either is so
  pub next_case : (P : ℤ → Type 0) → (n % 2 ≡ 0 → P (suc_ℤ z)) → (n % 2 ≡ 1 → P (pred_ℤ z)) → P (offset_after z n)
  next_case P f g = by_order (n % 2) 1 (λ l. rw (next_even (omega arith)) (f (omega arith))) (λ l. rw (next_odd (omega arith)) (g (omega arith)))

  pub next_small : mag (offset_after z n) ≤ mag z + 1
  next_small = next_case (λ x. mag x ≤ mag z + 1) (λ e. up_small z) (λ e. down_small z)

  pub next_bit : bit z (offset_after z n) ≡ n % 2
  next_bit = next_case (λ x. bit z x ≡ n % 2) (λ e. bit_up z ∙ sym e) (λ e. ap (λ x. bit x (pred_ℤ z)) (sym (suc-pred z)) ∙ bit_down (pred_ℤ z) ∙ sym e)

  pub next_apart : (offset_after z n ≡ suc_ℤ z) ⊎ (z ≡ suc_ℤ (offset_after z n))
  next_apart = next_case (λ x. (x ≡ suc_ℤ z) ⊎ (z ≡ suc_ℤ x)) (λ e. inl refl) (λ e. inr (sym (suc-pred z)))

-- a step of one is that of a number with its bit
pub next_back : (y z : ℤ) (m : ℕ) → (z ≡ suc_ℤ y) ⊎ (y ≡ suc_ℤ z) → offset_after y (m * 2 + bit y z) ≡ z
next_back y z m =
    ⊎_elim
    (λ e. next_even y (m * 2 + bit y z) (omega (arith, ap (bit y) e ∙ bit_up y)) ∙ sym e)
    (λ e. next_odd y (m * 2 + bit y z) (omega (arith, ap (λ x. bit x z) e ∙ bit_down z)) ∙ ap pred_ℤ e ∙ pred-suc z)
