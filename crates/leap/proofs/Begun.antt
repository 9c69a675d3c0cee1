-- The last entry that has begun.
-- Assumes nothing.
use mathlib.Core.Path.{◌≡◌, refl, sym, ap, ◌∙◌}
use mathlib.Core.List.{List}
use Prim.Native.Nat.{ℕ, zero, suc, ◌+◌, ◌-◌, ◌≤◌, ◌<◌}
use native.Mathlib.Omega.{arith}
use borrow.Author.Tests.{le-leb, lt-leb}
use lib.ListN.{get_or}
use Rattle.laws.proofs.Cases.{by_order}
use Rattle.leap.specs.Leap.{epoch, last_begun}

module _ (months : List ℕ) (m : ℕ) where
  pub begun_all : (k : ℕ) → epoch + get_or months k 0 ≤ m → last_begun months m k ≡ k
  unfolding last_begun
  begun_all zero h = refl
  begun_all (suc k) h = rw (le-leb (epoch + get_or months (suc k) 0) m h)

  pub begun_less : (k : ℕ) → m < epoch + get_or months (suc k) 0 → last_begun months m (suc k) ≡ last_begun months m k
  unfolding last_begun
  begun_less k h = rw (lt-leb (epoch + get_or months (suc k) 0) m h)

  pub begun_before : (k : ℕ) → 0 < k → m < epoch + get_or months k 0 → last_begun months m k ≡ last_begun months m (k - 1)
  begun_before zero g h = absurd (omega arith)
  begun_before (suc k) g h = let e : suc k - 1 ≡ k = omega arith in rw e (begun_less k h)

  pub begun_first : (k : ℕ) → k ≤ 0 → last_begun months m k ≡ 0
  unfolding last_begun
  begun_first zero h = refl
  begun_first (suc k) h = absurd (omega arith)

  pub begun_le : (k : ℕ) → last_begun months m k ≤ k
  begun_le zero = omega (arith, begun_first 0 (omega arith))
  begun_le (suc k) =
      by_order m (epoch + get_or months (suc k) 0) (λ h. omega (arith, begun_less k h, begun_le k)) (λ h. omega (arith, begun_all (suc k) h))

-- what has begun in month m is among what has begun in the month after it
pub begun_within : (months : List ℕ) (m k : ℕ) → last_begun months m (last_begun months (m + 1) k) ≡ last_begun months m k
begun_within months m zero = ap (last_begun months m) (begun_first months (m + 1) 0 (omega arith))
begun_within months m (suc k) =
    by_order (m + 1) (epoch + get_or months (suc k) 0)
    (λ h. ap (last_begun months m) (begun_less months (m + 1) k h) ∙ begun_within months m k ∙ sym (begun_less months m k (omega arith)))
    (λ h. ap (last_begun months m) (begun_all months (m + 1) (suc k) h))
