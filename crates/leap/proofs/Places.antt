-- The test of one place by its kind, and of one place more.
-- Assumes nothing.
use mathlib.Core.Path.{◌≡◌, ap₂}
use mathlib.Core.Bool.{Bool, ◌&&◌}
use Prim.Native.Nat.{ℕ, zero, suc, ◌+◌, ◌-◌, ◌≤◌, ◌<◌}
use native.Mathlib.Numerals.{add-one}
use native.Mathlib.Omega.{arith}
use borrow.Author.Tests.{lt-ltb, le-ltb}
use Rattle.laws.specs.Tests.{all_below}
use Rattle.leap.specs.declared.Table.{Table}
use Rattle.leap.specs.Leap.{entry_month, entry_offset, later_right, unused_right, place_right}

module _ (t : Table) where
  pub later_is : (k : ℕ) → 1 ≤ k → k < t.count → later_right (entry_month t (k - 1)) (entry_offset t (k - 1)) (entry_month t k) (entry_offset t k) ≡ place_right t k
  unfolding place_right
  later_is zero l h = absurd (omega arith)
  later_is (suc k) l h =
      let e : suc k - 1 ≡ k = omega arith in
      rw (e, lt-ltb (suc k) t.count h)

  pub later_step : (k : ℕ) → k + 1 < t.count → later_right (entry_month t k) (entry_offset t k) (entry_month t (k + 1)) (entry_offset t (k + 1)) ≡ place_right t (k + 1)
  unfolding place_right
  later_step k h = rw (add-one k, lt-ltb (suc k) t.count (omega arith))

  pub unused_is : (k : ℕ) → 1 ≤ k → t.count ≤ k → unused_right (entry_month t k) (entry_offset t k) ≡ place_right t k
  unfolding place_right
  unused_is zero l h = absurd (omega arith)
  unused_is (suc k) l h = rw (le-ltb (suc k) t.count)

  pub one_more : (k : ℕ) {a r : Bool} → a ≡ all_below (place_right t) k → r ≡ place_right t k → (a && r) ≡ all_below (place_right t) (k + 1)
  unfolding all_below
  one_more k p q = rw (add-one k) (ap₂ ◌&&◌ p q)
