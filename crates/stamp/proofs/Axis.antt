-- The way from an instant to a scale's axis, in naturals.
-- Assumes nothing.
use mathlib.Core.Path.{◌≡◌}
use Prim.Native.Nat.{◌+◌}
use native.Mathlib.Omega.{arith}
use lib.IntN.{ℤ, pos, ◌+ℤ◌}
use Rattle.laws.proofs.Difference.{up, down, sum_is}
use Rattle.stamp.specs.declared.Scale.{Scale}
use Rattle.stamp.specs.Scales.{fixed, to_axis}

pub to_axis_is : (s : Scale) (x : ℤ) → up (to_axis s x) + (down x + down (fixed s)) ≡ up x + up (fixed s) + 63113947200000000 + down (to_axis s x)
unfolding to_axis
to_axis_is s x =
    let b : ℤ = x +ℤ fixed s in
    omega (arith, sum_is x (fixed s), sum_is b (pos 63113947200000000))
