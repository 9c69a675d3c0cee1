-- An instant in range: its place on the axis, which is not negative, and what lies too far from 2000.
-- Assumes nothing.
use mathlib.Core.Path.{◌≡◌, ap, subst}
use mathlib.Core.Bool.{true, false}
use Prim.Native.Nat.{◌+◌, ◌≤◌, ◌<◌}
use native.Mathlib.Omega.{arith}
use lib.IntN.{ℤ, pos, negsuc}
use lib.Signed.{◌≤ℤ◌}
use Rattle.laws.proofs.Cases.{by_test}
use Rattle.laws.proofs.Difference.{up, down, eq_from, le_from, integers}
use Rattle.laws.proofs.Machine.{one_side, nat_abs_is}
use Rattle.leap.specs.declared.Table.{Table}
use Rattle.leap.proofs.Facts.{Accepted}
use Rattle.labels.specs.Seconds.{in_years, first_month, last_month}
use Rattle.labels.proofs.Years.{Between, years_to}
use Rattle.stamp.specs.declared.Scale.{Scale}
use Rattle.stamp.specs.Scales.{fixed, offsets_of, to_axis}
use Rattle.stamp.specs.Back.{in_range, axis_count}
use Rattle.stamp.proofs.Scales.{steps, fixed_small, to_axis_is}

-- near 2000 the axis is a count, and a small one
module _ (sc : Scale) (x : ℤ) (low : negsuc 62999999999999999 ≤ℤ x) (high : x ≤ℤ pos 300000000000000000) where
  pub near_axis : to_axis sc x ≡ pos (axis_count sc x)
  near_axis =
      let a : ℤ = to_axis sc x in
      eq_from a (pos (axis_count sc x)) (omega (arith, integers, to_axis_is sc x, fixed_small sc, nat_abs_is a, one_side a, one_side x))

  pub near_count : axis_count sc x ≤ 400000000000000000
  near_count = let a : ℤ = to_axis sc x in omega (arith, integers, to_axis_is sc x, fixed_small sc, nat_abs_is a, one_side a, one_side x)

module _ (t : Table) (acc : Accepted t) (sc : Scale) (x : ℤ) where
  between : in_range t sc x ≡ true → Between (offsets_of t sc) (steps t acc sc) (to_axis sc x)
  between e = years_to (offsets_of t sc) (steps t acc sc) (to_axis sc x) e

  bounds : in_range t sc x ≡ true → (down x ≤ up x + 63000000000000000) × (up x ≤ 300000000000000000 + down x)
  bounds e =
      let st = steps t acc sc in
      omega (arith, between e, to_axis_is sc x, fixed_small sc, st.low first_month, st.low last_month, one_side (to_axis sc x))

  pub too_early : up x + 63000000000000000 < down x → in_range t sc x ≡ false
  too_early h = by_test (in_range t sc x) (λ e. absurd (omega (arith, bounds e))) (λ e. e)

  pub too_late : 300000000000000000 + down x < up x → in_range t sc x ≡ false
  too_late h = by_test (in_range t sc x) (λ e. absurd (omega (arith, bounds e))) (λ e. e)

  module _ (e : in_range t sc x ≡ true) where
    pub range_low : negsuc 62999999999999999 ≤ℤ x
    range_low = le_from (negsuc 62999999999999999) x (omega (arith, bounds e))

    pub range_high : x ≤ℤ pos 300000000000000000
    range_high = le_from x (pos 300000000000000000) (omega (arith, bounds e))

    pub range_count : axis_count sc x + (down x + down (fixed sc)) ≡ up x + up (fixed sc) + 63113947200000000
    range_count =
        let a = near_axis sc x range_low range_high in
        omega (arith, to_axis_is sc x, ap up a, ap down a)

    pub count_in_years : in_years (offsets_of t sc) (pos (axis_count sc x)) ≡ true
    count_in_years = subst (λ (a : ℤ). in_years (offsets_of t sc) a ≡ true) (near_axis sc x range_low range_high) e
