-- No step between what is shown, the axis and instants leaves an i64.
-- Assumes nothing.
use Prim.Native.Nat.{ℕ, ◌*◌, ◌≤◌}
use native.Mathlib.Omega.{arith}
use lib.Dec.{T}
use lib.IntN.{ℤ, pos, negsuc, nat_abs, ◌+ℤ◌, ◌-ℤ◌, ◌*ℤ◌}
use lib.Signed.{non_neg, ◌≤ℤ◌}
use mir.Syntax.{w32, w64}
use mir.Val.{SFits, Fits}
use Rattle.laws.proofs.Difference.{sum_is, diff_is, integers}
use Rattle.laws.proofs.Machine.{Within, one_side, fits_to, fits_from, casts_from, times_is}
use Rattle.labels.specs.Seconds.{axis_at}
use Rattle.labels.specs.Back.{day_begins}

pub fits64 : (z : ℤ) → Within 900000000000000000 900000000000000000 z → SFits w64 z
fits64 z h = fits_from z (omega arith) (omega arith)

-- ---- from what is shown to the axis

module _ (u : ℕ) (o : ℤ) (hu : u ≤ 400000000000000000) (fo : SFits w32 o) where
  shift_in : Within 3000000000000000 3000000000000000 (pos 1000000 *ℤ o)
  shift_in = let r = fits_to fo in omega (arith, r, times_is 1000000 o)

  pub shift_fits : SFits w64 (pos 1000000 *ℤ o)
  shift_fits = fits64 (pos 1000000 *ℤ o) (omega (arith, shift_in))

  axis_sum_in : Within 410000000000000000 3000000000000000 (pos u +ℤ (pos 1000000 *ℤ o))
  axis_sum_in = omega (arith, shift_in, sum_is (pos u) (pos 1000000 *ℤ o), one_side (pos u +ℤ (pos 1000000 *ℤ o)))

  pub axis_fits : SFits w64 (pos u +ℤ (pos 1000000 *ℤ o))
  axis_fits = fits64 _ (omega (arith, axis_sum_in))

  pub axis_in : Within 410000000000000000 3000000000000000 (axis_at u o)
  unfolding axis_at
  axis_in = axis_sum_in

-- ---- from the axis to an instant

module _ (a f : ℤ) (ha : Within 410000000000000000 3000000000000000 a) (hf : Within 100000000 100000000 f) where
  past_in : Within 410000000000000000 70000000000000000 (a -ℤ pos 63113947200000000)
  past_in = omega (arith, diff_is a (pos 63113947200000000), one_side a, one_side (a -ℤ pos 63113947200000000))

  pub past_fits : SFits w64 (a -ℤ pos 63113947200000000)
  past_fits = fits64 _ (omega (arith, past_in))

  pub instant_fits : SFits w64 ((a -ℤ pos 63113947200000000) -ℤ f)
  instant_fits =
      let b : ℤ = a -ℤ pos 63113947200000000 in
      fits64 (b -ℤ f) (omega (arith, past_in, diff_is b f, one_side b, one_side f, one_side (b -ℤ f)))

-- ---- and back

module _ (x f : ℤ) (low : negsuc 62999999999999999 ≤ℤ x) (high : x ≤ℤ pos 300000000000000000) (hf : Within 100000000 100000000 f) where
  shifted_in : Within 310000000000000000 63000000100000000 (x +ℤ f)
  shifted_in = omega (arith, integers, sum_is x f, one_side x, one_side f, one_side (x +ℤ f))

  pub shifted_fits : SFits w64 (x +ℤ f)
  shifted_fits = fits64 (x +ℤ f) (omega (arith, shifted_in))

  pub lifted_in : Within 400000000000000000 0 ((x +ℤ f) +ℤ pos 63113947200000000)
  lifted_in =
      let y : ℤ = (x +ℤ f) +ℤ pos 63113947200000000 in
      omega (arith, shifted_in, sum_is (x +ℤ f) (pos 63113947200000000), one_side (x +ℤ f), one_side y)

  pub lifted_fits : SFits w64 ((x +ℤ f) +ℤ pos 63113947200000000)
  lifted_fits = fits64 _ (omega (arith, lifted_in))

  pub lifted_casts : T (non_neg ((x +ℤ f) +ℤ pos 63113947200000000)) × Fits w64 (nat_abs ((x +ℤ f) +ℤ pos 63113947200000000))
  lifted_casts =
      let y : ℤ = (x +ℤ f) +ℤ pos 63113947200000000 in
      casts_from y (omega (arith, lifted_in)) (omega (arith, lifted_in))

-- ---- seconds since a day's begin

module _ (d s : ℕ) (o : ℤ) (hd : d ≤ 5000000) (hs : s ≤ 500000000000) (fo : SFits w32 o) where
  begin_in : Within 500000000000 3000000000 (day_begins d o)
  begin_in = let r = fits_to fo in omega (arith, r, sum_is (pos (86400 * d)) o, one_side (day_begins d o))

  pub begin_fits : SFits w64 (day_begins d o)
  begin_fits = fits64 (day_begins d o) (omega (arith, begin_in))

  pub rest_fits : SFits w64 (pos s -ℤ day_begins d o)
  rest_fits =
      fits64 (pos s -ℤ day_begins d o)
      (omega (arith, begin_in, diff_is (pos s) (day_begins d o), one_side (day_begins d o), one_side (pos s -ℤ day_begins d o)))
