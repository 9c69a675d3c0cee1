-- The numbers are those of the calendar.
-- Assumes nothing.
use mathlib.Core.Path.{◌≡◌, refl, sym, ap, subst}
use mathlib.Core.Bool.{true, false}
use Prim.Native.Nat.{ℕ, ◌+◌, ◌*◌, ◌^◌, ◌<◌}
use native.Mathlib.Omega.{arith}
use lib.IntN.{ℤ, pos, neg_ℤ, ◌+ℤ◌, ◌-ℤ◌, ◌*ℤ◌}
use lib.Ieee.Exact.{HasValue}
use Rattle.laws.proofs.Difference.{up, down, sum_is, diff_is, eq_from}
use Rattle.laws.proofs.Machine.{times_is}
use Rattle.months.specs.Months.{days_before}
use Rattle.months.proofs.Laws.{length_again, days_again, days_split, days_1972}
use Rattle.leap.specs.declared.Table.{Table}
use Rattle.leap.specs.Leap.{accepted, offset_at, epoch}
use Rattle.leap.proofs.Facts.{accepted_to}
use Rattle.leap.proofs.Moves.{at_first}
use Rattle.labels.specs.declared.Reading.{Reading}
use Rattle.labels.specs.Labels.{label, at, month_of}
use Rattle.labels.specs.Seconds.{second_of, day_count, micro_of, first_reading}
use Rattle.labels.proofs.Years.{days_last, first_micro}
use Rattle.stamp.specs.declared.Scale.{Scale}
use Rattle.stamp.specs.declared.Scale.TheVariants.{Utc, Tai, Tdt, Gps}
use Rattle.stamp.specs.Scales.{fixed, offsets_of, instant_for, scale_of, scale_number}
use Rattle.stamp.proofs.Scales.{instant_is}
use Rattle.julian.specs.Midnight.{midnight_of}
use Rattle.julian.proofs.Midnight.{midnight_value}
use Rattle.promises.specs.Constants.{MidnightIs, since_noon, Constants}

days_none : days_before 0 ≡ 0
unfolding days_before
days_none = refl

days_2000 : days_before 24000 ≡ 730485
days_2000 = omega (arith, days_split 24000, days_none)

noon : second_of (label 2000 1 1 12 0 0) ≡ 63113947200
unfolding second_of
noon = omega (arith, days_2000)

midnight : (y m d n x : ℕ) → day_count (label y m d 0 0 0) ≡ x → 1721059 + x ≡ n → x < 2 ^ 51 → MidnightIs y m d n
midnight y m d n x e f h =
    subst (λ (v : ℕ). HasValue (midnight_of v) false (2 * n + 1) 2) (sym e)
    (subst (λ (v : ℕ). HasValue (midnight_of x) false (2 * v + 1) 2) f (midnight_value x h))

-- what a scale shows, from its instant
module _ (t : Table) (r : Reading) where
  shown : (s : Scale) → let o : ℤ = offsets_of t s (month_of r.label) in let x : ℤ = instant_for t s r in up (since_noon r) + (down x + down (fixed s) + 1000000 * up o) ≡ up x + up (fixed s) + 1000000 * down o + down (since_noon r)
  shown s =
      omega (arith, instant_is s (micro_of r) (offsets_of t s (month_of r.label)), diff_is (pos (micro_of r)) (pos (micro_of (at 2000 1 1 12 0 0 0))), noon)

  tai : since_noon r ≡ instant_for t Tai r
  tai = eq_from (since_noon r) (instant_for t Tai r) (omega (arith, shown Tai))

  tdt : since_noon r ≡ instant_for t Tdt r +ℤ pos 32184000
  tdt = eq_from (since_noon r) (instant_for t Tdt r +ℤ pos 32184000) (omega (arith, shown Tdt, sum_is (instant_for t Tdt r) (pos 32184000)))

  gps : since_noon r ≡ instant_for t Gps r -ℤ pos 19000000
  gps = eq_from (since_noon r) (instant_for t Gps r -ℤ pos 19000000) (omega (arith, shown Gps, diff_is (instant_for t Gps r) (pos 19000000)))

  utc : since_noon r ≡ instant_for t Utc r -ℤ (pos 1000000 *ℤ offset_at t (month_of r.label))
  utc =
      let o : ℤ = offset_at t (month_of r.label) in
      eq_from (since_noon r) (instant_for t Utc r -ℤ (pos 1000000 *ℤ o)) (omega (arith, shown Utc, times_is 1000000 o, diff_is (instant_for t Utc r) (pos 1000000 *ℤ o)))

first_instant : (t : Table) → accepted t ≡ true → instant_for t Utc first_reading ≡ neg_ℤ (pos (1000000 * 883655990))
first_instant t ok =
    let ten = at_first t (accepted_to t ok) in
    eq_from (instant_for t Utc first_reading) (neg_ℤ (pos (1000000 * 883655990))) (omega (arith, instant_is Utc (micro_of first_reading) (offset_at t epoch), first_micro, ap up ten, ap down ten))

scales_numbered : (s : Scale) → scale_of (scale_number s) ≡ s
scales_numbered Utc = refl
scales_numbered Tai = refl
scales_numbered Tdt = refl
scales_numbered Gps = refl

pub constants : Constants
constants =
    record {
      noon_of_2000 = noon;
      tai = tai;
      tdt = tdt;
      gps = gps;
      utc = utc;
      scale_numbers = (refl, (refl, (refl, refl)));
      scales_numbered = scales_numbered;
      first_instant = first_instant;
      january_1972 = (refl, (refl, refl));
      december_9999 = (refl, (refl, refl));
      the_month_after = (refl, (refl, refl));
      months_repeat = length_again;
      days_repeat = days_again;
      first_day_lem = omega (arith, days_1972);
      last_day_lem = omega (arith, days_last);
      microseconds_of_a_day = refl;
      midnight_of_1972 = midnight 1972 1 1 2441317 720258 (omega (arith, days_1972)) refl (omega arith);
      midnight_of_2000 = midnight 2000 1 1 2451544 730485 (omega (arith, days_2000)) refl (omega arith);
      last_midnight_lem = midnight 9999 12 31 5373483 3652424 (omega (arith, days_last)) refl (omega arith);
    }
