-- The bare numbers that the definitions use, tied to the calendar. Days and seconds are counted from 1 January of year 0, months from its January.
-- Assumes nothing.
use Rattle.std.specs.Prelude.{◌≡◌, true, false, ℕ, ◌+◌, ◌*◌, ℤ, pos, neg_ℤ, ◌+ℤ◌, ◌-ℤ◌, ◌*ℤ◌}
use Rattle.std.specs.Float.Ieee.Exact.{HasValue}
use Rattle.months.specs.Months.{month_length, days_before}
use Rattle.leap.specs.declared.Table.{Table}
use Rattle.leap.specs.Leap.{accepted, epoch, offset_at, last_entry_month as table_months}
use Rattle.labels.specs.declared.Reading.{Reading}
use Rattle.labels.specs.Labels.{label, at, month_of}
use Rattle.labels.specs.Seconds.{second_of, day_count, micro_of, first_month, last_month, end_month, first_day, last_day, first_reading}
use Rattle.stamp.specs.declared.Scale.{Scale}
use Rattle.stamp.specs.declared.Scale.TheVariants.{Utc, Tai, Tdt, Gps}
use Rattle.stamp.specs.Scales.{scale_of, scale_number, instant_for}
use Rattle.julian.specs.Midnight.{midnight_of}
use Rattle.julian.specs.Promise.{even_day}

-- the Julian midnight of a date is n and a half
abbrev pub MidnightIs : ℕ → ℕ → ℕ → ℕ → Type 0
MidnightIs y m d n = HasValue (midnight_of (day_count (label y m d 0 0 0))) false (2 * n + 1) 2

-- the microseconds that a reading shows after 2000-01-01 12:00:00, or before it
abbrev pub since_noon : Reading → ℤ
since_noon r = pos (micro_of r) -ℤ pos (micro_of (at 2000 1 1 12 0 0 0))

pub record Constants : Type 0 where
  -- second 63,113,947,200 is 2000-01-01 12:00:00
  pub noon_of_2000 : second_of (label 2000 1 1 12 0 0) ≡ 63113947200
  -- what a scale shows is the instant plus its offset: TAI 0, TDT +32,184,000 and GPS -19,000,000 microseconds, UTC less TAI-UTC in its month
  pub tai : (t : Table) (r : Reading) → since_noon r ≡ instant_for t Tai r
  pub tdt : (t : Table) (r : Reading) → since_noon r ≡ instant_for t Tdt r +ℤ pos 32184000
  pub gps : (t : Table) (r : Reading) → since_noon r ≡ instant_for t Gps r -ℤ pos 19000000
  pub utc : (t : Table) (r : Reading) → since_noon r ≡ instant_for t Utc r -ℤ (pos 1000000 *ℤ offset_at t (month_of r.label))
  -- 0 UTC, 1 TAI, 2 TDT, 3 GPS, and back
  pub scale_numbers : (scale_number Utc ≡ 0) × ((scale_number Tai ≡ 1) × ((scale_number Tdt ≡ 2) × (scale_number Gps ≡ 3)))
  pub scales_numbered : (s : Scale) → scale_of (scale_number s) ≡ s
  -- labels begin 883,655,990 seconds before that noon, on UTC
  pub first_instant : (t : Table) → accepted t ≡ true → instant_for t Utc first_reading ≡ neg_ℤ (pos (1000000 * 883655990))
  -- January 1972, where tables and labels begin, is month 23,664
  pub january_1972 : (month_of (label 1972 1 1 0 0 0) ≡ 23664) × ((epoch ≡ 23664) × (first_month ≡ 23664))
  -- December 9999, where both end, is 96,335 months later, and month 120,000 is the one after it
  pub december_9999 : (month_of (label 9999 12 1 0 0 0) ≡ 23664 + 96335) × ((table_months ≡ 96335) × (last_month ≡ 23664 + 96335))
  pub the_month_after : (month_of (label 10000 1 1 0 0 0) ≡ 120000) × ((end_month ≡ 120000) × (last_month + 1 ≡ 120000))
  -- the calendar repeats after 400 years, 146,097 days
  pub months_repeat : (m : ℕ) → month_length (m + 12 * 400) ≡ month_length m
  pub days_repeat : (m : ℕ) → days_before (m + 12 * 400) ≡ days_before m + 146097
  -- 1972-01-01 and 9999-12-31 are the days 720,258 and 3,652,424
  pub first_day_lem : day_count (label 1972 1 1 0 0 0) ≡ first_day
  pub last_day_lem : day_count (label 9999 12 31 0 0 0) ≡ last_day
  -- the day that the pairs of uniform scales count by
  pub microseconds_of_a_day : even_day ≡ 86400 * 1000000
  -- 2441317.5, 2451544.5 and 5373483.5
  pub midnight_of_1972 : MidnightIs 1972 1 1 2441317
  pub midnight_of_2000 : MidnightIs 2000 1 1 2451544
  pub last_midnight_lem : MidnightIs 9999 12 31 5373483
