-- The microsecond that a reading shows, and its microsecond on the scale's axis.
-- Assumes nothing.
use Rattle.std.specs.Prelude.{Bool, ◌&&◌, ℕ, ◌+◌, ◌*◌, ◌-◌, ℤ, pos, ◌+ℤ◌, ◌*ℤ◌}
use Rattle.std.specs.Int.Signed.{le_z}
use Rattle.months.specs.Months.{days_before}
use Rattle.labels.specs.declared.Label.{Label}
use Rattle.labels.specs.declared.Reading.{Reading}
use Rattle.labels.specs.Labels.{Offsets, at, month_of}

-- ---- a reading's microsecond

abbrev pub time_of_day : Label → ℕ
time_of_day l = 3600 * l.hour + (60 * l.minute + l.second)

-- the label's day, counted from 1 January of year 0
abbrev pub day_count : Label → ℕ
day_count l = days_before (month_of l) + (l.day - 1)

-- counted from the first of year 0, each day 86,400 seconds
unfoldable pub second_of : Label → ℕ
second_of l = 86400 * day_count l + time_of_day l

-- the microsecond of its day: one of 23:59:60 belongs to the day that it ends
abbrev pub micro_of_day : Reading → ℕ
micro_of_day r = 1000000 * time_of_day r.label + r.micro

-- what the reading shows: 23:59:60 shows the next day's first second
abbrev pub micro_of : Reading → ℕ
micro_of r = 1000000 * second_of r.label + r.micro

-- the axis counts every microsecond once: what is shown, and the offset there
unfoldable pub axis_at : ℕ → ℤ → ℤ
axis_at u o = pos u +ℤ (pos 1000000 *ℤ o)

abbrev pub axis_of : Offsets → Reading → ℤ
axis_of o r = axis_at (micro_of r) (o (month_of r.label))

-- ---- the years that have labels

-- January 1972 and December 9999 among the calendar's months, and the month after them
abbrev pub first_month : ℕ
first_month = 23664

abbrev pub last_month : ℕ
last_month = 119999

abbrev pub end_month : ℕ
end_month = 120000

-- 1 January 1972 and 31 December 9999, counted from 1 January of year 0
abbrev pub first_day : ℕ
first_day = 720258

abbrev pub last_day : ℕ
last_day = 3652424

abbrev pub first_reading : Reading
first_reading = at 1972 1 1 0 0 0 0

abbrev pub last_reading : Reading
last_reading = at 9999 12 31 23 59 59 999999

-- a microsecond of the axis from the first label's to the last's
unfoldable pub in_years : Offsets → ℤ → Bool
in_years o a = le_z (axis_of o first_reading) a && le_z a (axis_of o last_reading)
