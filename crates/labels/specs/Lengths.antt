-- How many seconds a day has: `its_own_length` of Promise says that so many labels are its own.
-- Assumes nothing.
use Rattle.std.specs.Prelude.{Bool, cond, ℕ, ◌+◌, ◌*◌, eqb, ℤ}
use Rattle.months.specs.Months.{days_before}
use Rattle.calendar.specs.Days.{month_of_day}
use Rattle.labels.specs.Labels.{Offsets, last_minute}

-- `day_seconds`: the last day of a month has 1,439 minutes of 60 seconds and the month's last minute; all others have 86,400 seconds
unfoldable pub seconds_in : Bool → ℤ → ℤ → ℕ
seconds_in last here next = cond last (86340 + last_minute here next) 86400

-- of day d, counted from 1 January of year 0
abbrev pub day_seconds : Offsets → ℕ → ℕ
day_seconds o d = seconds_in (eqb (d + 1) (days_before (month_of_day d + 1))) (o (month_of_day d)) (o (month_of_day d + 1))

-- and its microseconds
abbrev pub day_micros : Offsets → ℕ → ℕ
day_micros o d = 1000000 * day_seconds o d
