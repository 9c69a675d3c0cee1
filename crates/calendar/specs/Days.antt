-- The days of the Gregorian calendar, counted from 1 January of year 0: the month of a day, and the day of its year.
-- Assumes nothing.
use Rattle.std.specs.Prelude.{cond, ℕ, zero, suc, ◌+◌, ◌-◌, ◌*◌, ◌/◌, ltb}
use Rattle.months.specs.Months.{leap_year, days_before}

-- the month of day d: that of the day before, or the next one where that is over
unfoldable pub month_of_day : ℕ → ℕ
month_of_day zero = 0
month_of_day (suc d) = cond (ltb (suc d) (days_before (month_of_day d + 1))) (month_of_day d) (month_of_day d + 1)

-- which day of its year day d of month m is; both days are counted from 1
abbrev pub day_of_year : ℕ → ℕ → ℕ
day_of_year m d = days_before m - days_before (12 * (m / 12)) + d

abbrev pub year_length : ℕ → ℕ
year_length y = cond (leap_year y) 366 365
