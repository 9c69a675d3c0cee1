-- The answers of the calendar's functions, as the program's own types.
-- Assumes nothing.
use Rattle.std.specs.Prelude.{cond, ◌&&◌, ℕ, ◌+◌, ◌-◌, ◌*◌, ◌%◌, leb, Option, Some, None}
use Rattle.months.specs.Months.{leap_year, month_length, days_before}
use Rattle.calendar.specs.Days.{month_of_day, year_length}
use Rattle.calendar.specs.declared.Span.{Span}
use Rattle.calendar.specs.declared.MonthDay.{MonthDay}

abbrev pub month_span : ℕ → Span
month_span m = record { number = m; start = days_before m; length = month_length m }

-- the month that day d falls in
abbrev pub span_of_day : ℕ → Span
span_of_day d = month_span (month_of_day d)

-- its number, and the day of the month, counted from 1
abbrev pub month_day : ℕ → MonthDay
month_day d = record { month = month_of_day d; day = d - days_before (month_of_day d) + 1 }

-- year 0 is a leap year and year 1 is not: the one of them whose months are as long
abbrev pub like_year : ℕ → ℕ
like_year y = cond (leap_year y) 0 1

-- the day n days after the first of year y, as month of the year and day of the month
abbrev pub in_year : ℕ → ℕ → MonthDay
in_year y n = record { month = month_of_day (days_before (12 * y) + n) % 12 + 1; day = (month_day (days_before (12 * y) + n)).day }

-- day d of year y, counted from 1, if the year has it
unfoldable pub date_in_year : ℕ → ℕ → Option MonthDay
date_in_year y d = cond (leb 1 d && leb d (year_length y)) (Some (in_year y (d - 1))) None
