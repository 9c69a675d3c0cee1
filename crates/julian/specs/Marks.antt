-- The marks beside answers: on UTC, whether the month of the instant's label lies beyond the last that the table is vouched for. A uniform scale has no mark,
-- and neither has a refusal. The answers themselves are those of Dates.
-- Assumes nothing.
use Rattle.std.specs.Prelude.{ℕ, Bool, ℤ}
use Rattle.answer.specs.declared.Marked.{Marked}
use Rattle.answer.specs.Marks.{marked}
use Rattle.calendar.specs.Days.{month_of_day}
use Rattle.leap.specs.declared.Table.{Table}
use Rattle.stamp.specs.declared.Scale.{Scale}
use Rattle.stamp.specs.Scales.{scale_of, offsets_of}
use Rattle.stamp.specs.Marks.{beyond_on, beyond_at}
use Rattle.julian.specs.declared.JulianDate.{JulianDate}
use Rattle.julian.specs.Dates.{write_julian, day_read, read_in, read_julian}

-- `write_julian`
abbrev pub write_julian_marked : Table → ℤ → ℕ → Marked JulianDate
write_julian_marked t x k = marked (write_julian t x k) (beyond_at t (scale_of k) x)

-- the month of the day that a pair is read as
abbrev pub beyond_read : Table → Scale → JulianDate → Bool
beyond_read t s p = beyond_on t.vouched s (month_of_day (day_read (offsets_of t s) p))

-- `read_in`, where scale and table were asked for
abbrev pub read_in_marked : Table → Scale → JulianDate → Marked ℤ
read_in_marked t s p = marked (read_in t s p) (beyond_read t s p)

-- `read_julian`
abbrev pub read_julian_marked : Table → ℕ → JulianDate → Marked ℤ
read_julian_marked t k p = marked (read_julian t k p) (beyond_read t (scale_of k) p)
