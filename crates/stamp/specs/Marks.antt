-- The marks beside answers: an answer that used UTC says whether its UTC month lies beyond the last that the table is vouched for. A uniform scale has no mark,
-- and neither has a refusal. The answers themselves are those of Stamps and Days.
-- Assumes nothing.
use Rattle.stamp.specs.declared.DayTime.{DayTime}
use Rattle.stamp.specs.declared.Stamp.{Stamp}
use Rattle.std.specs.Prelude.{Bool, false, ℕ, ℤ}
use Rattle.leap.specs.declared.Table.{Table}
use Rattle.leap.specs.Leap.{beyond}
use Rattle.labels.specs.declared.Reading.{Reading}
use Rattle.labels.specs.Labels.{month_of}
use Rattle.answer.specs.declared.Marked.{Marked}
use Rattle.answer.specs.Marks.{marked}
use Rattle.stamp.specs.declared.Scale.{Scale}
use Rattle.stamp.specs.declared.Scale.TheVariants.{Utc, Tai, Tdt, Gps}
use Rattle.stamp.specs.declared.DayStart.{DayStart}
use Rattle.stamp.specs.Scales.{scale_of}
use Rattle.stamp.specs.Stamps.{instant_of, stamp_of}
use Rattle.stamp.specs.Back.{stamp_at}
use Rattle.stamp.specs.Days.{shown_of, instant_on}

-- `beyond_on`: the calendar's month m on a scale, under a table of number v
abbrev pub beyond_on : ℕ → Scale → ℕ → Bool
beyond_on v Utc m = beyond v m
beyond_on v Tai m = false
beyond_on v Tdt m = false
beyond_on v Gps m = false

-- the month of a reading, and that of the reading which stands for an instant
abbrev pub beyond_reading : Table → Scale → Reading → Bool
beyond_reading t s r = beyond_on t.vouched s (month_of r.label)

abbrev pub beyond_at : Table → Scale → ℤ → Bool
beyond_at t s x = beyond_reading t s (stamp_at t s x).reading

-- ---- the calls

-- `instant_of`: the reading that is given
abbrev pub instant_of_marked : Table → ℕ → Reading → Marked ℤ
instant_of_marked t k r = marked (instant_of t k r) (beyond_reading t (scale_of k) r)

-- `stamp_of`: the reading that is answered
abbrev pub stamp_of_marked : Table → ℤ → ℕ → Marked Stamp
stamp_of_marked t x k = marked (stamp_of t x k) (beyond_at t (scale_of k) x)

-- `shown_of` and `instant_on`, for Julian dates
abbrev pub shown_of_marked : Table → ℤ → ℕ → Marked DayTime
shown_of_marked t x k = marked (shown_of t x k) (beyond_at t (scale_of k) x)

abbrev pub instant_on_marked : ℕ → Scale → DayStart → ℕ → Marked ℤ
instant_on_marked v s b u = marked (instant_on s b u) (beyond_on v s b.month)
