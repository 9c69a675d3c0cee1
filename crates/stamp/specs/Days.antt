-- What Julian dates are worked out by: the day that a scale shows at an instant, and the instant of a microsecond of a day. A reader may skip this file: `Pairs`
-- of the crate `julian` fixes what comes of it.
-- Assumes nothing.
use Rattle.std.specs.Prelude.{Bool, ◌&&◌, List, [], ◌∷◌, ◌++◌, ℕ, ◌+◌, ◌*◌, leb, ℤ, Result, Ok, Err}
use Rattle.answer.specs.declared.Refusal.{Refusal}
use Rattle.answer.specs.declared.Refusal.TheVariants.{Range as RANGE}
use Rattle.answer.specs.Refusals.{refusing}
use Rattle.calendar.specs.Days.{month_of_day}
use Rattle.leap.specs.declared.Table.{Table}
use Rattle.labels.specs.declared.Reading.{Reading}
use Rattle.labels.specs.Labels.{Offsets}
use Rattle.labels.specs.Seconds.{day_count, micro_of_day, axis_at, first_day, last_day}
use Rattle.labels.specs.Lengths.{day_seconds}
use Rattle.stamp.specs.declared.Scale.{Scale}
use Rattle.stamp.specs.declared.DayTime.{DayTime}
use Rattle.stamp.specs.declared.DayStart.{DayStart}
use Rattle.stamp.specs.declared.DaySpan.{DaySpan}
use Rattle.stamp.specs.Scales.{scale_of, scale_tests, offsets_of, to_instant}
use Rattle.stamp.specs.Back.{in_range, stamp_at}

-- ---- shown at an instant

abbrev pub day_time : Offsets → Reading → DayTime
day_time o r = record { day = day_count r.label; micro = micro_of_day r; seconds = day_seconds o (day_count r.label) }

-- `shown_of`, without its mark
unfoldable pub shown_of : Table → ℤ → ℕ → Result DayTime Refusal
shown_of t x k = refusing Err (scale_tests t k ++ (in_range t (scale_of k) x, RANGE) ∷ []) (Ok (day_time (offsets_of t (scale_of k)) (stamp_at t (scale_of k) x).reading))

-- ---- the instant of a microsecond of a day

abbrev pub day_start : Offsets → ℕ → DayStart
day_start o d = record { number = d; month = month_of_day d; offset = o (month_of_day d) }

-- `day_on`
abbrev pub day_on : Offsets → ℕ → DaySpan
day_on o d = record { this = day_start o d; next = day_start o (d + 1); seconds = day_seconds o d }

-- the microseconds of a day with an added second
abbrev pub longest : ℕ
longest = 86401000000

-- a day from 1972 to 9999, and no more microseconds than a day can have
abbrev pub day_tests : DayStart → ℕ → List (Bool × Refusal)
day_tests b u = (leb first_day b.number && leb b.number last_day, RANGE) ∷ (leb u longest, RANGE) ∷ []

abbrev pub instant_after : Scale → DayStart → ℕ → ℤ
instant_after s b u = to_instant s (axis_at (86400000000 * b.number + u) b.offset)

-- `instant_on`, without its mark
unfoldable pub instant_on : Scale → DayStart → ℕ → Result ℤ Refusal
instant_on s b u = refusing Err (day_tests b u) (Ok (instant_after s b u))
