-- What the contracts of private functions cite. A reader may skip this file.
-- Assumes nothing.
use Rattle.answer.specs.declared.Refusal.{Refusal}
use Rattle.std.specs.Prelude.{Bool, cond, [], ◌∷◌, ℕ, ◌+◌, ◌-◌, ◌*◌, ◌/◌, ◌%◌, ℤ, pos, Result, Ok, Err}
use Rattle.answer.specs.declared.Refusal.TheVariants.{Range as RANGE}
use Rattle.answer.specs.Refusals.{refusing}
use Rattle.leap.specs.declared.Table.{Table}
use Rattle.labels.specs.Labels.{Offsets}
use Rattle.labels.specs.Seconds.{day_count}
use Rattle.labels.specs.Lengths.{day_seconds}
use Rattle.labels.specs.Back.{place_at, label_at, label_of, day_of}
use Rattle.stamp.specs.declared.Scale.{Scale}
use Rattle.stamp.specs.declared.Scale.TheVariants.{Utc, Tai, Tdt, Gps}
use Rattle.stamp.specs.declared.Stamp.{Stamp}
use Rattle.stamp.specs.declared.DayTime.{DayTime}
use Rattle.stamp.specs.declared.DayStart.{DayStart}
use Rattle.stamp.specs.declared.Spot.{Spot}
use Rattle.stamp.specs.declared.Moment.{Moment}
use Rattle.stamp.specs.Scales.{scale_of, scale_tests, offsets_of}
use Rattle.stamp.specs.Back.{in_range, axis_count}

-- a scale's offset in January 1972, under every accepted table
abbrev pub first_offset : Scale → ℤ
first_offset Utc = pos 10
first_offset Tai = pos 0
first_offset Tdt = pos 0
first_offset Gps = pos 0

-- a second of the axis: its month, and the seconds of its day
abbrev pub spot_at : Offsets → ℕ → Spot
spot_at o s = record { place = place_at o s; seconds = day_seconds o (day_count (label_at o s)) }

-- `day_after`
abbrev pub day_after : DayStart → Bool → ℤ → DayStart
day_after b last offset = record { number = b.number + 1; month = cond last (b.month + 1) b.month; offset = cond last offset b.offset }

-- where an instant falls: a second, and the microsecond of that
abbrev pub moment_at : Table → Scale → ℤ → Moment
moment_at t s x = record { scale = s; spot = spot_at (offsets_of t s) (axis_count s x / 1000000); micro = axis_count s x % 1000000 }

abbrev pub moment_in : Table → Scale → ℤ → Result Moment Refusal
moment_in t s x = refusing Err ((in_range t s x, RANGE) ∷ []) (Ok (moment_at t s x))

unfoldable pub moment_of : Table → ℤ → ℕ → Result Moment Refusal
moment_of t x k = refusing Err (scale_tests t k) (moment_in t (scale_of k) x)

-- what is answered where an instant falls: its stamp, and the day that it is on with the microsecond of that
abbrev pub moment_stamp : Moment → Stamp
moment_stamp m = record { scale = m.scale; reading = record { label = label_of m.spot.place; micro = m.micro } }

abbrev pub moment_day : Moment → DayTime
moment_day m =
    let p = m.spot.place in
    let d = day_of p.days p.second in
    record { day = p.start + d; micro = 1000000 * (p.second - 86400 * d) + m.micro; seconds = m.spot.seconds }
