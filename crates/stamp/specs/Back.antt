-- The way back, from an instant to its stamp. A reader may skip this file: `Converts` of Promise fixes what comes of it.
-- Assumes nothing.
use Rattle.std.specs.Prelude.{Bool, ℕ, ℤ, nat_abs}
use Rattle.leap.specs.declared.Table.{Table}
use Rattle.labels.specs.Seconds.{in_years}
use Rattle.labels.specs.Back.{reading_at}
use Rattle.stamp.specs.declared.Scale.{Scale}
use Rattle.stamp.specs.declared.Stamp.{Stamp}
use Rattle.stamp.specs.Scales.{offsets_of, to_axis}

-- range is judged on the axis, from the scale's first label to its last
abbrev pub in_range : Table → Scale → ℤ → Bool
in_range t s x = in_years (offsets_of t s) (to_axis s x)

-- the microsecond of the axis, which in range is not negative
abbrev pub axis_count : Scale → ℤ → ℕ
axis_count s x = nat_abs (to_axis s x)

abbrev pub stamp_at : Table → Scale → ℤ → Stamp
stamp_at t s x = record { scale = s; reading = reading_at (offsets_of t s) (axis_count s x) }
