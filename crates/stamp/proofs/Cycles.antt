-- An instant with whole cycles of 400 years not counted month by month: for rows that are computed.
-- Assumes nothing.
use mathlib.Core.Path.{◌≡◌, refl}
use Prim.Native.Nat.{◌+◌, ◌*◌, ◌-◌, ◌/◌, ◌%◌}
use lib.IntN.{ℤ}
use Rattle.months.specs.Months.{days_before}
use Rattle.months.proofs.Laws.{days_split}
use Rattle.leap.specs.declared.Table.{Table}
use Rattle.labels.specs.declared.Reading.{Reading}
use Rattle.labels.specs.Labels.{month_of}
use Rattle.labels.specs.Seconds.{time_of_day, second_of, axis_at}
use Rattle.stamp.specs.declared.Scale.{Scale}
use Rattle.stamp.specs.Scales.{offsets_of, to_instant, instant_for}

abbrev pub quick_instant : Table → Scale → Reading → ℤ
quick_instant t s r =
    let m = month_of r.label in
    to_instant s (axis_at (1000000 * (86400 * ((m / 4800 * 146097 + days_before (m % 4800)) + (r.label.day - 1)) + time_of_day r.label) + r.micro) (offsets_of t s m))

pub quick_instant_lem : (t : Table) (s : Scale) (r : Reading) → instant_for t s r ≡ quick_instant t s r
unfolding second_of
quick_instant_lem t s r = rw (days_split (month_of r.label)) refl
