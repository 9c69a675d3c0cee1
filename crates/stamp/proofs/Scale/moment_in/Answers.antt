-- `stamp::Scale::moment_in` meets its contract: range, then the spot of the axis' second.
use mathlib.Core.Path.{◌≡◌, sym, ◌∙◌}
use mathlib.Core.Bool.{true}
use mir.Syntax.{w64}
use mir.Val.{to_z, of_z}
use mir.Facts.{to_z-of_z}
use Rattle.leap.specs.declared.Table.{Table}
use Rattle.leap.proofs.Facts.{Accepted, accepted_to}
use Rattle.stamp.specs.Back.{in_range, axis_count}
use Rattle.stamp.proofs.Ranges.{range_low, range_high, count_in_years}
use Rattle.stamp.proofs.Scale.moment_in.Goals as goal
use Rattle.stamp.proofs.Scale.moment_in.Goals.{Start}

module _ (c : goal.Start) where
  abbrev table : Table
  table = c.args.t.now

  acc : Accepted table
  acc = accepted_to _ c.requires

  -- the instant reaches its callees by its bits
  same : to_z w64 (of_z w64 c.args.instant) ≡ c.args.instant
  same = to_z-of_z c.ranges.instant

pub axis-axis-requires : goal.axis-axis-requires
axis-axis-requires c =
    let b = (goal.at.axis-axis-requires c).Start in
    let within : in_range (table b) c.args.self c.args.instant ≡ true = rw (same b) at (sym c.in_range.ensures ∙ c.if-not-in_range.false) in
    rw (same b) (range_low (table b) (acc b) c.args.self c.args.instant within, range_high (table b) (acc b) c.args.self c.args.instant within)

pub spot_at-spot-requires-clause-axis_value : goal.spot_at-spot-requires-clause-axis_value
spot_at-spot-requires-clause-axis_value c =
    let b = (goal.at.spot_at-spot-requires-clause-axis_value c).Start in
    let within : in_range (table b) c.args.self c.args.instant ≡ true = rw (same b) at (sym c.in_range.ensures ∙ c.if-not-in_range.false) in
    let axis : c.axis-axis.result ≡ axis_count c.args.self c.args.instant = rw (same b) at c.axis-axis.ensures in
    rw axis (count_in_years (table b) (acc b) c.args.self c.args.instant within)
