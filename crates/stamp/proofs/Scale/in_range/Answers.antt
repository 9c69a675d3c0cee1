-- `stamp::Scale::in_range` meets its contract: outside the code's window no instant is in range.
use mathlib.Core.Path.{◌≡◌, sym, ap, ◌∙◌}
use mathlib.Core.Bool.{true, false}
use native.Mathlib.Omega.{arith}
use lib.IntN.{ℤ, pos, negsuc}
use lib.Signed.{le_z, ◌≤ℤ◌}
use mir.Syntax.{w64}
use mir.Val.{to_z, of_z}
use mir.Facts.{to_z-of_z}
use Rattle.laws.proofs.Difference.{le_z_true, le_z_false, le_from}
use Rattle.leap.specs.declared.Table.{Table}
use Rattle.leap.proofs.Facts.{Accepted, accepted_to}
use Rattle.labels.specs.Seconds.{in_years}
use Rattle.stamp.specs.Scales.{offsets_of}
use Rattle.stamp.proofs.Ranges.{too_early, too_late, near_axis, near_count}
use Rattle.stamp.proofs.Scale.in_range.Goals as goal
use Rattle.stamp.proofs.Scale.in_range.Goals.{Start}

module _ (c : goal.Start) where
  abbrev table : Table
  table = c.args.t.now

  acc : Accepted table
  acc = accepted_to _ c.requires

  -- the instant reaches its callees by its bits
  same : to_z w64 (of_z w64 c.args.instant) ≡ c.args.instant
  same = to_z-of_z c.ranges.instant

  low : le_z (negsuc 62999999999999999) (to_z w64 (of_z w64 c.args.instant)) ≡ true → negsuc 62999999999999999 ≤ℤ c.args.instant
  low e = le_from (negsuc 62999999999999999) c.args.instant (le_z_true (negsuc 62999999999999999) c.args.instant (rw same at e))

  high : le_z (to_z w64 (of_z w64 c.args.instant)) (pos 300000000000000000) ≡ true → c.args.instant ≤ℤ pos 300000000000000000
  high e = le_from c.args.instant (pos 300000000000000000) (le_z_true c.args.instant (pos 300000000000000000) (rw same at e))

pub in_years-requires : goal.in_years-requires
in_years-requires c =
    let b = (goal.at.in_years-requires c).Start in
    (c.requires, omega (arith, rw (same b) at c.axis.ensures, near_count c.args.self c.args.instant (low b c.if-instant-ge-EARLIEST.true) (high b c.if-instant-le-LATEST.true)))

pub returns-then-instant-le-LATEST : goal.returns-then-instant-le-LATEST
returns-then-instant-le-LATEST c =
    let b = (goal.at.returns-then-instant-le-LATEST c).Start in
    c.in_years.ensures
    ∙ ap (λ (a : ℤ). in_years (offsets_of (table b) c.args.self) a) (ap pos (rw (same b) at c.axis.ensures) ∙ sym (near_axis c.args.self c.args.instant (low b c.if-instant-ge-EARLIEST.true) (high b c.if-instant-le-LATEST.true)))

pub returns-else-instant-le-LATEST : goal.returns-else-instant-le-LATEST
returns-else-instant-le-LATEST c =
    let b = (goal.at.returns-else-instant-le-LATEST c).Start in
    let z : le_z c.args.instant (pos 300000000000000000) ≡ false = rw (same b) at c.if-instant-le-LATEST.false in
    c.if-instant-le-LATEST.false ∙ sym (too_late (table b) (acc b) c.args.self c.args.instant (omega (arith, le_z_false c.args.instant (pos 300000000000000000) z)))

pub returns-else-instant-ge-EARLIEST : goal.returns-else-instant-ge-EARLIEST
returns-else-instant-ge-EARLIEST c =
    let b = (goal.at.returns-else-instant-ge-EARLIEST c).Start in
    let z : le_z (negsuc 62999999999999999) c.args.instant ≡ false = rw (same b) at c.if-instant-ge-EARLIEST.false in
    c.if-instant-ge-EARLIEST.false ∙ sym (too_early (table b) (acc b) c.args.self c.args.instant (omega (arith, le_z_false (negsuc 62999999999999999) c.args.instant z)))
