-- `stamp::Scale::instant` meets its contract: no step leaves an i64.
use mathlib.Core.Path.{◌≡◌, sym, subst}
use borrow.Author.Rules.{sfits_of}
use lib.IntN.{ℤ, pos, ◌-ℤ◌}
use mir.Syntax.{w64}
use mir.Val.{SFits}
use mir.Facts.{to_z-of_z}
use Rattle.laws.proofs.Machine.{Within, read1}
use Rattle.labels.specs.Seconds.{axis_at}
use Rattle.stamp.specs.Scales.{to_instant}
use Rattle.stamp.proofs.Scales.{fixed_small}
use Rattle.stamp.proofs.Fitting.{axis_in, past_fits, instant_fits}
use Rattle.stamp.proofs.Scale.instant.Goals as goal
use Rattle.stamp.proofs.Scale.instant.Goals.{After-fixed-f}

module _ (c : goal.After-fixed-f) where
  axis_is : c.axis_at-a.result ≡ axis_at c.args.micro c.args.offset
  axis_is = read1 (axis_at c.args.micro) c.ranges.offset c.axis_at-a.ensures

  small : Within 100000000 100000000 c.fixed-f.result
  small = subst (λ (z : ℤ). Within 100000000 100000000 z) (sym c.fixed-f.ensures) (fixed_small c.args.self)

  large : Within 410000000000000000 3000000000000000 c.axis_at-a.result
  large = subst (λ (z : ℤ). Within 410000000000000000 3000000000000000 z) (sym axis_is) (axis_in c.args.micro c.args.offset c.requires c.ranges.offset)

  axis_ok : SFits w64 c.axis_at-a.result
  axis_ok = sfits_of c.axis_at-a.type_inv

  fixed_ok : SFits w64 c.fixed-f.result
  fixed_ok = sfits_of c.fixed-f.type_inv

  past : SFits w64 (c.axis_at-a.result -ℤ pos 63113947200000000)
  past = past_fits c.axis_at-a.result c.fixed-f.result large small

  whole : SFits w64 ((c.axis_at-a.result -ℤ pos 63113947200000000) -ℤ c.fixed-f.result)
  whole = instant_fits c.axis_at-a.result c.fixed-f.result large small

pub overflow_sub-result : goal.overflow_sub-result
unfolding to_instant
overflow_sub-result c = rw (to_z-of_z (axis_ok (goal.at.overflow_sub-result c).After-fixed-f)) (past (goal.at.overflow_sub-result c).After-fixed-f)

pub overflow_sub-result-2 : goal.overflow_sub-result-2
unfolding to_instant
overflow_sub-result-2 c = rw (to_z-of_z (axis_ok (goal.at.overflow_sub-result-2 c).After-fixed-f), to_z-of_z (past (goal.at.overflow_sub-result-2 c).After-fixed-f), to_z-of_z (fixed_ok (goal.at.overflow_sub-result-2 c).After-fixed-f)) (whole (goal.at.overflow_sub-result-2 c).After-fixed-f)

pub returns : goal.returns
unfolding to_instant
returns c = rw (to_z-of_z (axis_ok (goal.at.returns c).After-fixed-f), to_z-of_z (past (goal.at.returns c).After-fixed-f), to_z-of_z (fixed_ok (goal.at.returns c).After-fixed-f), to_z-of_z (whole (goal.at.returns c).After-fixed-f), axis_is (goal.at.returns c).After-fixed-f, c.fixed-f.ensures)
