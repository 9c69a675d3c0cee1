use mathlib.Core.Path.{◌≡◌, sym, ap, ap₂, ◌∙◌}
use mathlib.Core.Bool.{Bool}
use lib.IntN.{ℤ}
use Rattle.std.specs.Prelude.{Result, Ok}
use Rattle.answer.specs.declared.Refusal.{Refusal}
use Rattle.answer.specs.Marks.{marked}
use Rattle.laws.proofs.Machine.{read1}
use Rattle.stamp.specs.declared.Moment.{Moment}
use Rattle.stamp.specs.declared.Stamp.{Stamp}
use Rattle.stamp.specs.Marks.{stamp_of_marked}
use Rattle.stamp.specs.Parts.{moment_of, moment_stamp}
use Rattle.stamp.proofs.Moments.{beside, stamp_of_moment}
use Rattle.stamp.proofs.stamp_of.Goals as goal
use Rattle.stamp.proofs.stamp_of.Goals.{After-moment_of}

module _ (c : goal.After-moment_of) where
  answered : {v : Result Moment Refusal} → c.moment_of.result ≡ v → beside moment_stamp c.args.t.now.vouched v ≡ stamp_of_marked c.args.t.now c.args.instant c.args.scale
  answered e =
      ap (beside moment_stamp c.args.t.now.vouched) (sym e ∙ read1 (λ (x : ℤ). moment_of c.args.t.now x c.args.scale) c.ranges.instant c.moment_of.ensures)
      ∙ stamp_of_moment c.args.t.now c.args.instant c.args.scale

pub returns-in-Ok : goal.returns-in-Ok
returns-in-Ok c = c.new.ensures ∙ ap₂ (λ (z : Stamp) (b : Bool). marked (Ok z) b) c.stamp.ensures c.is_beyond.ensures ∙ answered (goal.at.returns-in-Ok c).After-moment_of c.in-Ok.is

pub returns-in-Err : goal.returns-in-Err
returns-in-Err c = c.refused.ensures ∙ answered (goal.at.returns-in-Err c).After-moment_of c.in-Err.is
