use mathlib.Core.Path.{◌≡◌, sym, ap, ap₂, ◌∙◌}
use mathlib.Core.Bool.{Bool}
use lib.IntN.{ℤ}
use Rattle.std.specs.Prelude.{Result, Ok}
use Rattle.answer.specs.declared.Refusal.{Refusal}
use Rattle.answer.specs.Marks.{marked}
use Rattle.laws.proofs.Machine.{read1}
use Rattle.stamp.specs.declared.Moment.{Moment}
use Rattle.stamp.specs.declared.DayTime.{DayTime}
use Rattle.stamp.specs.Marks.{shown_of_marked}
use Rattle.stamp.specs.Parts.{moment_of, moment_day}
use Rattle.stamp.proofs.Moments.{beside, shown_of_moment, moment_few}
use Rattle.stamp.proofs.shown_of.Goals as goal
use Rattle.stamp.proofs.shown_of.Goals.{After-moment_of}

module _ (c : goal.After-moment_of) where
  told : {v : Result Moment Refusal} → c.moment_of.result ≡ v → moment_of c.args.t.now c.args.instant c.args.scale ≡ v
  told e = sym (read1 (λ (x : ℤ). moment_of c.args.t.now x c.args.scale) c.ranges.instant c.moment_of.ensures) ∙ e

  answered : {v : Result Moment Refusal} → c.moment_of.result ≡ v → beside moment_day c.args.t.now.vouched v ≡ shown_of_marked c.args.t.now c.args.instant c.args.scale
  answered e = ap (beside moment_day c.args.t.now.vouched) (sym (told e)) ∙ shown_of_moment c.args.t.now c.args.instant c.args.scale

pub day_time-requires : goal.day_time-requires
day_time-requires c = moment_few c.args.t.now c.args.instant c.args.scale c.in-Ok.m (told (goal.at.day_time-requires c).After-moment_of c.in-Ok.is)

pub returns-in-Ok : goal.returns-in-Ok
returns-in-Ok c = c.new.ensures ∙ ap₂ (λ (d : DayTime) (b : Bool). marked (Ok d) b) c.day_time.ensures c.is_beyond.ensures ∙ answered (goal.at.returns-in-Ok c).After-moment_of c.in-Ok.is

pub returns-in-Err : goal.returns-in-Err
returns-in-Err c = c.refused.ensures ∙ answered (goal.at.returns-in-Err c).After-moment_of c.in-Err.is
