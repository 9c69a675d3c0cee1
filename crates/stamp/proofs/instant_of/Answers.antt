use mathlib.Core.Path.{◌≡◌, sym, ap, ap₂, ◌∙◌}
use mathlib.Core.Bool.{Bool, false}
use Rattle.std.specs.Prelude.{Result, Err, ℤ}
use Rattle.answer.specs.declared.Refusal.{Refusal}
use Rattle.answer.proofs.Orders.{refusing_map}
use Rattle.answer.specs.declared.Marked.{Marked}
use Rattle.answer.specs.Marks.{marked}
use Rattle.stamp.specs.declared.Scale.{Scale}
use Rattle.stamp.specs.Scales.{scale_of, scale_tests}
use Rattle.stamp.specs.Stamps.{instant_in, instant_of}
use Rattle.stamp.specs.Marks.{beyond_on, beyond_reading, instant_of_marked}
use Rattle.stamp.proofs.First.{on_scale, then_asked}
use Rattle.stamp.proofs.instant_of.Goals as goal
use Rattle.stamp.proofs.instant_of.Goals.{After-asked}

abbrev refused : Refusal → Marked ℤ
refused why = marked (Err why) false

module _ (c : goal.After-asked) where
  -- the mark where the scale is k
  abbrev mark : Scale → Bool
  mark k = beyond_reading c.args.t.now k c.args.r

  answered : {v : Result Scale Refusal} → c.asked.result ≡ v → on_scale refused (λ k. marked (instant_in c.args.t.now k c.args.r) (mark k)) v ≡ instant_of_marked c.args.t.now c.args.scale c.args.r
  unfolding instant_of
  answered e =
      then_asked c.args.t.now c.args.scale refused (λ k. marked (instant_in c.args.t.now k c.args.r) (mark k)) (sym c.asked.ensures ∙ e)
      ∙ sym (refusing_map (λ a. marked a (mark (scale_of c.args.scale))) Err (scale_tests c.args.t.now c.args.scale) (instant_in c.args.t.now (scale_of c.args.scale) c.args.r))

pub returns-in-Ok : goal.returns-in-Ok
returns-in-Ok c =
    c.new.ensures
    ∙ ap₂ marked c.instant_in.ensures (c.beyond_on-beyond.ensures ∙ ap (beyond_on c.args.t.now.vouched c.in-Ok.s) c.month_of.ensures)
    ∙ answered (goal.at.returns-in-Ok c).After-asked c.in-Ok.is

pub returns-in-Err : goal.returns-in-Err
returns-in-Err c = c.refused_instant.ensures ∙ answered (goal.at.returns-in-Err c).After-asked c.in-Err.is
