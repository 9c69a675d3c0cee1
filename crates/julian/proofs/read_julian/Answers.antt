use Rattle.std.specs.Prelude.{Result, Err, ℤ}
use Rattle.std.proofs.Common.{◌≡◌, Bool, false, sym, ◌∙◌}
use Rattle.answer.specs.declared.Refusal.{Refusal}
use Rattle.answer.proofs.Orders.{refusing_map}
use Rattle.answer.specs.declared.Marked.{Marked}
use Rattle.answer.specs.Marks.{marked}
use Rattle.stamp.specs.declared.Scale.{Scale}
use Rattle.stamp.specs.Scales.{scale_of, scale_tests}
use Rattle.stamp.proofs.First.{on_scale, then_asked}
use Rattle.julian.specs.Dates.{read_in, read_julian}
use Rattle.julian.specs.Marks.{beyond_read, read_in_marked, read_julian_marked}
use Rattle.julian.proofs.read_julian.Goals as goal
use Rattle.julian.proofs.read_julian.Goals.{After-asked}

abbrev refused : Refusal → Marked ℤ
refused why = marked (Err why) false

module _ (c : goal.After-asked) where
  -- the mark where the scale is k
  abbrev mark : Scale → Bool
  mark k = beyond_read c.args.t.now k c.args.date

  answered : {v : Result Scale Refusal} → c.asked.result ≡ v → on_scale refused (λ k. read_in_marked c.args.t.now k c.args.date) v ≡ read_julian_marked c.args.t.now c.args.scale c.args.date
  unfolding read_julian
  answered e =
      then_asked c.args.t.now c.args.scale refused (λ k. read_in_marked c.args.t.now k c.args.date) (sym c.asked.ensures ∙ e)
      ∙ sym (refusing_map (λ a. marked a (mark (scale_of c.args.scale))) Err (scale_tests c.args.t.now c.args.scale) (read_in c.args.t.now (scale_of c.args.scale) c.args.date))

pub returns-in-Ok : goal.returns-in-Ok
returns-in-Ok c = c.read_in.ensures ∙ answered (goal.at.returns-in-Ok c).After-asked c.in-Ok.is

pub returns-in-Err : goal.returns-in-Err
returns-in-Err c = c.refused.ensures ∙ answered (goal.at.returns-in-Err c).After-asked c.in-Err.is
