use mathlib.Core.Path.{◌≡◌, sym, ◌∙◌}
use Rattle.std.proofs.lemmas.Result.{err_from_is_err_and}
use Rattle.std.specs.Prelude.{Result, Err, ℤ}
use Rattle.answer.specs.declared.Refusal.{Refusal}
use Rattle.pictures.specs.Reading.{read_fields}
use Rattle.stamp.specs.declared.Scale.{Scale}
use Rattle.stamp.specs.declared.Stamp.{Stamp}
use Rattle.stamp.proofs.First.{on_scale, then_asked}
use Rattle.text.specs.Text.{fields_read, read_text}
use Rattle.text.proofs.read.Goals as goal
use Rattle.text.proofs.read.Goals.{After-asked}

module _ (c : goal.After-asked) where
  -- the answer where the scale is k
  abbrev on : Scale → Result (ℤ × Stamp) Refusal
  on k = fields_read c.args.t.now k (read_fields c.args.text.now)

  answered : {v : Result Scale Refusal} → c.asked.result ≡ v → on_scale Err on v ≡ read_text c.args.t.now c.args.scale c.args.text.now
  unfolding read_text
  answered e = then_asked c.args.t.now c.args.scale Err on (sym c.asked.ensures ∙ e)

pub returns : goal.returns
returns c = c.read_on.ensures ∙ answered (goal.at.returns c).After-asked c.in_ok-scale.was

pub returns-in_err-scale : goal.returns-in_err-scale
returns-in_err-scale c =
    let p = err_from_is_err_and c.from_residual.result c.from_residual.ensures.1 in
    rw (p.1, p.2) (answered (goal.at.returns-in_err-scale c).After-asked c.in_err-scale.was)
