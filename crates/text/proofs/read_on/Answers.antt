use mathlib.Core.Path.{◌≡◌, sym, ap, ◌∙◌}
use lib.IntN.{ℤ}
use Rattle.std.proofs.lemmas.Result.{err_from_is_err_and}
use Rattle.std.specs.Prelude.{Result}
use Rattle.answer.specs.declared.Refusal.{Refusal}
use Rattle.pictures.specs.Reading.{read_fields}
use Rattle.stamp.specs.declared.Stamp.{Stamp}
use Rattle.stamp.specs.Promise.{stamp}
use Rattle.text.specs.Text.{read_answer, fields_read}
use Rattle.text.proofs.Answers.{as_text, read_as}
use Rattle.text.proofs.read_on.Goals as goal
use Rattle.text.proofs.read_on.Goals.{After-instant_in}

-- the answer to fields, from the answer of `stamp`
module _ (c : goal.After-instant_in) where
  answered : {v : Result ℤ Refusal} → c.instant_in.result ≡ v → as_text (stamp c.args.scale c.reading_of-reading.result) v ≡ fields_read c.args.t.now c.args.scale (read_fields c.args.text.now)
  answered e =
      read_as c.args.t.now c.args.scale c.reading_of-reading.result (sym e ∙ c.instant_in.ensures)
      ∙ ap (read_answer c.args.t.now c.args.scale) c.reading_of-reading.ensures
      ∙ ap (fields_read c.args.t.now c.args.scale) (sym c.in-Some.is ∙ c.read_fields.ensures)

pub returns-in_err-instant : goal.returns-in_err-instant
returns-in_err-instant c =
    let p = err_from_is_err_and {T = ℤ × Stamp} {E = Refusal} c.from_residual.result c.from_residual.ensures.1 in
    rw (p.1, p.2) (answered (goal.at.returns-in_err-instant c).After-instant_in c.in_err-instant.was)
