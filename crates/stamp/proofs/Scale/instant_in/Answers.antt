-- `stamp::Scale::instant_in` meets its contract: `judge` first, then the scale's own second.
use mathlib.Core.Path.{◌≡◌, sym, ap, ◌∙◌}
use mathlib.Core.List.{[], ◌∷◌}
use Prim.Native.Nat.{ℕ}
use Rattle.std.proofs.lemmas.Result.{err_from_is_err_and}
use Rattle.std.specs.Prelude.{Result, Ok, Err}
use lib.IntN.{ℤ}
use Rattle.answer.specs.declared.Refusal.{Refusal}
use Rattle.answer.specs.declared.Refusal.TheVariants.{NoSecond as NOSECOND}
use Rattle.answer.specs.Refusals.{refusing}
use Rattle.leap.specs.declared.Table.{Table}
use Rattle.labels.specs.declared.Month.{Month}
use Rattle.labels.specs.Labels.{judged, has_second}
use Rattle.stamp.specs.Scales.{offsets_of, most_second, instant_for}
use Rattle.stamp.specs.Stamps.{instant_in}
use Rattle.labels.proofs.Judging.{on_month, then_judged}
use Rattle.stamp.proofs.Scale.instant_in.Goals as goal
use Rattle.stamp.proofs.Scale.instant_in.Goals.{After-judge}

module _ (c : goal.After-judge) where
  abbrev table : Table
  table = c.args.t.now

  told : judged (most_second c.args.self) c.args.r ≡ c.judge.result
  told = sym (c.judge.ensures ∙ ap (λ (n : ℕ). judged n c.args.r) c.most_second.ensures)

  -- past the fields only the second is asked
  abbrev rest : Month → Result ℤ Refusal
  rest m = refusing Err ((has_second (offsets_of table c.args.self) c.args.r.label, NOSECOND) ∷ []) (Ok (instant_for table c.args.self c.args.r))

  answered : {v : Result Month Refusal} → c.judge.result ≡ v → on_month Err rest v ≡ instant_in table c.args.self c.args.r
  answered e = then_judged (most_second c.args.self) c.args.r Err rest (told ∙ e)

pub returns : goal.returns
returns c = c.instant_judged.ensures ∙ answered (goal.at.returns c).After-judge c.in_ok-month.was

pub returns-in_err-month : goal.returns-in_err-month
returns-in_err-month c =
    let p = err_from_is_err_and c.from_residual.result c.from_residual.ensures.1 in
    rw (p.1, p.2) (answered (goal.at.returns-in_err-month c).After-judge c.in_err-month.was)
