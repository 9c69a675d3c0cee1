-- `clock::tick_in` meets its contract: `judge` first, then UTC's own second and the rule.
use mathlib.Core.Path.{◌≡◌, sym, ◌∙◌}
use mathlib.Core.List.{[], ◌∷◌}
use borrow.Author.Rules.{rules}
use Rattle.std.specs.Prelude.{Result, Err}
use Rattle.answer.specs.declared.Refusal.{Refusal}
use Rattle.answer.specs.declared.Refusal.TheVariants.{NoSecond as NOSECOND}
use Rattle.answer.specs.Refusals.{refusing}
use Rattle.months.specs.Months.{month_length}
use Rattle.leap.specs.declared.Table.{Table}
use Rattle.leap.specs.Leap.{offset_at}
use Rattle.labels.specs.declared.Label.{Label}
use Rattle.labels.specs.declared.Month.{Month}
use Rattle.labels.specs.Labels.{whole, month_of, minute_length, has_second}
use Rattle.labels.proofs.Judging.{then_judged}
use Rattle.clock.specs.Clock.{next}
use Rattle.clock.proofs.tick_in.Goals as goal

-- past the fields only the second is asked
abbrev rest : Table → Label → Month → Result Label Refusal
rest t l m = refusing Err ((has_second (offset_at t) l, NOSECOND) ∷ []) (next (month_length (month_of l)) (minute_length (offset_at t) l) l)

pub returns-in_err-month : goal.returns-in_err-month
returns-in_err-month c =
    let e : c.from_residual.result ≡ Err c.in_err-month.field-0.0 = search rules in
    e ∙ then_judged 60 (whole c.args.l) Err (rest c.args.t.now c.args.l) (sym c.in_err-month.ensures)

pub returns : goal.returns
returns c =
    c.tick_judged.ensures ∙ then_judged 60 (whole c.args.l) Err (rest c.args.t.now c.args.l) (sym c.in_ok-month.ensures)
