use mathlib.Core.Path.{◌≡◌, sym, ◌∙◌}
use lib.IntN.{ℤ}
use Rattle.std.proofs.lemmas.Result.{err_from_is_err_and}
use Rattle.std.specs.Prelude.{Result, Err}
use Rattle.stamp.specs.declared.Scale.{Scale}
use Rattle.answer.specs.declared.Refusal.{Refusal}
use Rattle.laws.proofs.Machine.{read1}
use Rattle.leap.specs.declared.Table.{Table}
use Rattle.stamp.specs.Scales.{asked}
use Rattle.stamp.specs.Parts.{moment_in, moment_of}
use Rattle.stamp.proofs.First.{on_scale, then_asked, asked_accepted}
use Rattle.stamp.proofs.moment_of.Goals as goal
use Rattle.stamp.proofs.moment_of.Goals.{After-asked}

module _ (c : goal.After-asked) where
  abbrev table : Table
  table = c.args.t.now

  told : {v : Result Scale Refusal} → c.asked.result ≡ v → asked table c.args.scale ≡ v
  told e = sym c.asked.ensures ∙ e

  answered : {v : Result Scale Refusal} → c.asked.result ≡ v → on_scale Err (λ k. moment_in table k c.args.instant) v ≡ moment_of table c.args.instant c.args.scale
  unfolding moment_of
  answered e = then_asked table c.args.scale Err (λ k. moment_in table k c.args.instant) (told e)

pub moment_in-requires : goal.moment_in-requires
moment_in-requires c =
    let a = (goal.at.moment_in-requires c).After-asked in
    asked_accepted (table a) _ _ (told a c.in_ok-s.was)

pub returns : goal.returns
returns c =
    let a = (goal.at.returns c).After-asked in
    read1 (λ (x : ℤ). moment_in (table a) c.in_ok-s.s x) c.ranges.instant c.moment_in.ensures ∙ answered a c.in_ok-s.was

pub returns-in_err-s : goal.returns-in_err-s
returns-in_err-s c =
    let p = err_from_is_err_and c.from_residual.result c.from_residual.ensures.1 in
    rw (p.1, p.2) (answered (goal.at.returns-in_err-s c).After-asked c.in_err-s.was)
