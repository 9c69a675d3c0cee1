-- Accepted or not.
use mathlib.Core.Path.{sym, ◌∙◌}
use Rattle.laws.proofs.Branches.{cond_yes, cond_rest}
use Rattle.leap.proofs.judge.Goals as goal

pub returns-then-is_accepted : goal.returns-then-is_accepted
returns-then-is_accepted c = cond_yes _ (sym c.is_accepted.ensures ∙ c.if-is_accepted.true) c.found.ensures

pub returns : goal.returns
returns c = cond_rest _ (sym c.is_accepted.ensures ∙ c.if-is_accepted.false) c.refused_at.ensures
