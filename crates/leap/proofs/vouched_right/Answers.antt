-- The code compares the number and not the month.
use mathlib.Core.Path.{◌∙◌}
use native.Mathlib.Omega.{arith}
use borrow.Author.Tests.{eq-eqb, le-ltb}
use Rattle.leap.proofs.Vouched.{none_right, early_wrong, rest_right}
use Rattle.leap.proofs.vouched_right.Goals as goal

pub returns-then-vouched-eq0 : goal.returns-then-vouched-eq0
returns-then-vouched-eq0 c = eq-eqb _ _ c.if-vouched-eq0.true ∙ none_right _ (omega arith)

pub returns-then-last-vouched : goal.returns-then-last-vouched
returns-then-last-vouched c = rest_right _ (omega arith) c.if-last-vouched.true

pub returns-else-last-vouched : goal.returns-else-last-vouched
returns-else-last-vouched c = le-ltb _ _ c.if-last-vouched.false ∙ early_wrong _ (omega arith) c.if-last-vouched.false
