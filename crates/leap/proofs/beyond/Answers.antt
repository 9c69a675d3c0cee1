-- The code adds one month in place of taking one away.
use mathlib.Core.Path.{ap, ◌∙◌}
use mathlib.Core.Bool.{not}
use native.Mathlib.Omega.{arith}
use borrow.Author.Tests.{eq-eqb}
use Rattle.leap.proofs.Vouched.{none_beyond, beyond_is}
use Rattle.leap.proofs.beyond.Goals as goal

pub returns-then-vouched-ne0 : goal.returns-then-vouched-ne0
returns-then-vouched-ne0 c = beyond_is _ (omega arith)

pub returns-else-vouched-ne0 : goal.returns-else-vouched-ne0
returns-else-vouched-ne0 c = ap not (eq-eqb _ _ c.if-vouched-ne0.false) ∙ none_beyond _ (omega arith)
