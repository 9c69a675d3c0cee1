-- Among the entries up to k the last that has begun is the last of all: those past k have not.
use mathlib.Core.Path.{refl, sym, ◌∙◌}
use native.Mathlib.Omega.{arith}
use borrow.Author.Tests.{leb-true, leb-false}
use Rattle.leap.proofs.Begun.{begun_all, begun_before, begun_first}
use Rattle.leap.proofs.last_begun.Goals as goal

pub loop-k-init : goal.loop-k-init
loop-k-init c = (omega arith, refl)

pub returns-then-has_begun : goal.returns-then-has_begun
returns-then-has_begun c = (sym (begun_all _ _ _ (leb-true _ _ (sym c.has_begun.ensures ∙ c.if-has_begun.true))) ∙ c.loop-k.invariant.1, omega arith)

pub loop-k-preserved : goal.loop-k-preserved
loop-k-preserved c = (omega arith, sym (begun_before _ _ _ c.loop-k-test.true (leb-false _ _ (sym c.has_begun.ensures ∙ c.if-has_begun.false))) ∙ c.loop-k.invariant.1)

pub returns : goal.returns
returns c = (sym (begun_first _ _ _ c.loop-k-test.false) ∙ c.loop-k.invariant.1, omega arith)
