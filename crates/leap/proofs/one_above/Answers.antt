-- Only the lesser number is raised, so the sum fits.
use mathlib.Core.Path.{◌∙◌}
use Rattle.laws.proofs.Machine.{raise_fits, raised, not_raised}
use Rattle.leap.proofs.one_above.Goals as goal

pub overflow_add-result : goal.overflow_add-result
overflow_add-result c = let f = c.ranges in raise_fits f.low f.high c.if-low-high.true

pub returns-then-low-high : goal.returns-then-low-high
returns-then-low-high c = let f = c.ranges in raised f.low f.high c.if-low-high.true

pub returns-else-low-high : goal.returns-else-low-high
returns-else-low-high c = c.if-low-high.false ∙ (let f = c.ranges in not_raised f.low f.high c.if-low-high.false)
