-- `julian::in_years` meets its contract: the code has its two numbers by their bit patterns.
use Rattle.std.proofs.Common.{refl, ◌∙◌}
use lib.Ieee.{of_bits}
use Rattle.laws.proofs.Branches.{and_no, and_rest}
use Rattle.julian.specs.Midnight.{midnight_in_years}
use Rattle.julian.proofs.in_years.Goals as goal

pub returns-then-x : goal.returns-then-x
unfolding midnight_in_years of_bits
returns-then-x c = and_rest c.if-x.true refl

pub returns-else-x : goal.returns-else-x
unfolding midnight_in_years of_bits
returns-else-x c = c.if-x.false ∙ and_no _ c.if-x.false
