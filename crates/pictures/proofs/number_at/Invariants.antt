use mathlib.Core.Path.{◌≡◌}
use Rattle.digits.specs.Decimals.{number_at}
use Rattle.pictures.proofs.number_at.Given as goal

abbrev pub invariant-loop-b : goal.invariant-loop-b
invariant-loop-b g l = l.n ≡ number_at l.t l.i l.b-index
