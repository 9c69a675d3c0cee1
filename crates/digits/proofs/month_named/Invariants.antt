-- None of the months passed has the name.
use Rattle.std.proofs.Common.{◌≡◌, [], ◌∷◌, ◌-◌}
use Rattle.digits.specs.Months.{among_months, month_named}
use Rattle.digits.proofs.month_named.Given as goal

abbrev pub invariant-loop-passed : goal.invariant-loop-passed
invariant-loop-passed l = among_months (12 - l.passed) (l.a ∷ l.b ∷ l.c ∷ []) ≡ month_named (l.a ∷ l.b ∷ l.c ∷ [])
