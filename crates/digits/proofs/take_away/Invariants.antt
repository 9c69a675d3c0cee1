-- The number is what was taken away and what is left.
use Rattle.std.proofs.Common.{◌≡◌, ◌+◌, ◌-◌, ◌*◌, ◌≤◌}
use Rattle.digits.proofs.take_away.Given as goal

abbrev pub invariant-loop-digit : goal.invariant-loop-digit
invariant-loop-digit l = (48 ≤ l.digit) × (l.n ≡ (l.digit - 48) * l.power + l.rest)
