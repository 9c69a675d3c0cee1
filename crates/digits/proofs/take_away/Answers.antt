-- The number is what was taken away and what is left.
use Rattle.std.proofs.Common.{arith}
use Rattle.digits.proofs.Taking.{taken}
use Rattle.digits.proofs.take_away.Goals as goal

pub returns-then-rest-power : goal.returns-then-rest-power
returns-then-rest-power c = let i = c.loop-digit.invariant in taken i.0 i.1 (omega arith) c.if-rest-power.true
