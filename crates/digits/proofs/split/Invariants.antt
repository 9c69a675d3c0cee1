-- So many pieces of 1000000000 * 2 ^ k, and what is left.
use Rattle.std.proofs.Common.{◌≡◌, ◌+◌, ◌*◌, ◌<◌}
use Rattle.digits.proofs.Taking.{piece}
use Rattle.digits.proofs.split.Given as goal

abbrev pub invariant-loop-k : goal.invariant-loop-k
invariant-loop-k l = (l.n ≡ l.above * piece l.k + l.rest) × (l.rest < piece l.k)
