use Rattle.kernel.proofs.Storing.{Stored}
use Rattle.kernel.proofs.Kernel.of.Given as goal

abbrev pub invariant-loop-k : goal.invariant-loop-k
invariant-loop-k l = Stored l.t l.kernel l.k
