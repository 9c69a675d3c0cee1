-- What is stored and what is still to be read are all the pairs.
use Rattle.lines.proofs.Pairs.{Read}
use Rattle.lines.proofs.unhex.Given as goal

abbrev pub invariant-loop-i : goal.invariant-loop-i
invariant-loop-i l = Read l.word l.initial.out l.out l.i
