use Rattle.columns.proofs.Fields.{Reads}
use Rattle.columns.proofs.past_digits.Given as goal

abbrev pub invariant-loop-i : goal.invariant-loop-i
invariant-loop-i l = Reads l.s l.from l.before l.number l.i
