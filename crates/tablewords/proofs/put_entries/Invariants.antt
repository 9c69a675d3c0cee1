use Rattle.phrases.specs.Puts.{Puts}
use Rattle.tablewords.specs.Words.{first_entries}
use Rattle.tablewords.proofs.put_entries.Given as goal

abbrev pub invariant-loop-k : goal.invariant-loop-k
invariant-loop-k l = Puts l.initial.out l.initial.next (first_entries l.t l.k) l.next l.out
