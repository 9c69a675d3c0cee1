use lib.ListN.{take}
use Rattle.phrases.specs.Puts.{Puts}
use Rattle.phrases.specs.Parts.{quoted}
use Rattle.phrases.proofs.put_quoted.Given as goal

abbrev pub invariant-loop-b : goal.invariant-loop-b
invariant-loop-b l = Puts l.initial.out l.initial.next (quoted (take l.b-index l.given)) l.next l.out
