use Rattle.phrases.specs.Puts.{Puts}
use Rattle.wording.specs.Summary.{numbers_text}
use Rattle.wording.proofs.put_numbers.Given as goal

abbrev pub invariant-loop-i : goal.invariant-loop-i
invariant-loop-i l = Puts l.initial.out l.initial.next (numbers_text l.numbers l.i) l.next l.out
