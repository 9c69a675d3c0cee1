use Rattle.cards.proofs.Storing.{Stored}
use Rattle.cards.proofs.cards_of.Given as goal

abbrev pub invariant-loop-k : goal.invariant-loop-k
invariant-loop-k l = Stored l.t l.bytes l.len l.k
