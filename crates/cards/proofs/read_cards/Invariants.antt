use Prim.Native.Nat.{◌-◌}
use lib.ListN.{length}
use Rattle.cards.proofs.Going.{Going}
use Rattle.cards.proofs.read_cards.Given as goal

abbrev pub invariant-loop-from : goal.invariant-loop-from
invariant-loop-from l = Going l.s l.deck l.from

abbrev pub decreases-loop-from : goal.decreases-loop-from
decreases-loop-from l = length l.s - l.from
