use Prim.Native.Nat.{◌-◌}
use lib.ListN.{length}
use Rattle.calls.proofs.input.Session.answer_chunk.Given as goal

abbrev pub decreases-loop-at : goal.decreases-loop-at
decreases-loop-at l = length l.chunk - l.at
