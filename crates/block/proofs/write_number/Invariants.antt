use Prim.Native.Nat.{◌+◌}
use lib.ListN.{length}
use lib.Seq.{sets}
use Rattle.block.specs.Numbers.{number_bytes}
use Rattle.block.proofs.Storing.{Storing}
use Rattle.block.proofs.write_number.Given as goal

abbrev pub invariant-loop-left : goal.invariant-loop-left
invariant-loop-left l = Storing l.left l.out l.i (sets l.initial.out l.at (number_bytes l.n)) (l.at + length (number_bytes l.n)) (length l.initial.out)

abbrev pub decreases-loop-left : goal.decreases-loop-left
decreases-loop-left l = l.left
