use Prim.Native.Nat.{◌-◌}
use lib.ListN.{length}
use Rattle.kernel.proofs.Going.{Going}
use Rattle.kernel.proofs.read_bytes.Given as goal

abbrev pub invariant-loop-i : goal.invariant-loop-i
invariant-loop-i l = Going l.s l.mode l.table l.i

abbrev pub decreases-loop-i : goal.decreases-loop-i
decreases-loop-i l = length l.s - l.i
