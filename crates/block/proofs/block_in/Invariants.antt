use Prim.Native.Nat.{◌-◌}
use lib.ListN.{take}
use Rattle.block.proofs.Blocks.{Stored}
use Rattle.block.proofs.block_in.Given as goal

abbrev pub invariant-loop-k : goal.invariant-loop-k
invariant-loop-k l = Stored (take l.start l.initial.bytes) l.t l.bytes l.len (l.k - 1)
