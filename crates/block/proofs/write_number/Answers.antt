-- `block::write_number` meets its contract: what is left to store, after what is stored, is the whole.
use native.Mathlib.Omega.{arith}
use Rattle.block.proofs.Numbers.{number_size}
use Rattle.block.proofs.Storing.{one_more, last}
use Rattle.block.proofs.write_number.Goals as goal

pub bounds-out-i : goal.bounds-out-i
bounds-out-i c = omega (arith, number_size c.loop-left.left)

pub loop-left-preserved : goal.loop-left-preserved
loop-left-preserved c = one_more c.loop-left.invariant (omega arith)

pub bounds-out-i-2 : goal.bounds-out-i-2
bounds-out-i-2 c = omega (arith, number_size c.loop-left.left)

pub returns : goal.returns
returns c = let h = last c.loop-left.invariant (omega arith) in record { value = h.0; out_after = h.1 }
