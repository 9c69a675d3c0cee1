use Prim.Native.Nat.{◌<◌}
use Rattle.ticks.proofs.fill.Given as goal

abbrev pub invariant-loop-n : goal.invariant-loop-n
invariant-loop-n l = l.ends < 3
