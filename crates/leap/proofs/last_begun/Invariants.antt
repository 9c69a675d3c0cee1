use mathlib.Core.Path.{◌≡◌}
use Prim.Native.Nat.{◌<◌}
use Rattle.leap.specs.Leap.{last_begun}
use Rattle.leap.proofs.last_begun.Given as goal

abbrev pub invariant-loop-k : goal.invariant-loop-k
invariant-loop-k l = (l.k < 64) × (last_begun l.months l.m l.k ≡ last_begun l.months l.m l.from)

abbrev pub decreases-loop-k : goal.decreases-loop-k
decreases-loop-k l = l.k
