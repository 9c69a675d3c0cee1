use mathlib.Core.Path.{◌≡◌}
use Prim.Native.Nat.{◌≤◌}
use Rattle.laws.specs.Tests.{all_below}
use Rattle.leap.specs.Leap.{place_right}
use Rattle.leap.proofs.Table.all_right.Given as goal

abbrev pub invariant-loop-k : goal.invariant-loop-k
invariant-loop-k l = (l.k ≤ 64) × (l.ok ≡ all_below (place_right l.self) l.k)
