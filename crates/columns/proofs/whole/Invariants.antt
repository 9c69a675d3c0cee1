use mathlib.Core.Path.{◌≡◌}
use Prim.Native.Nat.{◌-◌}
use Rattle.columns.specs.Decimals.{whole_of}
use Rattle.columns.proofs.whole.Given as goal

abbrev pub invariant-loop : goal.invariant-loop
invariant-loop l = whole_of l.n (l.places - l.counter) ≡ whole_of l.number l.places
