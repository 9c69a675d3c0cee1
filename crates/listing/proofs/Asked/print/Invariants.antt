use Prim.Native.Nat.{◌-◌}
use Rattle.listing.proofs.Rows.{Rowed}
use Rattle.listing.proofs.Asked.print.Given as goal

abbrev pub invariant-loop : goal.invariant-loop
invariant-loop l = let a = l.self-inside in Rowed a.table a.first a.count l.initial.at l.initial.out l.out l.l l.at (a.count - l.counter)
