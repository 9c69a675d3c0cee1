use Prim.Native.Nat.{◌-◌}
use lib.ListN.{drop}
use Rattle.leap.specs.Entries.{first_entry}
use Rattle.block.specs.Reading.{read_entries}
use Rattle.block.proofs.Reading.{Reading}
use Rattle.block.proofs.read_entries.Given as goal

abbrev pub invariant-loop-k : goal.invariant-loop-k
invariant-loop-k l =
    Reading l.s (read_entries l.vouched (l.count - 1) first_entry l.start (drop l.start l.s)) l.vouched l.count l.t.months l.t.offsets l.at l.k
