-- Stamps and instants: which instant a reading is given, and which stamp an instant, exactly, for each table and scale number. The statement stands beside the
-- calls, in crates/stamp/specs/Promise.antt.
-- Assumes nothing.
use Rattle.std.specs.Prelude.{ℕ}
use Rattle.leap.specs.declared.Table.{Table}
use Rattle.stamp.specs.Promise.{Converts}

abbrev pub StampsAndInstants : Type 0
StampsAndInstants = (t : Table) (k : ℕ) → Converts t k
