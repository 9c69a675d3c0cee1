-- The steps of a reader of tables, entry by entry. Nothing here need be believed: what a reader answers is promised by its crate, without these.
-- Assumes nothing.
use Rattle.std.specs.Prelude.{List, ◌++◌, ℕ, Result}
use Rattle.answer.specs.declared.Refusal.{Refusal}
use Rattle.answer.specs.declared.Fault.{Fault}
use Rattle.leap.specs.declared.Table.{Table}
use Rattle.leap.specs.Leap.{vouched_to}
use Rattle.leap.specs.Entries.{Entry, table_of}
use Rattle.leap.specs.Readers.{found, refused_at}

-- what bytes hold: the number of the month that a table is vouched for and its entries, or a fault and its place
pub data Outcome : Type 0 where
  entered : ℕ → List Entry → Outcome
  fault : Refusal → ℕ → Outcome

-- with these entries before those that the rest holds
abbrev pub joined : List Entry → Outcome → Outcome
joined es (entered v fs) = entered v (es ++ fs)
joined es (fault why at) = fault why at

abbrev pub table_read : Outcome → Result Table Fault
table_read (entered v es) = found (vouched_to v (table_of es))
table_read (fault why at) = refused_at why at
