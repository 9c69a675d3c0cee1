-- One entry more.
-- Assumes nothing.
use mathlib.Core.Path.{◌≡◌}
use mathlib.Core.List.{◌++◌}
use Prim.Native.Nat.{ℕ, ◌+◌}
use native.Mathlib.Numerals.{add-one}
use Rattle.leap.specs.declared.Table.{Table}
use Rattle.tablewords.specs.Words.{entry_text, feed, first_entries}

pub entries_more : (t : Table) (k : ℕ) → first_entries t (k + 1) ≡ first_entries t k ++ (feed k ++ entry_text t k)
unfolding first_entries
entries_more t k = rw add-one
