-- A file that is good for the automaton is judged by its pairs.
-- Assumes nothing.
use Prim.Native.Nat.{ℕ, ◌≤◌}
use mathlib.Core.Path.{◌≡◌}
use mathlib.Core.List.{List}
use borrow.Author.Tests.{le-leb, lt-ltb}
use lib.ListN.{length}
use Rattle.leap.specs.Entries.{table_of}
use Rattle.leap.specs.Readers.{judged}
use Rattle.automaton.specs.Run.{scan}
use Rattle.grammar.proofs.Good.{Good}
use Rattle.grammar.specs.Places.{limit}
use Rattle.kernel.specs.Reading.{read_kernel}

pub good_read : (s : List ℕ) → Good s → length s ≤ limit → read_kernel s ≡ judged (table_of (scan s).pairs)
unfolding read_kernel table_of
good_read s g l = rw (le-leb (length s) limit l, g.may_end_lem, lt-ltb 0 (length (scan s).pairs) g.some_pair)
