-- What the automaton takes for good.
-- Assumes nothing.
use mathlib.Core.Path.{◌≡◌}
use mathlib.Core.Bool.{true}
use mathlib.Core.List.{List}
use Prim.Native.Nat.{ℕ, ◌<◌}
use lib.ListN.{length}
use Rattle.automaton.specs.Run.{may_end, scan}

pub record Good (s : List ℕ) : Type 0 where
  pub may_end_lem : may_end (scan s).mode ≡ true
  pub some_pair : 0 < length (scan s).pairs
