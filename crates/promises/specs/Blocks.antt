-- Demand 2, of blocks. "Accepted tables and stored blocks match one to one." And request A7: "One law covers both forms"; blocks are moved from one form to the other, and back.
-- The statements stand beside the block, in crates/block/specs/Promise.antt; the rows by which the request was explained, in crates/block/specs/Desk.antt.
-- Assumes nothing.
use Rattle.laws.specs.Tests.{All}
use Rattle.block.specs.Promise.{Blocks, Moves}
use Rattle.block.specs.Desk.{BlockRight, renewed, MovesRight}

abbrev pub Demand2Blocks : Type 0
Demand2Blocks = Blocks

-- the law of both forms is in `Blocks`
abbrev pub RequestA7 : Type 0
RequestA7 = Moves × All BlockRight renewed × MovesRight
