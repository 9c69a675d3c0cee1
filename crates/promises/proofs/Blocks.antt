-- Demand 2, of blocks, and request A7, as the crate `block` proves them.
-- Assumes nothing.
use Rattle.block.proofs.Promise.{blocks}
use Rattle.block.proofs.Moving.{moves}
use Rattle.block.proofs.Desk.{renewed_right, moves_right}
use Rattle.promises.specs.Blocks.{Demand2Blocks, RequestA7}

pub demand2_blocks : Demand2Blocks
demand2_blocks = blocks

pub request_a7 : RequestA7
request_a7 = (moves, renewed_right, moves_right)
