-- Request A1. "Read it into a table, and write one as such a kernel, a pair to a line, that reads back."
-- The statement stands beside the reader and the writer, in crates/kernel/specs/Promise.antt; what a kernel is, in crates/grammar/specs/Grammar.antt, and where
-- a fault is placed, in crates/grammar/specs/Places.antt; the rows by which the request was explained, in crates/kernel/specs/Desk.antt.
-- Assumes nothing.
use Rattle.kernel.specs.Promise.{Kernels}
use Rattle.kernel.specs.Desk.{Desk}

abbrev pub RequestA1 : Type 0
RequestA1 = Kernels × Desk
