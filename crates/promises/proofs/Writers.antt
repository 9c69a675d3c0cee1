-- What is promised of every writer, as the crate `answer` proves it.
-- Assumes nothing.
use Rattle.answer.proofs.Promise.{writer}
use Rattle.promises.specs.Writers.{EveryWriter}

pub every_writer : EveryWriter
every_writer = writer
