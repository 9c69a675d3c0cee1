-- Stamps and instants, from the theorem of the crate `stamp`.
-- Assumes nothing.
use Rattle.stamp.proofs.Promise.{converts}
use Rattle.promises.specs.Stamps.{StampsAndInstants}

pub stamps_and_instants : StampsAndInstants
stamps_and_instants = converts
