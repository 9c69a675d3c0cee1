-- All that is promised of text.
-- Assumes nothing.
use Prim.Native.Nat.{ℕ}
use Rattle.leap.specs.declared.Table.{Table}
use Rattle.text.specs.Promise.{Promised}
use Rattle.text.proofs.Exactly.{read_exactly}
use Rattle.text.proofs.Writing.{written_exactly}
use Rattle.text.proofs.Back.{back}

pub promised : (t : Table) (k : ℕ) → Promised t k
promised t k = record { read = read_exactly t k; written = written_exactly t k; back = back t k }
