-- A refusal writes nothing to a lent buffer, and a success its bytes and nothing past them: what is promised of every call that writes.
-- The statement stands in crates/answer/specs/Promise.antt.
-- Assumes nothing.
use Rattle.std.specs.Prelude.{Bool, List, ℕ}
use Rattle.answer.specs.declared.Refusal.{Refusal}
use Rattle.answer.specs.Promise.{Writer}

abbrev pub EveryWriter : Type 0
EveryWriter = (tests : List (Bool × Refusal)) (bytes buffer : List ℕ) → Writer tests bytes buffer
