-- Calls that write: what they answer, and every byte of the lent buffer afterwards.
-- Assumes nothing.
use Rattle.std.specs.Prelude.{Bool, List, [], ◌∷◌, ◌++◌, ℕ, leb, length, Result, Ok, Err}
use Rattle.laws.specs.Placed.{over}
use Rattle.answer.specs.declared.Refusal.{Refusal}
use Rattle.answer.specs.declared.Refusal.TheVariants.{Room as ROOM}
use Rattle.answer.specs.Refusals.{number, refusing}

-- a writer's order: its own tests, and last that the bytes fit the buffer
abbrev pub room_last : List (Bool × Refusal) → List ℕ → List ℕ → List (Bool × Refusal)
room_last tests bytes buffer = tests ++ (leb (length bytes) (length buffer), ROOM) ∷ []

-- the answer of a call that writes these bytes to this buffer
abbrev pub written : List (Bool × Refusal) → List ℕ → List ℕ → Result ℕ Refusal
written tests bytes buffer = refusing Err (room_last tests bytes buffer) (Ok (length bytes))

-- the buffer afterwards: the bytes, and past them its own; after a refusal all its own
abbrev pub buffer_after : List (Bool × Refusal) → List ℕ → List ℕ → List ℕ
buffer_after tests bytes buffer = refusing (λ why. buffer) (room_last tests bytes buffer) (over bytes buffer)

-- an answer in the scope's numbers: that of the refusal, 0 on success, and the length, zero on a refusal
abbrev pub written_results : Result ℕ Refusal → ℕ × ℕ
written_results (Ok n) = (0, n)
written_results (Err why) = (number why, 0)
