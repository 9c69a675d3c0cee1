-- The marks beside answers, each a bit of a number: 1 is beyond, the answer's month lies beyond the last that the table is vouched for. A refusal has none.
-- Assumes nothing.
use Rattle.std.specs.Prelude.{Bool, false, cond, ℕ, Result, Ok, Err}
use Rattle.answer.specs.declared.Refusal.{Refusal}
use Rattle.answer.specs.declared.Marked.{Marked}

abbrev pub marks : Bool → ℕ
marks beyond = cond beyond 1 0

abbrev pub marked : {A : Type 0} → Result A Refusal → Bool → Marked A
marked {A} answer beyond = record { answer = answer; beyond = mark answer }
  where
    mark : Result A Refusal → Bool
    mark (Ok x) = beyond
    mark (Err why) = false
