-- A fault: a refusal with its place.
-- Assumes nothing.
use Rattle.answer.specs.declared.Refusal.{Refusal}
use Rattle.answer.specs.declared.Fault.{Fault}

-- a refusal that is about no byte
abbrev pub unplaced : Refusal → Fault
unplaced why = record { why = why; at = 0 }
