-- What a reader of tables answers: the table that it found, or a refusal with its place.
-- Assumes nothing.
use Rattle.std.specs.Prelude.{ℕ, cond, pos, replicate, Result, Ok, Err}
use Rattle.answer.specs.declared.Refusal.{Refusal}
use Rattle.answer.specs.declared.Fault.{Fault}
use Rattle.answer.specs.declared.Refusal.TheVariants.{Table as TABLE}
use Rattle.answer.specs.Refusals.{number}
use Rattle.leap.specs.declared.Table.{Table}
use Rattle.leap.specs.Leap.{tabled, accepted}

-- the all-zero table
abbrev pub no_table : Table
no_table = tabled 0 (replicate 64 0) (replicate 64 (pos 0))

-- the answer with a table, and the answer of a refusal with its place
abbrev pub found : Table → Result Table Fault
found t = Ok t

abbrev pub refused_at : Refusal → ℕ → Result Table Fault
refused_at why at = Err (record { why = why; at = at })

-- a table that was read is judged last, and has no place of its own
abbrev pub judged : Table → Result Table Fault
judged t = cond (accepted t) (found t) (refused_at TABLE 0)

-- an answer in the scope's numbers: that of the refusal and the place, both 0 on success, and the table, all zero on a refusal
abbrev pub table_results : Result Table Fault → ℕ × ℕ × Table
table_results (Ok t) = (0, 0, t)
table_results (Err fault) = (number fault.why, fault.at, no_table)
