-- A move of a block into the other form: it is read, and written anew. Its own refusal goes first, with its place; those of the writing have place 0.
-- Assumes nothing.
use Rattle.answer.specs.declared.Refusal.{Refusal}
use Rattle.std.specs.Prelude.{ℕ, List, Result, Ok, Err}
use Rattle.answer.specs.Refusals.{number}
use Rattle.leap.specs.declared.Table.{Table}
use Rattle.answer.specs.declared.Fault.{Fault}
use Rattle.answer.specs.Faults.{unplaced}
use Rattle.leap.specs.Leap.{vouched_to}
use Rattle.block.specs.declared.Form.{Form}
use Rattle.block.specs.declared.Form.TheVariants.{Old, New}
use Rattle.block.specs.Blocks.{write_in, write_in_after}
use Rattle.block.specs.Reading.{read_in}

-- an answer in the scope's numbers: that of the refusal and the place, both 0 on success, and the length, 0 on a refusal
abbrev pub move_results : Result ℕ Fault → ℕ × ℕ × ℕ
move_results (Ok n) = (0, 0, n)
move_results (Err f) = (number f.why, f.at, 0)

-- what writing answered
abbrev pub placed : Result ℕ Refusal → Result ℕ Fault
placed (Ok n) = Ok n
placed (Err why) = Err (unplaced why)

-- where a block was read the answer for its table, or the buffer, and else its refusal, or the buffer as it was
abbrev pub on_read : (Table → Result ℕ Fault) → Result Table Fault → Result ℕ Fault
on_read answer (Ok t) = answer t
on_read answer (Err f) = Err f

abbrev pub buffer_on_read : (Table → List ℕ) → List ℕ → Result Table Fault → List ℕ
buffer_on_read after buffer (Ok t) = after t
buffer_on_read after buffer (Err f) = buffer

-- the table that was read, written in this form, vouched for up to the month of number v
abbrev pub rewritten : Form → ℕ → Result Table Fault → List ℕ → Result ℕ Fault
rewritten form v read buffer = on_read (λ t. placed (write_in form (vouched_to v t) buffer)) read

abbrev pub rewritten_after : Form → ℕ → Result Table Fault → List ℕ → List ℕ
rewritten_after form v read buffer = buffer_on_read (λ t. write_in_after form (vouched_to v t) buffer) buffer read

-- a move of s
abbrev pub move : Form → Form → ℕ → List ℕ → List ℕ → Result ℕ Fault
move from to v s buffer = rewritten to v (read_in from s) buffer

abbrev pub move_after : Form → Form → ℕ → List ℕ → List ℕ → List ℕ
move_after from to v s buffer = rewritten_after to v (read_in from s) buffer

-- from old to new with the number of a month, 0 for none
abbrev pub renew : List ℕ → ℕ → List ℕ → Result ℕ Fault
renew s v buffer = move Old New v s buffer

abbrev pub renew_after : List ℕ → ℕ → List ℕ → List ℕ
renew_after s v buffer = move_after Old New v s buffer

-- from new to old, which has no month
abbrev pub revert : List ℕ → List ℕ → Result ℕ Fault
revert s buffer = move New Old 0 s buffer

abbrev pub revert_after : List ℕ → List ℕ → List ℕ
revert_after s buffer = move_after New Old 0 s buffer
