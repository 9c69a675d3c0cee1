-- The block of a table. The old form is the count of entries, then a number for each entry after the first. Nothing follows.
-- The new form opens with the number 0 and that of the month that the table is vouched for; then comes the old one.
-- Assumes nothing.
use Rattle.std.specs.Prelude.{ℕ, ◌+◌, ◌-◌, ◌*◌, List, [], ◌∷◌, ◌++◌, Bool, cond, Result}
use Rattle.std.specs.Int.Signed.{lt_z}
use Rattle.answer.specs.declared.Refusal.{Refusal}
use Rattle.answer.specs.declared.Refusal.TheVariants.{Table as TABLE}
use Rattle.answer.specs.Buffers.{written, buffer_after}
use Rattle.leap.specs.declared.Table.{Table}
use Rattle.leap.specs.Leap.{accepted}
use Rattle.leap.specs.Entries.{Entry, entries}
use Rattle.block.specs.declared.Form.{Form}
use Rattle.block.specs.declared.Form.TheVariants.{Old, New}
use Rattle.block.specs.Numbers.{number_bytes}

-- of an entry after another: twice the months since the entry before, plus 1 where the step is -1
abbrev pub step_number : Entry → Entry → ℕ
step_number e f = (f.0 - e.0) * 2 + cond (lt_z f.1 e.1) 1 0

-- the numbers of the entries after the first of these
unfoldable pub step_bytes : List Entry → List ℕ
step_bytes [] = []
step_bytes (e ∷ []) = []
step_bytes (e ∷ f ∷ es) = number_bytes (step_number e f) ++ step_bytes (f ∷ es)

-- the old block of a table
unfoldable pub block_of : Table → List ℕ
block_of t = number_bytes t.count ++ step_bytes (entries t)

-- what opens a block, by the number of the month: that month plus one, and 0 where none is given
abbrev pub opening : Form → ℕ → List ℕ
opening Old v = []
opening New v = number_bytes 0 ++ number_bytes v

-- the block of a table in either form
abbrev pub block_in : Form → Table → List ℕ
block_in form t = opening form t.vouched ++ block_of t

-- ---- writing it: the order of refusals, the answer, and the buffer afterwards

abbrev pub block_tests : Table → List (Bool × Refusal)
block_tests t = (accepted t, TABLE) ∷ []

abbrev pub write_in : Form → Table → List ℕ → Result ℕ Refusal
write_in form t buffer = written (block_tests t) (block_in form t) buffer

abbrev pub write_in_after : Form → Table → List ℕ → List ℕ
write_in_after form t buffer = buffer_after (block_tests t) (block_in form t) buffer

abbrev pub write_block : Table → List ℕ → Result ℕ Refusal
write_block t buffer = write_in Old t buffer

abbrev pub write_block_after : Table → List ℕ → List ℕ
write_block_after t buffer = write_in_after Old t buffer

abbrev pub write_new_block : Table → List ℕ → Result ℕ Refusal
write_new_block t buffer = write_in New t buffer

abbrev pub write_new_block_after : Table → List ℕ → List ℕ
write_new_block_after t buffer = write_in_after New t buffer
