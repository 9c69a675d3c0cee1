-- Demand 2, of blocks, and request A7. "Accepted tables and stored blocks match one to one": one law for both forms. And what reading, writing and moving a block answers.
-- `blockIn form t` is the block of a table, `firstFault form s` the first fault of bytes. The old form has no place for a month, so its law is of tables for which none is given.
-- Assumes nothing.
use Rattle.std.specs.Prelude.{◌≡◌, ◌↔◌, ◌⊎◌, true, false, List, [], ◌∷◌, ◌++◌, ℕ, ◌≤◌, ◌<◌, length, get_or, take}
use Rattle.laws.specs.Placed.{over}
use Rattle.answer.specs.declared.Refusal.{Refusal}
use Rattle.answer.specs.Refusals.{number}
use Rattle.answer.specs.Buffers.{written_results}
use Rattle.leap.specs.declared.Table.{Table}
use Rattle.leap.specs.Leap.{vouched_to, accepted}
use Rattle.leap.specs.Entries.{FullLength}
use Rattle.leap.specs.Readers.{no_table, table_results}
use Rattle.block.specs.declared.Form.{Form}
use Rattle.block.specs.declared.Form.TheVariants.{Old, New}
use Rattle.block.specs.Blocks.{opening, block_in, write_in, write_in_after, write_block, write_block_after, write_new_block, write_new_block_after}
use Rattle.block.specs.Faults.{no_fault, fault_at, first_fault}
use Rattle.block.specs.Reading.{read_in, read_block, read_new_block, read_either}
use Rattle.block.specs.Moves.{move_results, move, move_after, renew, renew_after, revert, revert_after}

-- numbers that a byte holds
abbrev pub Bytes : List ℕ → Type 0
Bytes s = (i : ℕ) → get_or s i 0 < 256

-- reading s in this form answers success with table t
abbrev pub GivesTable : Form → List ℕ → Table → Type 0
GivesTable form s t = table_results (read_in form s) ≡ (0, 0, t)

-- the old form has no place for a month
abbrev pub MonthFits : Form → ℕ → Type 0
MonthFits Old v = v ≡ 0
MonthFits New v = Unit {0}

-- a table that has a block of this form: accepted, of full length as every table of a program is, and in the old form without a month
pub record Held (form : Form) (t : Table) : Type 0 where
  pub is_accepted : accepted t ≡ true
  pub full_length : FullLength t
  pub month_fits : MonthFits form t.vouched

pub record OneToOne (form : Form) : Type 0 where
  -- bytes give a table exactly when the form holds it and they are its block
  pub gives_the_table_of_the_block : (s : List ℕ) (t : Table) → (Bytes s × GivesTable form s t) ↔ (Held form t × (block_in form t ≡ s))
  -- so no two tables share a block, and no two blocks give one table
  pub one_table_a_block : (t u : Table) → Held form t → Held form u → block_in form t ≡ block_in form u → t ≡ u
  pub one_block_a_table : (r s : List ℕ) (t : Table) → Bytes r → Bytes s → GivesTable form r t → GivesTable form s t → r ≡ s

-- what reading answers
pub record ReadsBlock (form : Form) (s : List ℕ) : Type 0 where
  -- a table exactly when there is no fault
  pub gives_a_table : ((t : Table) × GivesTable form s t) ↔ (first_fault form s ≡ no_fault)
  -- a refusal, with its place and the all-zero table, exactly when it is the first fault
  pub refuses : (why : Refusal) (place : ℕ) → (table_results (read_in form s) ≡ (number why, place, no_table)) ↔ (first_fault form s ≡ fault_at why place)

-- what writing answers, and leaves in the buffer; which refusal is given when is said with the order of every call's tests
pub record WritesBlock (form : Form) (t : Table) (buffer : List ℕ) : Type 0 where
  -- the block of an accepted table is written wherever it fits, and past it every byte stays
  pub where_it_fits : accepted t ≡ true → length (block_in form t) ≤ length buffer
      → (written_results (write_in form t buffer) ≡ (0, length (block_in form t))) × (write_in_after form t buffer ≡ over (block_in form t) buffer)
  -- a refusal leaves every byte of the buffer
  pub or_nothing : ((written_results (write_in form t buffer)).0 ≡ 0 → ⊥) → write_in_after form t buffer ≡ buffer

-- the two forms are told apart
pub record Apart : Type 0 where
  -- the old reader answers every new block with 11 at 0, and the new reader every old one
  pub old_reader : (t : Table) → table_results (read_in Old (block_in New t)) ≡ (11, 0, no_table)
  pub new_reader : (t : Table) → accepted t ≡ true → table_results (read_in New (block_in Old t)) ≡ (11, 0, no_table)
  -- reading either form is reading the new one where the first byte is 0, and else the old one
  pub begins_with_0 : (s : List ℕ) → read_either (0 ∷ s) ≡ read_in New (0 ∷ s)
  pub begins_otherwise : (byte : ℕ) (s : List ℕ) → (byte ≡ 0 → ⊥) → read_either (byte ∷ s) ≡ read_in Old (byte ∷ s)
  pub empty : read_either [] ≡ read_in Old []
  -- so a table is given exactly when one of the two gives it
  pub either : (s : List ℕ) (t : Table) → (table_results (read_either s) ≡ (0, 0, t)) ↔ (GivesTable Old s t ⊎ GivesTable New s t)

-- what is said here of a form is said of its calls
pub record TheCalls : Type 0 where
  pub reads_old : (s : List ℕ) → read_block s ≡ read_in Old s
  pub reads_new : (s : List ℕ) → read_new_block s ≡ read_in New s
  pub writes_old : (t : Table) (buffer : List ℕ) → (write_block t buffer ≡ write_in Old t buffer) × (write_block_after t buffer ≡ write_in_after Old t buffer)
  pub writes_new : (t : Table) (buffer : List ℕ) → (write_new_block t buffer ≡ write_in New t buffer) × (write_new_block_after t buffer ≡ write_in_after New t buffer)

pub record Blocks : Type 0 where
  pub one_to_one : (form : Form) → OneToOne form
  pub reads : (form : Form) (s : List ℕ) → ReadsBlock form s
  pub writes : (form : Form) (t : Table) (buffer : List ℕ) → WritesBlock form t buffer
  -- the old block of a table for which a month is given is that of the same table without it
  pub drops_the_month : (v : ℕ) (t : Table) → block_in Old (vouched_to v t) ≡ block_in Old t
  pub told_apart : Apart
  pub the_calls : TheCalls

-- ---- moves

-- s is moved into the block r, past which every byte of the buffer stays
abbrev pub MovesTo : Form → Form → ℕ → List ℕ → List ℕ → List ℕ → Type 0
MovesTo from to v buffer r s = (move_results (move from to v s buffer) ≡ (0, 0, length r)) × (move_after from to v s buffer ≡ over r buffer)

-- what moving s from one form to the other answers, with the number v of a month, and leaves in the buffer
pub record MovesBlock (from to : Form) (v : ℕ) (s buffer : List ℕ) : Type 0 where
  -- the refusal of the block, with its place
  pub refuses_the_block : (why : Refusal) (place : ℕ) → first_fault from s ≡ fault_at why place → move_results (move from to v s buffer) ≡ (number why, place, 0)
  -- then 11 at 0 for a month that the table cannot carry: before its last entry's, or past 96,335, as `accepted_exactly` of `leap` has it
  pub cannot_carry : (t : Table) → GivesTable from s t → accepted (vouched_to v t) ≡ false → move_results (move from to v s buffer) ≡ (11, 0, 0)
  -- then 1
  pub no_room : (t : Table) → GivesTable from s t → accepted (vouched_to v t) ≡ true → length buffer < length (block_in to (vouched_to v t)) → move_results (move from to v s buffer) ≡ (1, 0, 0)
  -- and else the block of the same entries with that month, past which every byte stays
  pub where_it_fits : (t : Table) → GivesTable from s t → accepted (vouched_to v t) ≡ true → length (block_in to (vouched_to v t)) ≤ length buffer
      → MovesTo from to v buffer (block_in to (vouched_to v t)) s
  -- a refusal leaves every byte of the buffer
  pub or_nothing : ((move_results (move from to v s buffer)).0 ≡ 0 → ⊥) → move_after from to v s buffer ≡ buffer

-- a block that was moved and is moved back, between two buffers
pub record ThereAndBack : Type 0 where
  -- a new block is its opening, and behind it, byte by byte, the old one
  pub behind_the_opening : (s : List ℕ) (t : Table) (v : ℕ) → Bytes s → GivesTable Old s t → block_in New (vouched_to v t) ≡ opening New v ++ s
  -- old to new to old gives the same bytes, whatever the month
  pub old_new_old : (s : List ℕ) (v n : ℕ) (buffer other : List ℕ) → Bytes s → move_results (renew s v buffer) ≡ (0, 0, n) → length s ≤ length other
      → MovesTo New Old 0 other s (take n (renew_after s v buffer))
  -- new to old to new gives the block of the same entries with the month that is given then
  pub new_old_new : (s : List ℕ) (t : Table) (v n : ℕ) (buffer other : List ℕ) → GivesTable New s t → move_results (revert s buffer) ≡ (0, 0, n)
      → accepted (vouched_to v t) ≡ true → length (block_in New (vouched_to v t)) ≤ length other
      → MovesTo Old New v other (block_in New (vouched_to v t)) (take n (revert_after s buffer))
  -- with the block's own month that is the same block, and none, 0, can always be given: so nothing but a given month is lost
  pub the_same_block : (s : List ℕ) (t : Table) → Bytes s → GivesTable New s t → block_in New (vouched_to t.vouched t) ≡ s
  pub none_is_carried : (form : Form) (s : List ℕ) (t : Table) → Bytes s → GivesTable form s t → accepted (vouched_to 0 t) ≡ true

-- `renew` is the move from old to new, `revert` the one from new to old with no month
pub record TheMoves : Type 0 where
  pub renew_is : (s : List ℕ) (v : ℕ) (buffer : List ℕ) → (renew s v buffer ≡ move Old New v s buffer) × (renew_after s v buffer ≡ move_after Old New v s buffer)
  pub revert_is : (s buffer : List ℕ) → (revert s buffer ≡ move New Old 0 s buffer) × (revert_after s buffer ≡ move_after New Old 0 s buffer)

pub record Moves : Type 0 where
  pub renews : (s : List ℕ) (v : ℕ) (buffer : List ℕ) → MovesBlock Old New v s buffer
  -- no month is asked for, so the 11 at 0 never comes: `none_is_carried`
  pub reverts : (s buffer : List ℕ) → MovesBlock New Old 0 s buffer
  pub the_moves : TheMoves
  pub there_and_back : ThereAndBack
