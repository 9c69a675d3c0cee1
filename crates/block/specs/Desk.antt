-- The blocks that the night desk names, the edges of the paragraph "The stored block", and the rows by which request A7 was explained with some of our own, as tables of rows.
-- Assumes nothing.
use Rattle.std.specs.Prelude.{◌≡◌, List, [], ◌∷◌, ℕ, pos, length, replicate}
use Rattle.leap.specs.declared.Table.{Table}
use Rattle.leap.specs.Leap.{vouched_to, last_entry_month, rising, filled, bulletin_c}
use Rattle.leap.specs.Readers.{no_table, table_results}
use Rattle.block.specs.declared.Form.{Form}
use Rattle.block.specs.declared.Form.TheVariants.{Old, New}
use Rattle.block.specs.Blocks.{block_in}
use Rattle.block.specs.Reading.{read_in}
use Rattle.block.specs.Moves.{move_results, renew, renew_after, revert, revert_after}

-- B, T and N of the desk: that of Bulletin C, two added seconds, and a taken-out one
abbrev pub block_b : List ℕ
block_b =
    0x1C ∷ 0x0C ∷ 0x0C ∷ 0x18 ∷ 0x18 ∷ 0x18 ∷ 0x18 ∷ 0x18 ∷ 0x18 ∷ 0x18 ∷ 0x24 ∷ 0x18 ∷ 0x18 ∷ 0x30 ∷ 0x3C ∷ 0x30 ∷ 0x18
    ∷ 0x24 ∷ 0x18 ∷ 0x18 ∷ 0x24 ∷ 0x24 ∷ 0x24 ∷ 0xA8 ∷ 0x01 ∷ 0x48 ∷ 0x54 ∷ 0x48 ∷ 0x24 ∷ []

abbrev pub block_t : List ℕ
block_t = 0x03 ∷ 0x0C ∷ 0x0C ∷ []

abbrev pub block_n : List ℕ
block_n = 0x02 ∷ 0x0D ∷ []

-- and the tables of T and N
abbrev pub table_t : Table
table_t = filled (0 ∷ 6 ∷ 12 ∷ []) (rising 3 10)

abbrev pub table_n : Table
table_n = filled (0 ∷ 6 ∷ []) (pos 10 ∷ pos 9 ∷ [])

pub data BlockRow : Type 0 where
  -- a table takes so many bytes
  takes : Form → Table → ℕ → BlockRow
  -- a block is that of a table, and gives it
  gives : Form → List ℕ → Table → BlockRow
  -- a block is refused with this number at this place, and gives the all-zero table
  refuses : Form → List ℕ → ℕ → ℕ → BlockRow

-- the blocks that the desk names
abbrev pub named : List BlockRow
named =
    takes Old bulletin_c 29
    ∷ gives Old block_b bulletin_c
    ∷ gives Old block_t table_t
    ∷ gives Old block_n table_n
    ∷ []

-- the same for what the desk's rows do not show
abbrev pub edges : List BlockRow
edges =
    -- one entry; the last month, and the one past it; a number of 0
    gives Old (0x01 ∷ []) (filled (0 ∷ []) (pos 10 ∷ []))
    ∷ gives Old (0x02 ∷ 0x9E ∷ 0xE1 ∷ 0x0B ∷ []) (filled (0 ∷ last_entry_month ∷ []) (rising 2 10))
    ∷ refuses Old (0x02 ∷ 0xA0 ∷ 0xE1 ∷ 0x0B ∷ []) 11 1
    ∷ refuses Old (0x02 ∷ 0x00 ∷ []) 11 1
    -- a missing number's place is the block's length; three marked bytes are GROUPS, two and the end CUT
    ∷ refuses Old (0x02 ∷ []) 9 1
    ∷ refuses Old (0x02 ∷ 0x80 ∷ 0x80 ∷ 0x80 ∷ []) 10 1
    ∷ refuses Old (0x02 ∷ 0x80 ∷ 0x80 ∷ []) 9 1
    -- the shortest form goes before the number's own test; a tail is not read
    ∷ refuses Old (0xC1 ∷ 0x00 ∷ []) 10 0
    ∷ refuses Old (0x01 ∷ 0x80 ∷ 0x80 ∷ 0x80 ∷ []) 12 1
    ∷ []

-- the new form: no month, January 2017 and December 9999
abbrev pub renewed : List BlockRow
renewed =
    takes New bulletin_c 31
    ∷ gives New (0x00 ∷ 0x00 ∷ block_b) bulletin_c
    ∷ gives New (0x00 ∷ 0x9D ∷ 0x04 ∷ block_b) (vouched_to 541 bulletin_c)
    ∷ gives New (0x00 ∷ 0xD0 ∷ 0xF0 ∷ 0x05 ∷ block_b) (vouched_to 96336 bulletin_c)
    -- cut before its second number, and before the old block
    ∷ refuses New (0x00 ∷ []) 9 1
    ∷ refuses New (0x00 ∷ 0x00 ∷ []) 9 2
    -- a month number of 96,369, and one of 96,337 and then the end: the rest is not read
    ∷ refuses New (0x00 ∷ 0xF1 ∷ 0xF0 ∷ 0x05 ∷ 0x01 ∷ []) 11 1
    ∷ refuses New (0x00 ∷ 0xD1 ∷ 0xF0 ∷ 0x05 ∷ []) 11 1
    -- a month before the last entry's, but a byte too many goes before that
    ∷ refuses New (0x00 ∷ 0x0C ∷ block_t) 11 1
    ∷ refuses New (0x00 ∷ 0x0C ∷ 0x03 ∷ 0x0C ∷ 0x0C ∷ 0x00 ∷ []) 12 5
    -- places count all bytes of the month's number
    ∷ refuses New (0x00 ∷ 0x9D ∷ 0x04 ∷ 0x02 ∷ []) 9 4
    -- numbers that are not in the shortest form; an old block
    ∷ refuses New (0x00 ∷ 0x8D ∷ 0x00 ∷ block_t) 10 1
    ∷ refuses New (0x80 ∷ 0x00 ∷ []) 10 0
    ∷ refuses New block_t 11 0
    ∷ []

abbrev pub BlockRight : BlockRow → Type 0
BlockRight (takes form t n) = length (block_in form t) ≡ n
BlockRight (gives form s t) = (block_in form t ≡ s) × (table_results (read_in form s) ≡ (0, 0, t))
BlockRight (refuses form s number place) = table_results (read_in form s) ≡ (number, place, no_table)

-- moves into bytes 0xA5, or into any buffer where the refusal goes before its length
pub record MovesRight : Type 0 where
  -- T cannot be vouched for up to December 1972, which is before its last entry; up to January 1973 it is moved there, and back
  pub renew_refused : (buffer : List ℕ) → (move_results (renew block_t 12 buffer) ≡ (11, 0, 0)) × (renew_after block_t 12 buffer ≡ buffer)
  pub vouched_there : (move_results (renew block_t 13 (replicate 5 0xA5)) ≡ (0, 0, 5)) × (renew_after block_t 13 (replicate 5 0xA5) ≡ 0x00 ∷ 0x0D ∷ block_t)
  pub and_back : (move_results (revert (0x00 ∷ 0x0D ∷ block_t) (replicate 3 0xA5)) ≡ (0, 0, 3)) × (revert_after (0x00 ∷ 0x0D ∷ block_t) (replicate 3 0xA5) ≡ block_t)
  -- a block that is cut, and one whose own month is that December, are refused at their places; a buffer of a byte too few last of all
  pub renew_cut : (v : ℕ) (buffer : List ℕ) → move_results (renew (0x02 ∷ []) v buffer) ≡ (9, 1, 0)
  pub revert_refused : (buffer : List ℕ) → move_results (revert (0x00 ∷ 0x0C ∷ block_t) buffer) ≡ (11, 1, 0)
  pub no_room : (move_results (renew block_t 0 (replicate 4 0xA5)) ≡ (1, 0, 0)) × (renew_after block_t 0 (replicate 4 0xA5) ≡ replicate 4 0xA5)
