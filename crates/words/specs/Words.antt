-- A table as C has it, 130 words of 32 bits: the count, 64 months, 64 offsets, an offset's word having the bits of the signed number, and the number of the month
-- that it is vouched for.
-- Assumes nothing.
use Rattle.std.specs.Prelude.{◌≡◌, List, [], ◌∷◌, ◌++◌, map, ℕ, zero, suc, ◌+◌, ◌<◌, ◌%◌, ℤ, pos, length, get_or, replicate}
use Rattle.std.specs.Int.{w32}
use Rattle.std.proofs.Common.{to_z, of_z, Fits, SFits}
use Rattle.leap.specs.declared.Table.{Table}
use Rattle.leap.specs.Leap.{tabled, vouched_to}
use Rattle.leap.specs.Readers.{no_table}

-- the signed number with these bits, and the bits of a signed number
abbrev pub offset_from : ℕ → ℤ
offset_from word = to_z w32 word

abbrev pub offset_word : ℤ → ℕ
offset_word offset = of_z w32 offset

-- the n words from place i on
unfoldable pub words_at : ℕ → ℕ → List ℕ → List ℕ
words_at i zero words = []
words_at i (suc n) words = get_or words i 0 ∷ words_at (i + 1) n words

unfoldable pub table_from : List ℕ → Table
table_from words = vouched_to (get_or words 129 0) (tabled (get_or words 0 0) (words_at 1 64 words) (map offset_from (words_at 65 64 words)))

-- a word has 32 bits, and so a count its lowest 32
unfoldable pub table_words : Table → List ℕ
table_words t = (t.count % 4294967296) ∷ (t.months ++ (map offset_word t.offsets ++ t.vouched ∷ []))

-- ---- the two undo each other

-- a table as a program has it, with a count that a word holds
pub record Held (t : Table) : Type 0 where
  pub few : t.count < 4294967296
  pub months_long : length t.months ≡ 64
  pub offsets_long : length t.offsets ≡ 64
  pub offsets_fit : (k : ℕ) → SFits w32 (get_or t.offsets k (pos 0))

-- a struct as a program has it
pub record Struct (words : List ℕ) : Type 0 where
  pub long : length words ≡ 130
  pub words_fit : (k : ℕ) → Fits w32 (get_or words k 0)

pub record Undone : Type 0 where
  pub table_back : (t : Table) → Held t → table_from (table_words t) ≡ t
  pub words_back : (words : List ℕ) → Struct words → table_words (table_from words) ≡ words
  -- the all-zero table of a refusal is a struct of zeros
  pub zeros : table_words no_table ≡ replicate 130 0
