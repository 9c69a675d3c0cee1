-- A field of a line: what its word gives, and the cursor at its end; 0 and a lost cursor where it is bad.
-- Assumes nothing.
use Rattle.std.specs.Prelude.{ℕ, Bool, false, List, pos, length, Option, Some, None, ℤ}
use Rattle.fields.specs.declared.Cursor.{Cursor}
use Rattle.fields.specs.declared.Field.{Field}
use Rattle.fields.specs.Words.{word_at, end_at, natural_of, integer_of, hex_word, pattern_of}

abbrev pub field_of : {A : Type 0} → A → Option A → Bool → ℕ → ℕ → Field A
field_of bad (Some x) fine end size = record { value = x; next = record { at = end; fine = fine } }
field_of bad None fine end size = record { value = bad; next = record { at = size; fine = false } }

-- the next word, read and made into a field
abbrev pub field_at : {A F : Type 0} → (List ℕ → A) → (A → Bool → ℕ → ℕ → F) → List ℕ → Cursor → F
field_at read made s c = made (read (word_at s c.at)) c.fine (end_at s c.at) (length s)

unfoldable pub natural_at : ℕ → List ℕ → Cursor → Field ℕ
natural_at most s c = field_at (natural_of most) (field_of 0) s c

unfoldable pub integer_at : ℕ → List ℕ → Cursor → Field ℤ
integer_at most s c = field_at (integer_of most) (field_of (pos 0)) s c

-- of bytes that find so much room
unfoldable pub hex_at : ℕ → List ℕ → Cursor → Field ℕ
hex_at room s c = field_at (hex_word room) (field_of 0) s c

unfoldable pub pattern_at : List ℕ → Cursor → Field ℕ
pattern_at s c = field_at pattern_of (field_of 0) s c
