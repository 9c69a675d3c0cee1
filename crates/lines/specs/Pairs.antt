-- Bytes as pairs of hex digits, read and written.
-- Assumes nothing.
use Rattle.std.specs.Prelude.{ℕ, ◌+◌, ◌-◌, ◌*◌, ◌/◌, ◌%◌, Bool, cond, ◌&&◌, List, [], ◌∷◌, eqb, leb, ltb, length, Option, Some, None}
use Rattle.laws.specs.Placed.{place}

-- ---- in

-- b is between a and c
abbrev within : ℕ → ℕ → ℕ → Bool
within a b c = leb a b && leb b c

-- the value of a hex digit of either case, 0 to 9, A to F or a to f; 16 for any other byte
unfoldable pub nibble : ℕ → ℕ
nibble b = cond (within 48 b 57) (b - 48) (cond (within 65 b 70) (b - 55) (cond (within 97 b 102) (b - 87) 16))

-- the bytes of the pairs before the first that is none
unfoldable pub paired : List ℕ → List ℕ
paired [] = []
paired (a ∷ []) = []
paired (a ∷ b ∷ s) = cond (ltb (nibble a) 16) (cond (ltb (nibble b) 16) ((nibble a * 16 + nibble b) ∷ paired s) []) []

-- nothing but pairs
unfoldable pub all_pairs : List ℕ → Bool
all_pairs s = eqb (length (paired s) * 2) (length s)

-- how many bytes a word of pairs gives, if there is room for them
unfoldable pub hex_of : ℕ → List ℕ → Option ℕ
hex_of room s = cond (leb (length s / 2) room) (cond (all_pairs s) (Some (length (paired s))) None) None

-- and the buffer afterwards: the bytes in front, or as it was where there is no room or not all are pairs
unfoldable pub hex_into : List ℕ → List ℕ → List ℕ
hex_into out s = cond (leb (length s / 2) (length out)) (cond (all_pairs s) (place out 0 (paired s)) out) out

-- ---- out

-- a hex digit below 16, and the two of a byte
abbrev pub glyph : ℕ → ℕ
glyph d = cond (ltb d 10) (48 + d) (87 + d)

unfoldable pub hex_text : List ℕ → List ℕ
hex_text [] = []
hex_text (b ∷ s) = glyph (b / 16) ∷ glyph (b % 16) ∷ hex_text s

-- `-` for no bytes
unfoldable pub hex_shown : List ℕ → List ℕ
hex_shown [] = 45 ∷ []
hex_shown (b ∷ s) = hex_text (b ∷ s)
