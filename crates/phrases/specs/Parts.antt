-- The parts of a line, and what was given as it is shown.
-- Assumes nothing.
use Rattle.std.specs.Prelude.{ℕ, ◌+◌, Bool, cond, not, ◌&&◌, List, [], ◌∷◌, eqb, leb, length, take, drop}
use Rattle.digits.specs.Bytes.{same_bytes}

-- the text begins with these bytes
unfoldable pub begins_with : List ℕ → List ℕ → Bool
begins_with word s = same_bytes (take (length word) s) word

-- the bytes before the first place where a word stands; all where it stands nowhere
unfoldable pub up_to : List ℕ → List ℕ → List ℕ
up_to word [] = []
up_to word (b ∷ s) = cond (begins_with word (b ∷ s)) [] (b ∷ up_to word s)

-- and those behind it; none where it stands nowhere
unfoldable pub behind : List ℕ → List ℕ → List ℕ
behind word s = drop (length (up_to word s) + length word) s

-- a byte that a sheet keeps in its cell: from 32 to 126, and neither a double quote (34) nor a comma (44)
abbrev pub plain : ℕ → Bool
plain b = leb 32 b && (not (eqb b 34) && (not (eqb b 44) && leb b 126))

-- as it is shown: `?` (63) for any other
abbrev pub shown_byte : ℕ → ℕ
shown_byte b = cond (plain b) b 63

unfoldable pub quoted : List ℕ → List ℕ
quoted [] = []
quoted (b ∷ s) = shown_byte b ∷ quoted s
