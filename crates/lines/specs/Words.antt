-- What stands before the first of a byte, a line or a word; the bytes of a kind in front; and the lines of a text, counted from 0.
-- Assumes nothing.
use Rattle.std.specs.Prelude.{ℕ, zero, suc, ◌+◌, min, Bool, cond, List, [], ◌∷◌, eqb, length, drop}

-- the bytes before the first b
unfoldable pub before : ℕ → List ℕ → List ℕ
before b [] = []
before b (x ∷ s) = cond (eqb x b) [] (x ∷ before b s)

-- the bytes of a kind with which a text begins
unfoldable pub leading : (ℕ → Bool) → List ℕ → List ℕ
leading kind [] = []
leading kind (x ∷ s) = cond (kind x) (x ∷ leading kind s) []

-- a blank
abbrev pub is_blank : ℕ → Bool
is_blank b = eqb b 32

-- the byte b does not stand in a text
abbrev pub without : ℕ → List ℕ → Bool
without b s = eqb (length (before b s)) (length s)

-- line k: the bytes up to a line end (10) or the end; a missing line is empty
unfoldable pub line_of : List ℕ → ℕ → List ℕ
line_of s zero = before 10 s
line_of s (suc k) = line_of (drop (length (before 10 s) + 1) s) k

-- the index behind the first b from i on; the end where there is none
abbrev pub past : ℕ → List ℕ → ℕ → ℕ
past b s i = min (i + length (before b (drop i s)) + 1) (length s)

-- where line k begins: behind the end of the one before it
unfoldable pub line_start : List ℕ → ℕ → ℕ
line_start s zero = 0
line_start s (suc k) = past 10 s (line_start s k)
