-- The lines of a file: each ends with a line feed (10) or with the file, and behind a last line feed there is no line.
-- Assumes nothing.
use Rattle.std.specs.Prelude.{ℕ, ◌+◌, cond, List, [], ◌∷◌, ◌++◌, eqb, length}

-- a byte in front of the first line; a line of its own where there is none
abbrev pub on_line : ℕ → List (List ℕ) → List (List ℕ)
on_line b [] = (b ∷ []) ∷ []
on_line b (line ∷ lines) = (b ∷ line) ∷ lines

unfoldable pub lines_of : List ℕ → List (List ℕ)
lines_of [] = []
lines_of (b ∷ s) = cond (eqb b 10) ([] ∷ lines_of s) (on_line b (lines_of s))

-- these lines, each with its line feed
unfoldable pub fed : List (List ℕ) → List ℕ
fed [] = []
fed (line ∷ lines) = line ++ (10 ∷ fed lines)

-- how many bytes these lines take, each with its line feed: the place of the first byte of the line behind them
unfoldable pub place_behind : List (List ℕ) → ℕ
place_behind [] = 0
place_behind (line ∷ lines) = length line + 1 + place_behind lines
