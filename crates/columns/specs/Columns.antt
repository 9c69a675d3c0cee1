-- A line by its columns, and the lines that a file of records has besides: blank ones and comments.
-- Assumes nothing.
use Rattle.std.specs.Prelude.{ℕ, ◌+◌, ◌-◌, Bool, true, ◌&&◌, ◌||◌, List, [], ◌∷◌, eqb, take, drop, get_or}
use Rattle.lines.specs.Words.{is_blank}

-- columns a to b, counted from 1
abbrev pub columns : ℕ → ℕ → List ℕ → List ℕ
columns a b line = take (b + 1 - a) (drop (a - 1) line)

-- nothing but blanks (32), or nothing at all
unfoldable pub all_blank : List ℕ → Bool
all_blank [] = true
all_blank (b ∷ s) = is_blank b && all_blank s

-- `*` (42), `C` (67) or `c` (99) in column 1
abbrev pub is_comment : List ℕ → Bool
is_comment line = eqb (get_or line 0 0) 42 || (eqb (get_or line 0 0) 67 || eqb (get_or line 0 0) 99)

-- a line that is passed over
unfoldable pub passed_over : List ℕ → Bool
passed_over line = all_blank line || is_comment line
