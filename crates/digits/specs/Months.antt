-- The months' names: three capital letters each.
-- Assumes nothing.
use Rattle.std.specs.Prelude.{ℕ, zero, suc, ◌+◌, ◌*◌, ◌%◌, cond, List, [], ◌∷◌, get_or}
use Rattle.digits.specs.Bytes.{ascii, same_bytes}

abbrev pub month_names : List ℕ
month_names = ascii "JANFEBMARAPRMAYJUNJULAUGSEPOCTNOVDEC"

-- letter j of month m: months are counted from 1, and come again after 12; letters from 0
abbrev pub letter : ℕ → ℕ → ℕ
letter m j = get_or month_names ((m + 11) % 12 * 3 + j) 0

abbrev pub month_name : ℕ → List ℕ
month_name m = letter m 0 ∷ letter m 1 ∷ letter m 2 ∷ []

-- the one of the first m months that has this name, 0 where none has
unfoldable pub among_months : ℕ → List ℕ → ℕ
among_months zero name = 0
among_months (suc m) name = cond (same_bytes (month_name (suc m)) name) (suc m) (among_months m name)

unfoldable pub month_named : List ℕ → ℕ
month_named name = among_months 12 name
