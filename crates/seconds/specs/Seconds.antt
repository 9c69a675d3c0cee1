-- Microseconds as seconds with six digits, and seconds as they are given.
-- Assumes nothing.
use Rattle.std.specs.Prelude.{ℕ, ◌+◌, ◌*◌, ◌/◌, ◌%◌, ◌≤◌, cond, List, [], ◌∷◌, ◌++◌, eqb, leb, ℤ, pos, negsuc, nat_abs, ◌+ℤ◌, ◌-ℤ◌, length, drop, Option, Some, None}
use Rattle.laws.specs.Placed.{over}
use Rattle.digits.specs.Bytes.{ascii}
use Rattle.digits.specs.Decimals.{digits_of, decimal_text, decimal_of}
use Rattle.lines.specs.Words.{before}
use Rattle.seconds.specs.declared.Move.{Move}
use Rattle.seconds.specs.declared.Move.TheVariants.{On, Back}

-- ---- out

abbrev pub sign_text : ℤ → List ℕ
sign_text (pos n) = []
sign_text (negsuc n) = ascii "-"

-- so many microseconds as seconds
unfoldable pub micros_text : ℕ → List ℕ
micros_text n = decimal_text (n / 1000000) ++ (ascii "." ++ digits_of 6 (n % 1000000))

unfoldable pub seconds_text : ℤ → List ℕ
seconds_text z = sign_text z ++ micros_text (nat_abs z)

-- ---- in

-- up to six digits behind a point, as microseconds: the digits that are left out are zeros
unfoldable pub fraction_given : List ℕ → Option ℕ
fraction_given s = cond (leb (length s) 6) (decimal_of 999999 (over s (ascii "000000"))) None

abbrev pub joined : Option ℕ → Option ℕ → Option ℕ
joined (Some w) (Some f) = Some (1000000 * w + f)
joined (Some w) None = None
joined None f = None

-- seconds up to 999,999,999,999, a point (46) and a fraction, as microseconds
unfoldable pub micros_given : List ℕ → Option ℕ
micros_given s = joined (decimal_of 999999999999 (before 46 s)) (fraction_given (drop (length (before 46 s) + 1) s))

abbrev pub ahead : Option ℕ → Option Move
ahead (Some n) = Some (On n)
ahead None = None

abbrev pub backward : Option ℕ → Option Move
backward (Some n) = Some (Back n)
backward None = None

-- `-` (45), `+` (43) or nothing, and seconds
unfoldable pub move_given : List ℕ → Option Move
move_given [] = None
move_given (b ∷ s) = cond (eqb b 45) (backward (micros_given s)) (cond (eqb b 43) (ahead (micros_given s)) (ahead (micros_given (b ∷ s))))

-- so few that an instant can be moved by it. A reader may skip it.
abbrev pub Short : Move → Type 0
Short (On n) = n ≤ 999999999999999999
Short (Back n) = n ≤ 999999999999999999

-- an instant moved
abbrev pub moved_by : Move → ℤ → ℤ
moved_by (On n) x = x +ℤ pos n
moved_by (Back n) x = x -ℤ pos n
