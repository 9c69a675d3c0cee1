-- The months of the Gregorian calendar: month 0 is January of year 0, so month m is month m % 12 of year m / 12.
-- Assumes nothing.
use Rattle.std.specs.Prelude.{Bool, cond, not, ◌&&◌, List, [], ◌∷◌, ℕ, zero, suc, ◌+◌, ◌/◌, ◌%◌, eqb, get_or}

abbrev pub divides : ℕ → ℕ → Bool
divides d n = eqb (n % d) 0

-- a year divisible by 4 is a leap year, unless by 100 and not by 400
unfoldable pub leap_year : ℕ → Bool
leap_year y = divides 4 y && not (divides 100 y && not (divides 400 y))

-- how long the months of a year are, from January
abbrev pub lengths : Bool → List ℕ
lengths leap = 31 ∷ cond leap 29 28 ∷ 31 ∷ 30 ∷ 31 ∷ 30 ∷ 31 ∷ 31 ∷ 30 ∷ 31 ∷ 30 ∷ 31 ∷ []

-- how many days month m has
unfoldable pub month_length : ℕ → ℕ
month_length m = get_or (lengths (leap_year (m / 12))) (m % 12) 0

-- how many days lie before month m: none before January of year 0, and each month adds its own
unfoldable pub days_before : ℕ → ℕ
days_before zero = 0
days_before (suc m) = days_before m + month_length m
