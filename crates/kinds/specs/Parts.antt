-- What a kernel's reader keeps of a word, a number, a year or a month that it has read in part, and one byte more. Nothing here need be believed.
-- Assumes nothing.
use Rattle.std.specs.Prelude.{ℕ, zero, suc, ◌+◌, ◌-◌, ◌*◌, ◌%◌, Bool, cond, ◌&&◌, List, ltb, leb, eqb, length, get_or}
use Rattle.digits.specs.Decimals.{digit_value}
use Rattle.digits.specs.Months.{letter}

-- k bytes of a word are read, and b follows: how many are read now; 16, more than a word has, where b is not the next
unfoldable pub matched : List ℕ → ℕ → ℕ → ℕ
matched word k b = cond (ltb k (length word) && eqb (get_or word k 0) b) (k + 1) 16

-- a number with one more digit; from 1000 on it is too large for any table and stays
abbrev pub grown : ℕ → ℕ → ℕ
grown n b = cond (ltb n 1000) (n * 10 + digit_value b) n

-- with these digits, k + 1 in number, a year from 1972 on begins
abbrev pub years_begin : ℕ → ℕ → Bool
years_begin k year = leb (cond (eqb k 0) 1 (cond (eqb k 1) 19 (cond (eqb k 2) 197 1972))) year

abbrev pub grown_year : ℕ → ℕ → ℕ
grown_year year b = year % 1000 * 10 + digit_value b

-- month m has the letter c at place k, and before it the letters of month `from`
abbrev pub goes_on : ℕ → ℕ → ℕ → ℕ → Bool
goes_on from k c m =
    cond (eqb k 0) (eqb (letter m 0) c)
    (eqb (letter m 0) (letter from 0) && cond (eqb k 1) (eqb (letter m 1) c) (eqb (letter m 1) (letter from 1) && eqb (letter m 2) c))

-- the last of the first m months that does, 0 where none does
unfoldable pub month_on : ℕ → ℕ → ℕ → ℕ → ℕ
month_on from k c zero = 0
month_on from k c (suc m) = cond (goes_on from k c (suc m)) (suc m) (month_on from k c m)

-- the month's number from January 1972
abbrev pub month_number : ℕ → ℕ → ℕ
month_number year m = (year % 10000 - 1972) * 12 + (m - 1)
