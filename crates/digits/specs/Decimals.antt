-- Decimal numbers and their digits, at a fixed width and at their own.
-- Assumes nothing.
use Prim.Native.Char.{code}
use Rattle.std.specs.Prelude.{ℕ, zero, suc, ◌+◌, ◌-◌, ◌*◌, ◌/◌, ◌%◌, ◌^◌, ◌≤◌, Bool, true, cond, ◌&&◌, List, [], ◌∷◌, leb, ltb, ℤ, pos, negsuc, neg_ℤ, length, Option, Some, None}
use Rattle.digits.specs.Bytes.{bytes_at}

-- ---- out

-- the digit of n at the place of a power of ten
abbrev pub digit_at : ℕ → ℕ → ℕ
digit_at n power = code "0" + n / power % 10

-- n at a fixed width: the digits of the places 10 ^ (w - 1) down to 1
abbrev pub digits_of : ℕ → ℕ → List ℕ
digits_of zero n = []
digits_of (suc w) n = digit_at n (10 ^ w) ∷ digits_of w n

-- how many digits n has, of at most so many
unfoldable pub width_of : ℕ → ℕ → ℕ
width_of zero n = 0
width_of (suc most) n = cond (ltb n 10) 1 (suc (width_of most (n / 10)))

-- n without zeros in front; 20 digits are enough for 64 bits
unfoldable pub decimal_text : ℕ → List ℕ
decimal_text n = digits_of (width_of 20 n) n

-- `-` in front where it is negative
unfoldable pub signed_text : ℤ → List ℕ
signed_text (pos n) = decimal_text n
signed_text (negsuc n) = code "-" ∷ decimal_text (suc n)

-- ---- in

abbrev pub is_digit : ℕ → Bool
is_digit b = leb (code "0") b && leb b (code "9")

-- what a digit stands for, 0 for any other byte
unfoldable pub digit_value : ℕ → ℕ
digit_value b = cond (is_digit b) (b - code "0") 0

unfoldable pub all_digits : List ℕ → Bool
all_digits [] = true
all_digits (b ∷ s) = is_digit b && all_digits s

-- the number that bytes spell after the number n
unfoldable pub spelled : ℕ → List ℕ → ℕ
spelled n [] = n
spelled n (b ∷ s) = spelled (n * 10 + digit_value b) s

-- the number that w bytes from index i on spell
abbrev pub number_at : List ℕ → ℕ → ℕ → ℕ
number_at s i w = spelled 0 (bytes_at s i w)

-- a number with its sign
abbrev pub signed : Bool → ℕ → ℤ
signed minus n = cond minus (neg_ℤ (pos n)) (pos n)

-- plain digits, one or more, of a number up to most
unfoldable pub decimal_of : ℕ → List ℕ → Option ℕ
decimal_of most s = cond (leb 1 (length s) && (all_digits s && leb (spelled 0 s) most)) (Some (spelled 0 s)) None

abbrev pub Within : ℕ → Option ℕ → Type 0
Within most (Some n) = n ≤ most
Within most None = Unit {0}
