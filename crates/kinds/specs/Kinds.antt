-- The bytes of a kernel by kind, and its fixed words.
-- Bytes by number: 9 a tab, 10 a line feed, 13 a carriage return, 32 a blank, 39 ' 40 ( 41 ) 43 + 44 , 45 - 61 = 64 @ 92 \.
-- Assumes nothing.
use Rattle.std.specs.Prelude.{ℕ, ◌-◌, Bool, cond, not, ◌&&◌, ◌||◌, List, ◌∷◌, leb, eqb}
use Rattle.digits.specs.Bytes.{ascii}

-- a blank, a tab or a carriage return
abbrev pub is_white : ℕ → Bool
is_white b = eqb b 32 || (eqb b 9 || eqb b 13)

-- white or a line feed
abbrev pub is_gap : ℕ → Bool
is_gap b = is_white b || eqb b 10

-- in parentheses a comma too
abbrev pub is_between : ℕ → Bool
is_between b = is_gap b || eqb b 44

-- what a run has: 33 to 126 without ( ) , = ' \
abbrev pub is_run : ℕ → Bool
is_run b =
    (leb 33 b && leb b 126)
    && not (eqb b 40 || (eqb b 41 || (eqb b 44 || (eqb b 61 || (eqb b 39 || eqb b 92)))))

-- what a name has: the same without + @
abbrev pub is_name : ℕ → Bool
is_name b = is_run b && not (eqb b 43 || eqb b 64)

-- a letter as a capital, any other byte as it is
abbrev pub upper : ℕ → ℕ
upper b = cond (leb 97 b && leb b 122) (b - 32) b

-- `\begindata`, `\begintext` and our name
abbrev pub begin_data : List ℕ
begin_data = 92 ∷ ascii "begindata"

abbrev pub begin_text : List ℕ
begin_text = 92 ∷ ascii "begintext"

abbrev pub ours : List ℕ
ours = ascii "DELTET/DELTA_AT"
