-- The reader's own steps, which need not be believed: `ReadExactly` of `text` says by `picture_text` alone which texts are read, and as what.
-- Each picture is a pattern, with its six digits behind the point, and a text may leave out the fraction or end after any digit of it.
-- Assumes nothing.
use Rattle.std.specs.Prelude.{Bool, true, false, cond, ◌&&◌, ◌||◌, List, [], ◌∷◌, ℕ, ◌+◌, ◌-◌, eqb, leb, length, Option, Some, None}
use Prim.Native.Char.{code}
use Rattle.laws.specs.Placed.{over}
use Rattle.digits.specs.Bytes.{ascii, bytes_at}
use Rattle.digits.specs.Decimals.{is_digit, number_at}
use Rattle.digits.specs.Months.{month_named}
use Rattle.pictures.specs.declared.Date.{Date}
use Rattle.pictures.specs.declared.Date.TheVariants.{Numbered, OfYear, Named}
use Rattle.pictures.specs.declared.Fields.{Fields}

-- in a pattern 0 stands for any digit, ? for any byte, every other byte for itself
abbrev pub as_shown : ℕ → ℕ → Bool
as_shown c b = cond (eqb c (code "0")) (is_digit b) (eqb c (code "?") || eqb c b)

unfoldable pub like : List ℕ → List ℕ → Bool
like [] [] = true
like [] (b ∷ s) = false
like (c ∷ cs) [] = false
like (c ∷ cs) (b ∷ s) = as_shown c b && like cs s

-- the text with its fraction in full: what it leaves out is as the pattern has it
abbrev pub in_full : List ℕ → List ℕ → List ℕ
in_full pattern s = over s pattern

-- n bytes, or a point and one to six digits behind them
abbrev pub right_length : ℕ → ℕ → Bool
right_length n size = eqb size n || (leb (n + 2) size && leb size (n + 7))

abbrev pub has_picture : List ℕ → ℕ → List ℕ → Bool
has_picture pattern n s = right_length n (length s) && like pattern (in_full pattern s)

-- the three: their patterns, and their lengths without a fraction
abbrev pub numbered_pattern : List ℕ
numbered_pattern = ascii "0000-00-00T00:00:00.000000"

abbrev pub of_year_pattern : List ℕ
of_year_pattern = ascii "0000-000T00:00:00.000000"

abbrev pub named_pattern : List ℕ
named_pattern = ascii "0000 ??? 00 00:00:00.000000"

-- the month of the name in a text, 0 where it is none
abbrev pub month_in : List ℕ → ℕ
month_in t = month_named (bytes_at t 5 3)

-- the fields of a text in full, with the clock from place `at` on and so many digits shown
abbrev pub fields_in : List ℕ → ℕ → ℕ → Date → Fields
fields_in t at digits date =
    record {
      year = number_at t 0 4;
      date = date;
      hour = number_at t at 2;
      minute = number_at t (at + 3) 2;
      second = number_at t (at + 6) 2;
      digits = digits;
      micro = number_at t (at + 9) 6;
    }

abbrev pub numbered_in : List ℕ → ℕ → Fields
numbered_in t digits = fields_in t 11 digits (Numbered (number_at t 5 2) (number_at t 8 2))

abbrev pub of_year_in : List ℕ → ℕ → Fields
of_year_in t digits = fields_in t 9 digits (OfYear (number_at t 5 3))

abbrev pub named_in : List ℕ → ℕ → Fields
named_in t digits = fields_in t 12 digits (Named (month_in t) (number_at t 9 2))

-- `read_fields`: the picture that the text has, if it has one
abbrev pub or_else : Option Fields → Option Fields → Option Fields
or_else (Some f) other = Some f
or_else None other = other

unfoldable pub read_numbered : List ℕ → Option Fields
read_numbered s = cond (has_picture numbered_pattern 19 s) (Some (numbered_in (in_full numbered_pattern s) (length s - 20))) None

unfoldable pub read_of_year : List ℕ → Option Fields
read_of_year s = cond (has_picture of_year_pattern 17 s) (Some (of_year_in (in_full of_year_pattern s) (length s - 18))) None

unfoldable pub read_named : List ℕ → Option Fields
read_named s =
    cond (has_picture named_pattern 20 s && leb 1 (month_in (in_full named_pattern s))) (Some (named_in (in_full named_pattern s) (length s - 21))) None

abbrev pub read_fields : List ℕ → Option Fields
read_fields s = or_else (read_numbered s) (or_else (read_of_year s) (read_named s))
