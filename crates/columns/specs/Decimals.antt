-- Plain decimals: blanks, a sign or none, digits with at most one point and at least one digit, blanks. `Plain` says it; `decimal_in` finds it, and need not be
-- believed: specs/Promise.antt says that it finds what `Plain` says, and nothing else.
-- Assumes nothing.
use Rattle.std.specs.Prelude.{ℕ, ◌+◌, ◌*◌, ◌/◌, ◌^◌, ◌≤◌, ◌<◌, ◌≡◌, Bool, true, false, cond, ◌&&◌, ◌||◌, List, [], ◌∷◌, ◌++◌, eqb, leb, length, drop, get_or, replicate, Option, Some, None}
use Rattle.digits.specs.Decimals.{is_digit, all_digits, spelled}
use Rattle.lines.specs.Words.{leading, is_blank}
use Rattle.columns.specs.declared.Decimal.{Decimal}
use Rattle.columns.specs.Columns.{all_blank}

-- ---- what one is

-- a sign or none, and whether it is a minus
pub data Sign : Bool → List ℕ → Type 0 where
  none : Sign false []
  plus : Sign false (43 ∷ [])
  minus : Sign true (45 ∷ [])

-- digits with at most one point (46): those before it and those behind it
pub data Pointed : List ℕ → List ℕ → List ℕ → Type 0 where
  no_point : {whole : List ℕ} → Pointed whole [] whole
  a_point : {whole behind : List ℕ} → Pointed whole behind (whole ++ 46 ∷ behind)

-- the number that all its digits spell, and how many of them stand behind the point: its value is the number over 10 ^ places
pub record Plain (s : List ℕ) (negative : Bool) (number places : ℕ) : Type 0 where
  pub before : ℕ
  pub sign : List ℕ
  pub whole : List ℕ
  pub behind : List ℕ
  pub body : List ℕ
  pub after : ℕ
  pub split : s ≡ replicate before 32 ++ (sign ++ (body ++ replicate after 32))
  pub is_sign_lem : Sign negative sign
  pub is_body : Pointed whole behind body
  pub whole_digits : all_digits whole ≡ true
  pub behind_digits : all_digits behind ≡ true
  pub some_digit : 1 ≤ length whole + length behind
  pub is_number : number ≡ spelled 0 (whole ++ behind)
  pub is_places : places ≡ length behind

-- ---- finding it

abbrev pub is_sign : ℕ → Bool
is_sign b = eqb b 43 || eqb b 45

abbrev pub is_point : ℕ → Bool
is_point b = eqb b 46

-- what stands behind the bytes of a kind with which s begins, and behind one byte of a kind
abbrev pub behind_all : (ℕ → Bool) → List ℕ → List ℕ
behind_all kind s = drop (length (leading kind s)) s

abbrev pub behind_one : (ℕ → Bool) → List ℕ → List ℕ
behind_one kind s = cond (kind (get_or s 0 0)) (drop 1 s) s

-- a decimal as it is found
abbrev pub found : Bool → ℕ → ℕ → Option Decimal
found negative number places = Some (record { minus = negative; number = number; places = places })

-- with these digits before and behind the point, and this behind them
abbrev pub ended : Bool → List ℕ → List ℕ → List ℕ → Option Decimal
ended negative whole behind s =
    cond (all_blank s && leb 1 (length whole + length behind)) (found negative (spelled 0 (whole ++ behind)) (length behind)) None

-- s stands behind these digits
abbrev pub from_point : Bool → List ℕ → List ℕ → Option Decimal
from_point negative whole s = ended negative whole (leading is_digit (behind_one is_point s)) (behind_all is_digit (behind_one is_point s))

abbrev pub from_digits : Bool → List ℕ → Option Decimal
from_digits negative s = from_point negative (leading is_digit s) (behind_all is_digit s)

abbrev pub from_sign : List ℕ → Option Decimal
from_sign s = from_digits (eqb (get_or s 0 0) 45) (behind_one is_sign s)

-- a field has at most 18 columns, so that its number has at most 18 digits
unfoldable pub decimal_in : List ℕ → Option Decimal
decimal_in s = cond (leb (length s) 18) (from_sign (behind_all is_blank s)) None

-- place r of s stands behind one byte of a kind at place i, or there where none stands
pub record BehindOne (kind : ℕ → Bool) (s : List ℕ) (i r : ℕ) : Type 0 where
  pub rest : drop r s ≡ behind_one kind (drop i s)
  pub later : i ≤ r
  pub inside : r ≤ length s

-- digits from a place on, behind those of the number `before`
pub record Digits (s : List ℕ) (from before number end : ℕ) : Type 0 where
  pub is_number : number ≡ spelled before (leading is_digit (drop from s))
  pub is_end : end ≡ from + length (leading is_digit (drop from s))
  pub inside : end ≤ length s
  pub small : number < 10 ^ end

-- ---- whole numbers

-- the whole number that number / 10 ^ places is, if it is one
unfoldable pub whole_of : ℕ → ℕ → Option ℕ
whole_of number places = cond (eqb (number / 10 ^ places * 10 ^ places) number) (Some (number / 10 ^ places)) None
