-- A card: a line of 80 columns that gives an entry of a leap table, and the date on it.
-- Assumes nothing.
use Rattle.std.specs.Prelude.{ℕ, ◌+◌, ◌-◌, ◌*◌, ◌/◌, ◌^◌, ◌≤◌, ◌≡◌, ◌⊎◌, Bool, true, false, cond, ◌&&◌, List, [], ◌∷◌, ◌++◌, ltb, ℤ, length}
use Rattle.calendar.specs.Days.{day_of_year}
use Rattle.digits.specs.Bytes.{ascii}
use Rattle.digits.specs.Decimals.{digits_of, signed}
use Rattle.leap.specs.Leap.{epoch}
use Rattle.leap.specs.Entries.{Entry}
use Rattle.columns.specs.Columns.{columns, all_blank}
use Rattle.columns.specs.Decimals.{Plain}

-- ---- the date, `yyddd000000.000`

-- two digits of a year: 50 to 99 are 1950 to 1999, 00 to 49 are 2000 to 2049
abbrev pub card_year : ℕ → ℕ
card_year yy = cond (ltb yy 50) (2000 + yy) (1900 + yy)

-- December 2049, where January 1972 is 0
abbrev pub last_card_month : ℕ
last_card_month = 12 * (2049 - 1972) + 11

-- midnight on the first day of month m: two digits of its year, three of the day of that year
abbrev pub card_date : ℕ → List ℕ
card_date m = digits_of 2 (1972 + m / 12) ++ (digits_of 3 (day_of_year (epoch + m) 1) ++ ascii "000000.000")

-- ---- the offsets

-- s shows a whole number of seconds: 23 as `23`, `23.` or `+23.000`
pub record WholeSeconds (s : List ℕ) (z : ℤ) : Type 0 where
  pub negative : Bool
  pub number : ℕ
  pub places : ℕ
  pub size : ℕ
  pub plain : Plain s negative number places
  pub whole : number ≡ size * 10 ^ places
  pub is : z ≡ signed negative size

-- s shows TDT-TAI, 32.184 seconds exactly, also as `+32.1840`
pub record TdtSeconds (s : List ℕ) : Type 0 where
  pub number : ℕ
  pub places : ℕ
  pub plain : Plain s false number places
  pub exact : number * 1000 ≡ 32184 * 10 ^ places

-- s is blank or shows a plain decimal, whatever it is
abbrev pub BlankOrPlain : List ℕ → Type 0
BlankOrPlain s = (all_blank s ≡ true) ⊎ ((negative : Bool) × (number : ℕ) × (places : ℕ) × Plain s negative number places)

-- ---- the card of an entry, a month and its TAI-UTC

pub record Card (line : List ℕ) (e : Entry) : Type 0 where
  pub eighty : length line ≡ 80
  pub used : (columns 1 1 line ≡ ascii " ") ⊎ (columns 1 1 line ≡ ascii "1")
  pub tai_utc : WholeSeconds (columns 2 16 line) e.1
  pub ut1_utc : BlankOrPlain (columns 17 31 line)
  pub ut1_rate : BlankOrPlain (columns 32 46 line)
  pub tdt_tai : TdtSeconds (columns 47 61 line)
  pub date : columns 62 76 line ≡ card_date e.0
  pub in_years_lem : e.0 ≤ last_card_month
  pub kind : columns 79 80 line ≡ ascii "TP"

-- ---- the order of entries

-- each month is later than the one before it
unfoldable pub rises : List Entry → Bool
rises [] = true
rises (e ∷ []) = true
rises (e ∷ f ∷ es) = ltb e.0 f.0 && rises (f ∷ es)
