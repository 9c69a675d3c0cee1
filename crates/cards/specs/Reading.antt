-- What reading cards answers, which the contracts of its functions cite. Nothing here need be believed: specs/Promise.antt says what `read_cards` answers, by
-- `Card` alone.
-- Assumes nothing.
use Rattle.std.specs.Prelude.{ℕ, ℤ, ◌+◌, ◌-◌, ◌*◌, ◌/◌, min, Bool, true, false, cond, not, ◌&&◌, ◌||◌, List, [], ◌∷◌, ◌++◌, reverse, eqb, leb, ltb, length, get_or, set, Option, Some, None, Result}
use Rattle.answer.specs.declared.Refusal.TheVariants.{Card as CARD}
use Rattle.digits.specs.Bytes.{same_bytes}
use Rattle.digits.specs.Decimals.{number_at, signed}
use Rattle.leap.specs.declared.Table.{Table}
use Rattle.answer.specs.declared.Fault.{Fault}
use Rattle.leap.specs.Entries.{Entry, entries, table_of}
use Rattle.leap.specs.Readers.{no_table, refused_at, judged}
use Rattle.columns.specs.declared.Decimal.{Decimal}
use Rattle.columns.specs.Lines.{lines_of}
use Rattle.columns.specs.Columns.{columns, all_blank, passed_over}
use Rattle.columns.specs.Decimals.{decimal_in, whole_of}
use Rattle.cards.specs.declared.Deck.{Deck}
use Rattle.cards.specs.Card.{card_year, last_card_month, card_date, rises}

-- ---- the fields

abbrev pub is_plain : Option Decimal → Bool
is_plain (Some d) = true
is_plain None = false

abbrev pub blank_or_plain : List ℕ → Bool
blank_or_plain s = all_blank s || is_plain (decimal_in s)

abbrev pub is_number : ℕ → Option ℕ → Bool
is_number n (Some m) = eqb m n
is_number n None = false

-- 32.184 has three places behind its point, or more that are zero
abbrev pub is_tdt : Option Decimal → Bool
is_tdt (Some d) = not d.minus && (leb 3 d.places && is_number 32184 (whole_of d.number (d.places - 3)))
is_tdt None = false

-- The month of a date is guessed from its digits, and its text compared. Month k of a year, counted from 0, begins with day 30 * k or one of the six after it.
abbrev pub year_in : List ℕ → ℕ
year_in s = card_year (number_at s 0 2)

abbrev pub month_in : List ℕ → ℕ
month_in s = 12 * (year_in s - 1972) + number_at s 2 3 / 30

unfoldable pub date_in : List ℕ → Option ℕ
date_in s = cond (leb 1972 (year_in s) && (leb (month_in s) last_card_month && same_bytes (card_date (month_in s)) s)) (Some (month_in s)) None

-- ---- a line

-- the month, and TAI-UTC as its sign and size, or no card
pub data Found : Type 0 where
  a_card : ℕ → Bool → ℕ → Found
  no_card : Found

abbrev pub sized : ℕ → Bool → Option ℕ → Found
sized m negative (Some n) = a_card m negative n
sized m negative None = no_card

abbrev pub dated : Option ℕ → Option Decimal → Found
dated (Some m) (Some d) = sized m d.minus (whole_of d.number d.places)
dated (Some m) None = no_card
dated None d = no_card

-- column 1 is blank or `1` (49), and 79 and 80 are `T` (84) and `P` (80)
abbrev pub is_marked : ℕ → ℕ → ℕ → Bool
is_marked a b c = (eqb a 32 || eqb a 49) && (eqb b 84 && eqb c 80)

unfoldable pub rest_right : List ℕ → Bool
rest_right line =
    is_marked (get_or line 0 0) (get_or line 78 0) (get_or line 79 0)
    && (blank_or_plain (columns 17 31 line) && (blank_or_plain (columns 32 46 line) && is_tdt (decimal_in (columns 47 61 line))))

unfoldable pub card_in : List ℕ → Found
card_in line = cond (eqb (length line) 80 && rest_right line) (dated (date_in (columns 62 76 line)) (decimal_in (columns 2 16 line))) no_card

-- what the reader keeps of it: no table has an offset of 1000 or more, so no more of it is kept
abbrev pub kept : ℕ → ℕ
kept n = min n 1000

abbrev pub kept_card : Found → Option Entry
kept_card (a_card m negative n) = Some (m, signed negative (kept n))
kept_card no_card = None

-- ---- the order of the cards

abbrev pub in_order : List Entry → Bool
in_order es = rises es || rises (reverse es)

-- a table, with its entries from the last to the first where they fall
abbrev pub turned : Bool → Table → Table
turned falling t = cond falling (table_of (reverse (entries t))) t

-- one of this month may follow: the first two decide
unfoldable pub follows : ℕ → Bool → ℕ → ℕ → Bool
follows count falling last m = cond (ltb count 1) true (cond (ltb count 2) (not (eqb m last)) (cond falling (ltb m last) (ltb last m)))

-- ---- what the reader keeps of the cards so far

abbrev pub no_cards : Deck
no_cards = record { table = no_table; falling = false; last = 0 }

-- a table with one entry more, of which no more than 64 are kept
abbrev pub put : ℕ → ℤ → Table → Table
put m o t = record { count = t.count + 1; months = set t.months t.count m; offsets = set t.offsets t.count o; vouched = t.vouched }

abbrev pub crowded : Table → Table
crowded t = record { count = 65; months = t.months; offsets = t.offsets; vouched = t.vouched }

abbrev pub added : ℕ → ℤ → Deck → Deck
added m o d = record { table = cond (ltb d.table.count 64) (put m o d.table) (crowded d.table); falling = ltb m d.last; last = m }

abbrev pub oldest_first : List Entry → List Entry
oldest_first es = cond (rises es) es (reverse es)

-- ---- the file

-- a line at place `at` that is no card is refused there; a card is handed on
abbrev pub on_found : ℕ → (Entry → Result Table Fault) → Found → Result Table Fault
on_found at next (a_card m negative n) = next (m, signed negative n)
on_found at next no_card = refused_at CARD at

-- these lines, the first of which stands at place `at`, behind the cards es
unfoldable pub read_lines : List Entry → ℕ → List (List ℕ) → Result Table Fault
read_lines es at [] = judged (table_of (oldest_first es))
read_lines es at (line ∷ lines) =
    cond (passed_over line) (read_lines es (at + (length line + 1)) lines)
    (on_found at
    (λ e. cond (in_order (es ++ e ∷ [])) (read_lines (es ++ e ∷ []) (at + (length line + 1)) lines) (refused_at CARD at))
    (card_in line))

unfoldable pub read_cards : List ℕ → Result Table Fault
read_cards s = read_lines [] 0 (lines_of s)
