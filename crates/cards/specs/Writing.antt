-- The cards of a table, oldest first, and what writing them answers.
-- Assumes nothing.
use Rattle.std.specs.Prelude.{ℕ, ◌-◌, Bool, true, ◌&&◌, List, [], ◌∷◌, ◌++◌, leb, length, replicate, Result}
use Rattle.answer.specs.declared.Refusal.{Refusal}
use Rattle.answer.specs.declared.Refusal.TheVariants.{Table as TABLE, Range as RANGE}
use Rattle.answer.specs.Buffers.{written, buffer_after}
use Rattle.leap.specs.declared.Table.{Table}
use Rattle.leap.specs.Leap.{accepted}
use Rattle.leap.specs.Entries.{Entry, entries}
use Rattle.digits.specs.Bytes.{ascii}
use Rattle.digits.specs.Decimals.{signed_text}
use Rattle.cards.specs.Card.{last_card_month, card_date}

abbrev pub blanks : ℕ → List ℕ
blanks n = replicate n 32

-- at the end of so many columns
abbrev pub right_in : ℕ → List ℕ → List ℕ
right_in width s = blanks (width - length s) ++ s

-- column 1 blank; a whole number, `10.0`, in columns 2 to 16; 17 to 31 and 32 to 46 blank; TDT-TAI in 47 to 61, a blank behind it; a date in 62 to 76; 77 and 78 blank; TP
abbrev pub card_line : List ℕ → List ℕ → List ℕ
card_line number date =
    blanks 1 ++ (right_in 15 (number ++ ascii ".0") ++ (blanks 15 ++ (blanks 15 ++ (right_in 15 (ascii "32.184 ") ++ (date ++ (blanks 2 ++ ascii "TP"))))))

unfoldable pub card_text : Entry → List ℕ
card_text e = card_line (signed_text e.1) (card_date e.0)

-- each with a line feed (10)
unfoldable pub cards_text : List Entry → List ℕ
cards_text [] = []
cards_text (e ∷ es) = card_text e ++ (10 ∷ cards_text es)

unfoldable pub cards_of : Table → List ℕ
cards_of t = cards_text (entries t)

-- ---- writing them: the order of refusals, the answer, and the buffer afterwards

-- no entry is later than a card can say
unfoldable pub in_card_years : List Entry → Bool
in_card_years [] = true
in_card_years (e ∷ es) = leb e.0 last_card_month && in_card_years es

abbrev pub card_tests : Table → List (Bool × Refusal)
card_tests t = (accepted t, TABLE) ∷ (in_card_years (entries t), RANGE) ∷ []

abbrev pub write_cards : Table → List ℕ → Result ℕ Refusal
write_cards t buffer = written (card_tests t) (cards_of t) buffer

abbrev pub write_cards_after : Table → List ℕ → List ℕ
write_cards_after t buffer = buffer_after (card_tests t) (cards_of t) buffer
