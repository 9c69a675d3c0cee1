-- Files of cards as rows: what they are read as, and what is written.
-- Assumes nothing.
use Rattle.std.specs.Prelude.{◌≡◌, List, [], ◌∷◌, ◌++◌, map, ℕ, pos, length}
use Rattle.leap.specs.declared.Table.{Table}
use Rattle.leap.specs.Leap.{filled, bulletin_c}
use Rattle.leap.specs.Readers.{no_table, table_results}
use Rattle.digits.specs.Bytes.{ascii}
use Rattle.answer.specs.Buffers.{written_results}
use Rattle.cards.specs.Reading.{read_cards}
use Rattle.cards.specs.Writing.{right_in, cards_of, write_cards}

-- columns 2 to 80: these fields, from TAI-UTC to TDT-TAI, this date, and columns 77 to 80
abbrev pub line : List ℕ → List ℕ → List ℕ → List ℕ → List ℕ → List ℕ → List ℕ
line tai ut1 rate tdt date kind = right_in 15 tai ++ (right_in 15 ut1 ++ (right_in 15 rate ++ (right_in 15 tdt ++ (date ++ kind))))

-- a plain one, with its line feed, before s
abbrev pub card : List ℕ → List ℕ → List ℕ → List ℕ
card tai date s = ascii " " ++ (line tai [] [] (ascii "32.184 ") date (ascii "  TP") ++ (10 ∷ s))

abbrev pub january72 : List ℕ
january72 = ascii "72001000000.000"

abbrev pub july72 : List ℕ
july72 = ascii "72183000000.000"

-- a second added at the end of June 1972
abbrev pub table_t : Table
table_t = filled (0 ∷ 6 ∷ []) (pos 10 ∷ pos 11 ∷ [])

-- what is read: the refusal, its place and the table
abbrev pub read : List (List ℕ × (ℕ × ℕ × Table))
read =
    -- no card; a comment and a blank line
    ([], (11, 0, no_table))
    ∷ (ascii "* none" ++ (10 ∷ ascii "   "), (11, 0, no_table))
    -- rising; falling, with `1` in column 1, blanks, signs and zeros, UT1, columns 77 and 78 filled, and without the last line's end
    ∷ (card (ascii "10.0") january72 (card (ascii "11.0") july72 []), (0, 0, table_t))
    ∷ (ascii "1" ++ line (ascii "+11. ") (ascii "-.5") (ascii "+2") (ascii "32.1840") july72 (ascii "99TP") ++ (10 ∷ ascii "c" ++ (10 ∷ ascii " " ++ line (ascii "010") [] [] (ascii "032.184") january72 (ascii "  TP"))), (0, 0, table_t))
    -- the source's own example, which dates the step on 30 June; TDT-TAI cut short; the same date twice
    ∷ (card (ascii "10.0") january72 (card (ascii "11.0") (ascii "72182000000.000") []), (15, 81, no_table))
    ∷ (ascii " " ++ line (ascii "10") [] [] (ascii "32.18") january72 (ascii "  TP"), (15, 0, no_table))
    ∷ (10 ∷ card (ascii "10") january72 (card (ascii "10") january72 []), (15, 82, no_table))
    -- a good card, which is no table by itself, in the last month of 2049; 50 is 1950 and not 2050, and 71 is before 1972
    ∷ (card (ascii "10") (ascii "49335000000.000") [], (11, 0, no_table))
    ∷ (card (ascii "10") (ascii "50001000000.000") [], (15, 0, no_table))
    ∷ (card (ascii "10") (ascii "71335000000.000") [], (15, 0, no_table))
    -- a carriage return before the line feed, half a second, a minus before TDT-TAI, no digit
    ∷ (ascii " " ++ (line (ascii "10") [] [] (ascii "32.184") january72 (ascii "  TP") ++ (13 ∷ 10 ∷ [])), (15, 0, no_table))
    ∷ (ascii " " ++ line (ascii "10.5") [] [] (ascii "32.184") january72 (ascii "  TP"), (15, 0, no_table))
    ∷ (ascii " " ++ line (ascii "10") [] [] (ascii "-32.184") january72 (ascii "  TP"), (15, 0, no_table))
    ∷ (ascii " " ++ line (ascii "10") (ascii ".") [] (ascii "32.184") january72 (ascii "  TP"), (15, 0, no_table))
    ∷ []

-- entries in January 1972 and January 2050
abbrev pub table_late : Table
table_late = filled (0 ∷ 936 ∷ []) (pos 10 ∷ pos 11 ∷ [])

pub record CardRows : Type 0 where
  pub read_so : map (λ row. table_results (read_cards row.0)) read ≡ map (λ row. row.1) read
  -- 7, and nothing is written, also where there is no room
  pub late_so : written_results (write_cards table_late []) ≡ (7, 0)
  -- byte for byte
  pub written_so : cards_of table_t ≡ ascii "            10.0                                      32.184 72001000000.000  TP" ++ (10 ∷ ascii "            11.0                                      32.184 72183000000.000  TP" ++ (10 ∷ []))
  pub sized_so : length (cards_of bulletin_c) ≡ 2268
