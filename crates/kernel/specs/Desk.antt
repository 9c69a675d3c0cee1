-- Files with the places of their faults, good files, and what is written, as lists of rows: the ones by which the request was explained, and some of our own.
-- Assumes nothing.
use Rattle.std.specs.Prelude.{◌≡◌, List, [], ◌∷◌, ◌++◌, map, ℕ, zero, suc, pos, ◌-ℤ◌, length}
use Rattle.leap.specs.declared.Table.{Table}
use Rattle.leap.specs.Leap.{filled, bulletin_c}
use Rattle.leap.specs.Readers.{no_table, table_results}
use Rattle.digits.specs.Bytes.{ascii}
use Rattle.kinds.specs.Kinds.{begin_data, begin_text, ours}
use Rattle.kernel.specs.Reading.{read_kernel}
use Rattle.kernel.specs.Writing.{kernel_of}

-- H: `\begindata` and a line end; N: our name; G: our assignment, each before s
abbrev pub H : List ℕ → List ℕ
H s = begin_data ++ (10 ∷ s)

abbrev pub N : List ℕ → List ℕ
N s = ours ++ s

abbrev pub G : List ℕ → List ℕ
G s = N (ascii "=(10,@1972-JAN-1)" ++ s)

-- the table of G's one pair; one with a taken-out second; the one that takes most bytes: a second taken out every month
abbrev pub table_g : Table
table_g = filled (0 ∷ []) (pos 10 ∷ [])

abbrev pub table_n : Table
table_n = filled (0 ∷ 6 ∷ []) (pos 10 ∷ pos 9 ∷ [])

abbrev pub up_from : ℕ → ℕ → List ℕ
up_from zero k = []
up_from (suc n) k = k ∷ up_from n (suc k)

abbrev pub table_falling : Table
table_falling = filled (up_from 64 0) (map (λ m. pos 10 -ℤ pos m) (up_from 64 0))

-- refused with 14 at this place
abbrev pub refused : List (List ℕ × ℕ)
refused =
    ([], 0)
    ∷ (H [], 11)
    ∷ (H (N []), 26)
    ∷ (H (N (ascii "=(10.0")), 30)
    ∷ (H (N (ascii "=(10)")), 30)
    ∷ (H (N (ascii "=(10 -11")), 31)
    ∷ (H (N (ascii "=(10@1972-JAN-1)")), 30)
    ∷ (H (N (ascii "+=(")), 26)
    ∷ (H (N (ascii "=(10,@1971")), 31)
    ∷ (H (N (ascii "=(10,@197")), 35)
    ∷ (H (N (ascii "=(10,@1972-JAN-1(")), 42)
    ∷ (H (G (G [])), 43)
    ∷ (H (G (N [])), 58)
    ∷ (H (G (N (ascii "("))), 43)
    ∷ (H (G (10 ∷ begin_data)), 50)
    ∷ (H (G begin_text), 43)
    ∷ (H (G (ascii "A=1,2")), 46)
    -- our own: a day 0, a byte past 126 in a date and behind it, our name at the end of a run, as a value and behind a quote, no pair, `\begindata` in data
    ∷ (H (N (ascii "=(10 @1972-JAN-0)")), 31)
    ∷ (H (N (ascii "=(10 @1972-JAN" ++ 255 ∷ [])), 31)
    ∷ (H (N (ascii "=(10 @1972-JAN-1" ++ 255 ∷ [])), 42)
    ∷ (H (G (ascii "A=1" ++ N (ascii "="))), 61)
    ∷ (H (G (ascii "A=" ++ N (ascii "="))), 60)
    ∷ (H (G (ascii "A='x'" ++ N (ascii "="))), 48)
    ∷ (H (N (ascii "=()")), 28)
    ∷ (H begin_data, 17)
    ∷ (H (ascii "A=1 " ++ begin_data), 15)
    ∷ []

-- read as this table
abbrev pub good : List (List ℕ × Table)
good =
    (H (G (10 ∷ begin_text)), table_g)
    ∷ (H (G (ascii "A='x'B=(1)C=''")), table_g)
    ∷ (kernel_of bulletin_c, bulletin_c)
    -- our own: commas and an @ in another's items; data that begins at the end; a sign, zeros, small letters, 01 and line ends
    ∷ (H (G (ascii "A=(,1,,@x,)")), table_g)
    ∷ (H (G (10 ∷ begin_text ++ (10 ∷ begin_data))), table_g)
    ∷ (H (N (10 ∷ ascii "=" ++ (13 ∷ 10 ∷ ascii "(" ++ (10 ∷ ascii "+0010" ++ (10 ∷ ascii "@1972-jaN-01" ++ (10 ∷ ascii ")")))))), table_g)
    ∷ []

-- written in so many bytes
abbrev pub sized : List (Table × ℕ)
sized = (table_g, 60) ∷ (bulletin_c, 1032) ∷ (table_falling, 2362) ∷ []

pub record Desk : Type 0 where
  pub refused_so : map (λ row. table_results (read_kernel row.0)) refused ≡ map (λ row. (14, row.1, no_table)) refused
  pub good_so : map (λ row. table_results (read_kernel row.0)) good ≡ map (λ row. (0, 0, row.1)) good
  pub sized_so : map (λ row. length (kernel_of row.0)) sized ≡ map (λ row. row.1) sized
  -- byte for byte
  pub written_so : kernel_of table_n ≡ 92 ∷ ascii "begindata" ++ (10 ∷ ascii "DELTET/DELTA_AT = ( 10, @1972-JAN-1" ++ (10 ∷ ascii "                    9, @1972-JUL-1 )" ++ (10 ∷ 92 ∷ ascii "begintext" ++ (10 ∷ []))))
