-- The last line: how many lines were good, and which were not. And the part of a line that names a file.
-- Assumes nothing.
use Rattle.std.specs.Prelude.{ℕ, zero, suc, ◌-◌, min, cond, List, [], ◌∷◌, ◌++◌, eqb, leb, ltb, length, get_or}
use Rattle.digits.specs.Bytes.{ascii}
use Rattle.digits.specs.Decimals.{decimal_text}
use Rattle.phrases.specs.Parts.{begins_with}
use Rattle.wording.specs.declared.Part.{Part}

-- the first n numbers, each after a blank
unfoldable pub numbers_text : List ℕ → ℕ → List ℕ
numbers_text numbers zero = []
numbers_text numbers (suc n) = numbers_text numbers n ++ (ascii " " ++ decimal_text (get_or numbers n 0))

-- how many more than 20
abbrev pub more_text : ℕ → List ℕ
more_text bad = cond (ltb 20 bad) (ascii " and " ++ (decimal_text (bad - 20) ++ ascii " more")) []

abbrev pub bad_text : ℕ → List ℕ → List ℕ
bad_text bad first = cond (eqb bad 0) [] (ascii " - not good:" ++ (numbers_text first (min bad 20) ++ more_text bad))

unfoldable pub summary_text : ℕ → ℕ → List ℕ → List ℕ
summary_text lines bad first =
    decimal_text (lines - bad) ++ (ascii " of " ++ (decimal_text lines ++ (ascii " lines good" ++ (bad_text bad first ++ (10 ∷ [])))))

-- ---- the part of a line that names a file

-- behind its first n bytes
abbrev pub part_behind : ℕ → List ℕ → Part
part_behind n line = record { from = min n (length line); end = length line }

abbrev pub no_part : Part
no_part = record { from = 0; end = 0 }

-- behind `table kernel ` or `table cards `; nothing where the line is neither, or too long
unfoldable pub file_of : List ℕ → Part
file_of line =
    cond (leb (length line) 1024)
    (cond (begins_with (ascii "table kernel ") line) (part_behind 13 line)
    (cond (begins_with (ascii "table cards ") line) (part_behind 12 line) no_part))
    no_part
