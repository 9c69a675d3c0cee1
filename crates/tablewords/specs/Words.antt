-- A leap table in words: all its entries, a line for each, or how many it has, the last one and the month that it is vouched for.
-- Assumes nothing.
use Rattle.std.specs.Prelude.{ℕ, zero, suc, ◌+◌, ◌/◌, ◌%◌, min, cond, List, [], ◌∷◌, ◌++◌, eqb, ℤ}
use Rattle.digits.specs.Bytes.{ascii}
use Rattle.digits.specs.Decimals.{digits_of, decimal_text, signed_text}
use Rattle.lines.specs.Words.{line_of}
use Rattle.leap.specs.declared.Table.{Table}
use Rattle.leap.specs.Leap.{entry_month, entry_offset, top, is_given, vouched_month}
use Rattle.phrases.specs.Texts.{months}

-- the year of month m and its month in the year, where January 1972 is 0
abbrev pub year_of : ℕ → ℕ
year_of m = 1972 + m / 12

abbrev pub month_of : ℕ → ℕ
month_of m = m % 12 + 1

-- the first day of month m, `2017-01-01`
unfoldable pub date_text : ℕ → List ℕ
date_text m = digits_of 4 (year_of m) ++ (ascii "-" ++ (digits_of 2 (month_of m) ++ ascii "-01"))

-- a month with its offset, `2017-01-01 37 s`
unfoldable pub offset_text : ℕ → ℤ → List ℕ
offset_text month offset = date_text month ++ (ascii " " ++ (signed_text offset ++ ascii " s"))

-- entry k
abbrev pub entry_text : Table → ℕ → List ℕ
entry_text t k = offset_text (entry_month t k) (entry_offset t k)

-- a line feed (10) in front of every entry but the first
abbrev pub feed : ℕ → List ℕ
feed k = cond (eqb k 0) [] (10 ∷ [])

-- the first n entries, a line for each
unfoldable pub first_entries : Table → ℕ → List ℕ
first_entries t zero = []
first_entries t (suc k) = first_entries t k ++ (feed k ++ entry_text t k)

-- all entries: a table has no more than 64
abbrev pub entries_text : Table → List ℕ
entries_text t = first_entries t (min t.count 64)

-- `28 entries`, and `1 entry` for one
unfoldable pub count_text : ℕ → List ℕ
count_text n = decimal_text n ++ cond (eqb n 1) (ascii " entry") (ascii " entries")

-- `vouched to December 2026` for the number of that month
unfoldable pub vouched_words : ℕ → List ℕ
vouched_words v =
    cond (is_given v)
    (ascii "vouched to " ++ (line_of months (month_of (vouched_month v)) ++ (ascii " " ++ decimal_text (year_of (vouched_month v)))))
    (ascii "no month vouched for")

-- the table in words: `28 entries, the last 2017-01-01 with 37 s, vouched to December 2026`
unfoldable pub table_words : Table → List ℕ
table_words t =
    count_text t.count
    ++ (ascii ", the last "
    ++ (date_text (entry_month t (top t.count))
    ++ (ascii " with " ++ (signed_text (entry_offset t (top t.count)) ++ (ascii " s, " ++ vouched_words t.vouched)))))
