-- What `ticks` prints, byte for byte: the first bad line decides, or the header and a line for each second.
-- Assumes nothing.
use Rattle.std.specs.Prelude.{ℕ, zero, suc, Bool, List, [], ◌∷◌, ◌++◌, leb, ℤ, pos, ◌+ℤ◌, ◌-ℤ◌, length, Result, Ok, Err, ok_or}
use Rattle.answer.specs.declared.Refusal.{Refusal}
use Rattle.answer.specs.declared.Refusal.TheVariants.{Shape as SHAPE, Ask as ASK}
use Rattle.answer.specs.Refusals.{number, refusing}
use Rattle.leap.specs.declared.Table.{Table}
use Rattle.leap.specs.Leap.{offset_at}
use Rattle.labels.specs.declared.Label.{Label}
use Rattle.labels.specs.Labels.{month_of, whole}
use Rattle.labels.specs.Seconds.{second_of}
use Rattle.stamp.specs.declared.Stamp.{Stamp}
use Rattle.clock.specs.Clock.{tick}
use Rattle.answer.specs.declared.Fault.{Fault}
use Rattle.leap.specs.Readers.{refused_at}
use Rattle.block.specs.Reading.{read_block}
use Rattle.digits.specs.Bytes.{ascii}
use Rattle.text.specs.Text.{text_of, read_text}
use Rattle.lines.specs.Words.{line_of, without}
use Rattle.digits.specs.Decimals.{decimal_of}
use Rattle.lines.specs.Pairs.{paired, all_pairs}
use Rattle.digits.specs.Decimals.{decimal_text, signed_text}

-- ---- the three lines

-- any line over 1,024 characters is bad
abbrev pub short : List ℕ → Bool
short line = leb (length line) 1024

-- a block in hex
unfoldable pub block_line : List ℕ → Result Table Fault
block_line line =
    refusing (λ why. refused_at why 0) ((short line, SHAPE) ∷ (all_pairs line, SHAPE) ∷ []) (read_block (paired line))

-- a UTC stamp without fraction: no point (46) stands in it
unfoldable pub stamp_line : Table → List ℕ → Result (ℤ × Stamp) Refusal
stamp_line t line = refusing Err ((short line, SHAPE) ∷ (without 46 line, SHAPE) ∷ []) (read_text t 0 line)

-- a count up to 3600: plain digits
unfoldable pub count_line : List ℕ → Result ℕ Refusal
count_line line = refusing Err ((short line, SHAPE) ∷ []) (ok_or (decimal_of 3600 line) ASK)

-- ---- what is printed

abbrev pub refused_word : List ℕ
refused_word = ascii "refused "

-- `refused`, a blank and the number
unfoldable pub refusal_text : Refusal → List ℕ
refusal_text why = refused_word ++ (decimal_text (number why) ++ 10 ∷ [])

abbrev pub header : List ℕ
header = ascii "UTC TAI" ++ 10 ∷ []

-- TAI seconds past 2000-01-01 12:00:00 TAI, which is second 63,113,947,200: the label's own second and TAI-UTC
unfoldable pub tai_second : Table → Label → ℤ
tai_second t l = (pos (second_of l) +ℤ offset_at t (month_of l)) -ℤ pos 63113947200

-- a line: the label in picture 0 with no digits, a blank, its TAI second
unfoldable pub row_text : Table → Label → List ℕ
row_text t l = text_of 0 0 (whole l) ++ (32 ∷ [] ++ (signed_text (tai_second t l) ++ 10 ∷ []))

-- the line of the next second, or nothing after the last of 9999
abbrev pub row_after : (Label → List ℕ) → Result Label Refusal → List ℕ
row_after more (Ok l) = more l
row_after more (Err why) = []

-- a line for each of n seconds from a label on
unfoldable pub rows_from : Table → ℕ → Label → List ℕ
rows_from t zero l = []
rows_from t (suc n) l = row_text t l ++ row_after (rows_from t n) (tick t l)

-- ---- the first bad line decides

abbrev pub after_block : (Table → List ℕ) → Result Table Fault → List ℕ
after_block next (Ok t) = next t
after_block next (Err fault) = refusal_text fault.why

abbrev pub after_stamp : (Label → List ℕ) → Result (ℤ × Stamp) Refusal → List ℕ
after_stamp next (Ok (instant, stamp)) = next stamp.reading.label
after_stamp next (Err why) = refusal_text why

abbrev pub after_count : (ℕ → List ℕ) → Result ℕ Refusal → List ℕ
after_count next (Ok n) = next n
after_count next (Err why) = refusal_text why

unfoldable pub from_count : Table → Label → List ℕ → List ℕ
from_count t l third = after_count (λ n. header ++ rows_from t n l) (count_line third)

unfoldable pub from_stamp : Table → List ℕ → List ℕ → List ℕ
from_stamp t second third = after_stamp (λ l. from_count t l third) (stamp_line t second)

unfoldable pub from_block : List ℕ → List ℕ → List ℕ → List ℕ
from_block first second third =
    after_block (λ t. from_stamp t second third) (block_line first)

-- what `ticks` prints for an input
unfoldable pub listed : List ℕ → List ℕ
listed s = from_block (line_of s 0) (line_of s 1) (line_of s 2)

-- what is printed for what the three lines ask for, or for the refusal of the first bad one
abbrev pub shown : Result (Table × Label × ℕ) Refusal → List ℕ
shown (Ok (t, l, n)) = header ++ rows_from t n l
shown (Err why) = refusal_text why
