-- The kernel of a table, and what writing it answers.
-- Assumes nothing.
use Rattle.std.specs.Prelude.{ℕ, ◌+◌, ◌/◌, ◌%◌, Bool, List, [], ◌∷◌, ◌++◌, replicate, Result}
use Rattle.answer.specs.declared.Refusal.{Refusal}
use Rattle.answer.specs.declared.Refusal.TheVariants.{Table as TABLE}
use Rattle.answer.specs.Buffers.{written, buffer_after}
use Rattle.leap.specs.declared.Table.{Table}
use Rattle.leap.specs.Leap.{accepted}
use Rattle.leap.specs.Entries.{Entry, entries}
use Rattle.digits.specs.Bytes.{ascii}
use Rattle.digits.specs.Decimals.{digits_of, signed_text}
use Rattle.digits.specs.Months.{month_name}
use Rattle.kinds.specs.Kinds.{begin_data, begin_text, ours}

-- `@1972-JAN-1` for month 0
abbrev pub date_text : ℕ → List ℕ
date_text m = ascii "@" ++ (digits_of 4 (1972 + m / 12) ++ (ascii "-" ++ (month_name (m % 12 + 1) ++ ascii "-1")))

-- a number without a plus, and its date
abbrev pub pair_text : Entry → List ℕ
pair_text e = signed_text e.1 ++ (ascii ", " ++ date_text e.0)

-- a line feed and twenty blanks
abbrev pub next_line : List ℕ
next_line = 10 ∷ replicate 20 32

-- the pairs after the first, each on a line of its own
unfoldable pub later_pairs : List Entry → List ℕ
later_pairs [] = []
later_pairs (e ∷ es) = next_line ++ (pair_text e ++ later_pairs es)

unfoldable pub pairs_text : List Entry → List ℕ
pairs_text [] = []
pairs_text (e ∷ es) = pair_text e ++ later_pairs es

-- what stands before the pairs, and behind them
abbrev pub front : List ℕ
front = begin_data ++ (10 ∷ ours ++ ascii " = ( ")

abbrev pub back : List ℕ
back = ascii " )" ++ (10 ∷ begin_text ++ 10 ∷ [])

unfoldable pub kernel_of : Table → List ℕ
kernel_of t = front ++ (pairs_text (entries t) ++ back)

-- ---- writing it: the order of refusals, the answer, and the buffer afterwards

abbrev pub kernel_tests : Table → List (Bool × Refusal)
kernel_tests t = (accepted t, TABLE) ∷ []

abbrev pub write_kernel : Table → List ℕ → Result ℕ Refusal
write_kernel t buffer = written (kernel_tests t) (kernel_of t) buffer

abbrev pub write_kernel_after : Table → List ℕ → List ℕ
write_kernel_after t buffer = buffer_after (kernel_tests t) (kernel_of t) buffer
