-- Stamps as a desk gives them: the name of a clock, a blank and a text.
-- Assumes nothing.
use Rattle.std.specs.Prelude.{ℕ, ◌+◌, Bool, cond, List, [], eqb, ℤ, pos, negsuc, length, drop, ◌≤ℤ◌}
use Rattle.answer.specs.declared.Marked.{Marked}
use Rattle.stamp.specs.declared.Stamp.{Stamp}
use Rattle.leap.specs.declared.Table.{Table}
use Rattle.text.specs.Marks.{read_text_marked}
use Rattle.digits.specs.Bytes.{ascii, same_bytes}
use Rattle.lines.specs.Words.{before}

-- the name of a clock by its number
abbrev pub clock_name : ℕ → List ℕ
clock_name k = cond (eqb k 0) (ascii "UTC") (cond (eqb k 1) (ascii "TAI") (cond (eqb k 2) (ascii "TDT") (ascii "GPS")))

-- and its number by the name; 4, which is none, for any other
unfoldable pub clock_named : List ℕ → ℕ
clock_named s =
    cond (same_bytes s (ascii "UTC")) 0 (cond (same_bytes s (ascii "TAI")) 1 (cond (same_bytes s (ascii "TDT")) 2 (cond (same_bytes s (ascii "GPS")) 3 4)))

-- the clock of a stamp stands before the first blank (32), its text behind it
unfoldable pub clock_of : List ℕ → ℕ
clock_of given = clock_named (before 32 given)

unfoldable pub stamp_read : Table → List ℕ → (Marked (ℤ × Stamp))
stamp_read t given = read_text_marked t (clock_of given) (drop (length (before 32 given) + 1) given)

abbrev pub beyond_text : Bool → List ℕ
beyond_text b = cond b (ascii ", beyond the month that the table is vouched for") []

-- what every instant that is read keeps to, so that sums and differences fit 64 bits. A reader may skip it.
abbrev pub Near : ℤ → Type 0
Near x = (negsuc 62999999999999999 ≤ℤ x) × (x ≤ℤ pos 300000000000000000)
