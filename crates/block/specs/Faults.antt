-- The first fault of a block of either form, read left to right, with the place of the first byte of the number at fault. No table is in it.
-- Assumes nothing.
use Rattle.std.specs.Prelude.{ℕ, zero, suc, ◌+◌, ◌-◌, ◌*◌, ◌/◌, ◌%◌, List, [], ◌∷◌, Bool, cond, ◌&&◌, ◌||◌, ltb, leb, eqb, length, drop, get_or}
use Rattle.answer.specs.declared.Refusal.{Refusal}
use Rattle.answer.specs.declared.Refusal.TheVariants.{Cut as CUT, Groups as GROUPS, Table as TABLE, Tail as TAIL}
use Rattle.answer.specs.Refusals.{refusing}
use Rattle.leap.specs.Leap.{last_entry_month, vouched_right}
use Rattle.block.specs.declared.Form.{Form}
use Rattle.block.specs.declared.Form.TheVariants.{Old, New}

-- ---- the number with which bytes begin

-- how many bytes with the top bit set go before the first without it
unfoldable pub marks : List ℕ → ℕ
marks [] = 0
marks (byte ∷ s) = cond (ltb byte 128) 0 (suc (marks s))

-- how many bytes the number has: these, and the last
abbrev pub number_size : List ℕ → ℕ
number_size s = marks s + 1

-- what it is: groups of seven bits, lowest group first
unfoldable pub number_value : List ℕ → ℕ
number_value [] = 0
number_value (byte ∷ s) = cond (ltb byte 128) byte (number_value s * 128 + byte % 128)

-- its last group is not zero
abbrev pub some_last : List ℕ → Bool
some_last s = ltb 0 (get_or s (marks s) 0)

-- no last group of zero after another group
abbrev pub shortest : List ℕ → Bool
shortest s = eqb (marks s) 0 || some_last s

-- three bytes with the top bit set are GROUPS, also where the bytes end there; an end sooner is CUT; then the shortest form, then the number's own test
abbrev pub number_tests : (ℕ → Bool) → List ℕ → List (Bool × Refusal)
number_tests fine s = (ltb (marks s) 3, GROUPS) ∷ (ltb (marks s) (length s), CUT) ∷ (shortest s, GROUPS) ∷ (fine (number_value s), TABLE) ∷ []

-- a number from the least to the most
abbrev pub within : ℕ → ℕ → ℕ → Bool
within least most n = leb least n && leb n most

-- a gap of at least a month after this one, and no month past December 9999
abbrev pub gap_fine : ℕ → ℕ → Bool
gap_fine month n = ltb 0 (n / 2) && leb (month + n / 2) last_entry_month

-- ---- the block

-- nothing, or a refusal and its place
pub data Fault : Type 0 where
  no_fault : Fault
  fault_at : Refusal → ℕ → Fault

-- last of all TABLE at 1, where the number v of a new block's month stands, for a month before the last entry's; an old block has v = 0, which is always right
abbrev pub month_fault : ℕ → ℕ → Fault
month_fault last v = cond (vouched_right last v) no_fault (fault_at TABLE 1)

-- of the bytes from a place on, where the numbers of so many entries are left after one of this month; a byte after the last is TAIL
unfoldable pub fault_from : ℕ → ℕ → ℕ → ℕ → List ℕ → Fault
fault_from v zero month place [] = month_fault month v
fault_from v zero month place (byte ∷ s) = fault_at TAIL place
fault_from v (suc left) month place s =
    refusing (λ why. fault_at why place) (number_tests (gap_fine month) s) (fault_from v left (month + number_value s / 2) (place + number_size s) (drop (number_size s) s))

-- of an old block from a place on: a count of 1 to 64, and then a number for each entry after the first, which is of month 0
unfoldable pub block_fault : ℕ → ℕ → List ℕ → Fault
block_fault v place s =
    refusing (λ why. fault_at why place) (number_tests (within 1 64) s) (fault_from v (number_value s - 1) 0 (place + number_size s) (drop (number_size s) s))

-- of what comes behind the number 0, which is one byte: the number of a month up to December 9999, or 0 for none, and then an old block
unfoldable pub vouched_fault : List ℕ → Fault
vouched_fault s =
    refusing (λ why. fault_at why 1) (number_tests (within 0 (last_entry_month + 1)) s) (block_fault (number_value s) (1 + number_size s) (drop (number_size s) s))

-- of a block
abbrev pub first_fault : Form → List ℕ → Fault
first_fault Old s = block_fault 0 0 s
first_fault New s = refusing (λ why. fault_at why 0) (number_tests (within 0 0) s) (vouched_fault (drop 1 s))
