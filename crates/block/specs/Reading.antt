-- The steps of the reader, which the contracts of its functions cite. Nothing here need be believed: `ReadsBlock` of specs/Promise.antt says what `read_in`
-- answers, by `first_fault` and `block_in` alone, and `Apart` what `read_either` does.
-- Assumes nothing.
use Rattle.std.specs.Prelude.{ℕ, zero, suc, ◌+◌, ◌-◌, ◌*◌, ◌/◌, ◌%◌, List, [], ◌∷◌, Bool, cond, ltb, eqb, ℤ, pos, ◌+ℤ◌, ◌-ℤ◌, length, drop, Result, Ok, Err}
use Rattle.answer.specs.declared.Refusal.{Refusal}
use Rattle.answer.specs.declared.Refusal.TheVariants.{Cut as CUT, Groups as GROUPS, Table as TABLE, Tail as TAIL}
use Rattle.leap.specs.declared.Table.{Table}
use Rattle.answer.specs.declared.Fault.{Fault}
use Rattle.leap.specs.Leap.{last_entry_month, vouched_right}
use Rattle.leap.specs.Entries.{Entry, first_entry}
use Rattle.leap.specs.Outcomes.{Outcome, entered, fault, joined, table_read}
use Rattle.block.specs.declared.Form.{Form}
use Rattle.block.specs.declared.Form.TheVariants.{Old, New}
use Rattle.block.specs.Faults.{within, gap_fine}

-- ---- a number and how many bytes it has, or why there is none

abbrev pub NumberRead : Type 0
NumberRead = Result (ℕ × ℕ) Refusal

-- a group, and what was read after it: that is 0 only where it is a last group of zero, which after another group is GROUPS
abbrev pub above : ℕ → NumberRead → NumberRead
above low (Ok (high, size)) = cond (eqb high 0) (Err GROUPS) (Ok (high * 128 + low, size + 1))
above low (Err why) = Err why

-- The number of at most k groups with which s begins, and how many bytes it has.
-- Where all k bytes have the top bit set it is GROUPS, also where s ends there; an end sooner is CUT.
unfoldable pub read_groups : ℕ → List ℕ → NumberRead
read_groups zero s = Err GROUPS
read_groups (suc k) [] = Err CUT
read_groups (suc k) (byte ∷ s) = cond (ltb byte 128) (Ok (byte, 1)) (above (byte % 128) (read_groups k s))

-- a number that fails its own test is TABLE
abbrev pub tested : (ℕ → Bool) → NumberRead → NumberRead
tested fine (Ok (n, size)) = cond (fine n) (Ok (n, size)) (Err TABLE)
tested fine (Err why) = Err why

-- the number with which s begins, of at most three groups and tested
abbrev pub read_number : (ℕ → Bool) → List ℕ → NumberRead
read_number fine s = tested fine (read_groups 3 s)

-- at a place, which is that of its fault
abbrev pub number_at : ℕ → NumberRead → Result (ℕ × ℕ) Fault
number_at at (Ok x) = Ok x
number_at at (Err why) = Err (record { why = why; at = at })

-- ---- what it stands for

-- a step of +1, or of -1 where the number is odd
abbrev pub offset_after : ℤ → ℕ → ℤ
offset_after before n = cond (eqb (n % 2) 0) (before +ℤ pos 1) (before -ℤ pos 1)

-- the entry after e, from its number n
abbrev pub next_entry : Entry → ℕ → Entry
next_entry e n = (e.0 + n / 2, offset_after e.1 n)

-- ---- the block

-- what was read as a number at place `at`: its fault, or else what follows it
abbrev pub on_number : ℕ → (ℕ → ℕ → Outcome) → NumberRead → Outcome
on_number at follows (Err why) = fault why at
on_number at follows (Ok (n, size)) = follows n size

-- the last entry e of a table that is to be vouched for up to the month of number v
abbrev pub last_entry : ℕ → Entry → Outcome
last_entry v e = cond (vouched_right e.0 v) (entered v (e ∷ [])) (fault TABLE 1)

-- the entry e, and after it those that s holds, which stands at place `at` of the block: `left` in number, and nothing more
unfoldable pub read_entries : ℕ → ℕ → Entry → ℕ → List ℕ → Outcome
read_entries v zero e at s = cond (eqb (length s) 0) (last_entry v e) (fault TAIL at)
read_entries v (suc left) e at s =
    on_number at (λ n size. joined (e ∷ []) (read_entries v left (next_entry e n) (at + size) (drop size s))) (read_number (gap_fine e.0) s)

-- what an old block holds that stands at place `at`
unfoldable pub in_block : ℕ → ℕ → List ℕ → Outcome
in_block v at s =
    on_number at (λ n size. read_entries v (n - 1) first_entry (at + size) (drop size s)) (read_number (within 1 64) s)

-- what comes behind the number 0 of a new block: the number of a month, and an old block
unfoldable pub in_vouched : List ℕ → Outcome
in_vouched s = on_number 1 (λ v size. in_block v (1 + size) (drop size s)) (read_number (within 0 (last_entry_month + 1)) s)

abbrev pub in_form : Form → List ℕ → Outcome
in_form Old s = in_block 0 0 s
in_form New s = on_number 0 (λ n size. in_vouched (drop 1 s)) (read_number (within 0 0) s)

-- what the bytes hold by an opening that was read: an old block at its place under the month, or the fault
abbrev pub behind : Result (ℕ × ℕ) Fault → List ℕ → Outcome
behind (Ok (start, v)) s = in_block v start (drop start s)
behind (Err f) s = fault f.why f.at

-- where the old block begins; 0 where there is none
abbrev pub beginning : Result (ℕ × ℕ) Fault → ℕ
beginning (Ok (start, v)) = start
beginning (Err f) = 0

-- the table that was read into, as an answer
abbrev pub answered : Result Unit Fault → Table → Result Table Fault
answered (Ok _) t = Ok t
answered (Err f) t = Err f

abbrev pub read_in : Form → List ℕ → Result Table Fault
read_in form s = table_read (in_form form s)

abbrev pub read_block : List ℕ → Result Table Fault
read_block s = read_in Old s

abbrev pub read_new_block : List ℕ → Result Table Fault
read_new_block s = read_in New s

-- ---- either form

-- told by the first number, which is the byte 0 in a new block alone
abbrev pub form_of : List ℕ → Form
form_of [] = Old
form_of (byte ∷ s) = cond (eqb byte 0) New Old

abbrev pub read_either : List ℕ → Result Table Fault
read_either s = read_in (form_of s) s
