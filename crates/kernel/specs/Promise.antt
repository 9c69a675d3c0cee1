-- What reading and writing a kernel answers, on every input, by the grammar alone.
-- `Kernel es s`: s is a kernel with the pairs es; `GoesOn s`: some kernel begins with s; `Place x b p`: where the fault is placed that the byte b behind x makes
-- certain; `Good t`: t is accepted and no month is given for it. What reads back is said of tables without a month, since a kernel has no place for one.
-- Assumes nothing.
use Rattle.std.specs.Prelude.{◌≡◌, ◌↔◌, true, false, List, ◌∷◌, ◌++◌, ℕ, ◌≤◌, ◌<◌, length, take}
use Rattle.laws.specs.Placed.{over}
use Rattle.answer.specs.Buffers.{written_results}
use Rattle.leap.specs.declared.Table.{Table}
use Rattle.leap.specs.Leap.{vouched_to, accepted}
use Rattle.leap.specs.Entries.{Entry, table_of, Good}
use Rattle.leap.specs.Readers.{no_table, table_results}
use Rattle.grammar.specs.Grammar.{Kernel}
use Rattle.grammar.specs.Places.{limit, IsKernel, GoesOn, FirstFault, Place}
use Rattle.kernel.specs.Reading.{read_kernel}
use Rattle.kernel.specs.Writing.{kernel_of, write_kernel, write_kernel_after}

-- reading s answers success with table t, or a refusal with its number and place and the all-zero table
abbrev pub GivesTable : List ℕ → Table → Type 0
GivesTable s t = table_results (read_kernel s) ≡ (0, 0, t)

abbrev pub Refuses : List ℕ → ℕ → ℕ → Type 0
Refuses s number place = table_results (read_kernel s) ≡ (number, place, no_table)

-- a fault that is certain within what is read: at the byte b behind x
pub record Fault (s x : List ℕ) (b : ℕ) : Type 0 where
  pub rest : List ℕ
  pub split : s ≡ x ++ b ∷ rest
  pub read : length x < limit
  pub certain : FirstFault x b

-- what a file is
pub data Case (s : List ℕ) : Type 0 where
  a_kernel : length s ≤ limit → IsKernel s → Case s
  a_fault : (x : List ℕ) (b : ℕ) → Fault s x b → Case s
  too_long : limit < length s → GoesOn (take limit s) → Case s
  unfinished : length s ≤ limit → GoesOn s → (IsKernel s → ⊥) → Case s

abbrev pub case_number : {s : List ℕ} → Case s → ℕ
case_number (a_kernel l k) = 0
case_number (a_fault x b f) = 1
case_number (too_long l g) = 2
case_number (unfinished l g n) = 3

-- what reading answers
pub record ReadsKernel (s : List ℕ) : Type 0 where
  -- a table exactly when s is a kernel of no more than 65,536 bytes and the table of its pairs is accepted; 11 at place 0 when it is not
  pub gives_a_table : (t : Table) → GivesTable s t ↔ ((length s ≤ limit) × ((es : List Entry) × (Kernel es s × (Good (table_of es) × (table_of es ≡ t)))))
  pub refuses_its_table : Refuses s 11 0 ↔ ((length s ≤ limit) × ((es : List Entry) × (Kernel es s × (accepted (table_of es) ≡ false))))
  -- 14 for any other file: at the place of its first fault, of which there is one; at 65,536 where there is no fault so far and it is longer; at its end where it is unfinished
  pub refuses_a_fault : (x : List ℕ) (b p : ℕ) → Fault s x b → Refuses s 14 p ↔ Place x b p
  pub has_a_place : (x : List ℕ) (b : ℕ) → Fault s x b → (p : ℕ) × Place x b p
  pub refuses_its_length : limit < length s → GoesOn (take limit s) → Refuses s 14 limit
  pub refuses_its_end : length s ≤ limit → GoesOn s → (IsKernel s → ⊥) → Refuses s 14 (length s)
  -- and it is exactly one of these
  pub some_case : Case s
  pub one_case : (c d : Case s) → case_number c ≡ case_number d

-- what writing answers, and leaves in the buffer; which refusal is given when is said with the order of every call's tests
pub record WritesKernel (t : Table) (buffer : List ℕ) : Type 0 where
  -- the kernel of an accepted table is written wherever it fits, and past it every byte stays
  pub where_it_fits : accepted t ≡ true → length (kernel_of t) ≤ length buffer
      → (written_results (write_kernel t buffer) ≡ (0, length (kernel_of t))) × (write_kernel_after t buffer ≡ over (kernel_of t) buffer)
  -- a refusal leaves every byte of the buffer
  pub or_nothing : ((written_results (write_kernel t buffer)).0 ≡ 0 → ⊥) → write_kernel_after t buffer ≡ buffer

pub record Kernels : Type 0 where
  -- what is written reads back as the table
  pub reads_back : (t : Table) → Good t → GivesTable (kernel_of t) t
  pub reads : (s : List ℕ) → ReadsKernel s
  pub sizes : (t : Table) → accepted t ≡ true → (60 ≤ length (kernel_of t)) × (length (kernel_of t) ≤ 2362)
  pub writes : (t : Table) (buffer : List ℕ) → WritesKernel t buffer
  -- the kernel of a table for which a month is given is that of the same table without it
  pub drops_the_month : (v : ℕ) (t : Table) → kernel_of (vouched_to v t) ≡ kernel_of t
