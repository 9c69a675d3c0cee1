-- Answers in the scope's numbers: that of the refusal, 0 on success, the place of a refused block, and the values, zero in the rest on a refusal.
-- Each crate has them for its answer type, case by case (`written_results`, `instant_results`, `stamp_results`, `tick_results`, `text_results`, `julian_results`,
-- `table_results`, `move_results`). Here is what holds of them; what a refusal hands over is shown in C's form.
-- Assumes nothing.
use Rattle.std.specs.Prelude.{◌≡◌, Bool, true, false, [], ◌∷◌, ◌++◌, ℕ, ℤ, pos, negsuc, replicate, Result, Ok, Err}
use Rattle.std.specs.Float.{fin}
use Rattle.answer.specs.declared.Refusal.{Refusal}
use Rattle.laws.specs.Settles.{also, also_three}
use Rattle.answer.specs.Refusals.{number}
use Rattle.answer.specs.Marks.{marks}
use Rattle.answer.specs.Buffers.{written_results}
use Rattle.labels.specs.declared.Label.{Label}
use Rattle.labels.specs.Labels.{fields}
use Rattle.stamp.specs.declared.Stamp.{Stamp}
use Rattle.stamp.specs.Scales.{scale_number}
use Rattle.stamp.specs.Stamps.{instant_results, stamp_results}
use Rattle.clock.specs.Clock.{tick_results}
use Rattle.text.specs.Text.{text_results}
use Rattle.julian.specs.declared.JulianDate.{JulianDate}
use Rattle.julian.specs.Dates.{julian_results}
use Rattle.leap.specs.declared.Table.{Table}
use Rattle.leap.specs.Leap.{vouched_to}
use Rattle.leap.specs.Readers.{no_table, found, refused_at, table_results}
use Rattle.block.specs.Moves.{move_results}
use Rattle.block.specs.Desk.{table_n}
use Rattle.words.specs.Words.{offset_word, table_words, Undone}
use Rattle.mundreff.specs.Answers.{table_numbers, stamp_fields, stamp_numbers, label_numbers, text_numbers, pair_numbers, instant_with_marks, stamp_with_marks, text_with_marks, length_with_marks, label_with_marks, pair_with_marks}
use Rattle.mundreff.specs.Calls.{label_from, scale_from, reading_from}

-- what a refusal hands over, whatever the call: its number, and zero in the rest
pub record ZeroInTheRest (why : Refusal) : Type 0 where
  pub writing : written_results (Err why) ≡ (number why, 0)
  pub an_instant : instant_results (Err why) ≡ (number why, pos 0)
  pub a_stamp : stamp_numbers (Err why) ≡ (number why, replicate 8 0)
  pub a_label : label_numbers (Err why) ≡ (number why, replicate 6 0)
  pub a_text : text_numbers (Err why) ≡ (number why, pos 0, replicate 8 0)
  pub a_pair : pair_numbers (Err why) ≡ (number why, fin false 0 (pos 0), fin false 0 (pos 0))
  -- a block, a kernel, cards and a move have their place too; in C a table is 130 words
  pub a_block : (place : ℕ) → table_results (refused_at why place) ≡ (number why, place, no_table)
  pub a_move : (place : ℕ) → move_results (Err (record { why = why; at = place })) ≡ (number why, place, 0)
  pub a_block_in_c : (place : ℕ) → table_numbers (refused_at why place) ≡ (number why, place, replicate 130 0)

-- what a success hands over: 0, and its values as they are
pub record AsItIs : Type 0 where
  pub writing : (n : ℕ) → written_results (Ok n) ≡ (0, n)
  pub an_instant : (x : ℤ) → instant_results (Ok x) ≡ (0, x)
  pub a_stamp : (z : Stamp) → stamp_results (Ok z) ≡ (0, z)
  pub a_label : (l : Label) → tick_results (Ok l) ≡ (0, l)
  pub a_text : (x : ℤ) (z : Stamp) → text_results (Ok (x, z)) ≡ (0, x, z)
  pub a_pair : (p : JulianDate) → julian_results (Ok p) ≡ (0, p)
  pub a_block : (t : Table) → table_results (found t) ≡ (0, 0, t)
  pub a_move : (n : ℕ) → move_results (Ok n) ≡ (0, 0, n)

-- in C the marks stand behind these, as bits: 1 is beyond
pub record MarksBehind (b : Bool) : Type 0 where
  pub an_instant : (a : Result ℤ Refusal) → instant_with_marks (record { answer = a; beyond = b }) ≡ also (instant_results a) (marks b)
  pub a_stamp : (a : Result Stamp Refusal) → stamp_with_marks (record { answer = a; beyond = b }) ≡ also (stamp_numbers a) (marks b)
  pub a_text : (a : Result (ℤ × Stamp) Refusal) → text_with_marks (record { answer = a; beyond = b }) ≡ also_three (text_numbers a) (marks b)
  pub writing_text : (a : Result ℕ Refusal) → length_with_marks (record { answer = a; beyond = b }) ≡ also (written_results a) (marks b)
  pub a_label : (a : Result Label Refusal) → label_with_marks (record { answer = a; beyond = b }) ≡ also (label_numbers a) (marks b)
  pub a_pair : (a : Result JulianDate Refusal) → pair_with_marks (record { answer = a; beyond = b }) ≡ also_three (pair_numbers a) (marks b)

-- and in C a success has its values as numbers in a row
pub record InARow : Type 0 where
  pub a_stamp : (z : Stamp) → stamp_numbers (Ok z) ≡ (0, stamp_fields z)
  pub a_label : (l : Label) → label_numbers (Ok l) ≡ (0, fields l)
  pub a_text : (x : ℤ) (z : Stamp) → text_numbers (Ok (x, z)) ≡ (0, x, stamp_fields z)
  pub a_pair : (p : JulianDate) → pair_numbers (Ok p) ≡ (0, p.midnight, p.fraction)

pub record Answers : Type 0 where
  -- a table in C: the count, 64 months, 64 offsets, the number of the month that it is vouched for; -1 has all bits set
  pub a_table_in_c : table_words (vouched_to 7 table_n) ≡ 2 ∷ ((0 ∷ 6 ∷ replicate 62 0) ++ (10 ∷ 9 ∷ replicate 62 0) ++ 7 ∷ [])
  pub minus_one_in_c : offset_word (negsuc 0) ≡ 4294967295
  pub table_and_words : Undone
  -- a stamp and a label in C are read back as they are handed over
  pub stamp_and_numbers : (z : Stamp) → (scale_from (stamp_fields z) ≡ scale_number z.scale) × (reading_from (stamp_fields z) ≡ z.reading)
  pub label_and_numbers : (l : Label) → label_from 0 (fields l) ≡ l
  pub zero_in_the_rest : (why : Refusal) → ZeroInTheRest why
  pub success_as_it_is : AsItIs
  pub in_a_row : InARow
  pub marks_behind : (b : Bool) → MarksBehind b
  pub beyond_is_one : (marks true ≡ 1) × (marks false ≡ 0)
  -- no two refusals share a number, and none has that of success
  pub numbers_differ : (why other : Refusal) → number why ≡ number other → why ≡ other
  pub none_is_success : (why : Refusal) → number why ≡ 0 → ⊥
