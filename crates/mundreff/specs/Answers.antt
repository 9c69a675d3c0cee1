-- What C is handed: the answers in the scope's numbers, as the crates below have them (`instant_results`, `stamp_results`, ..), with a table as 130
-- words, a stamp as eight numbers, a label as six and a pair as two, in the order in which they are written. A refused one is all zero.
-- Assumes nothing.
use Rattle.labels.specs.declared.Label.{Label}
use Rattle.julian.specs.declared.JulianDate.{JulianDate}
use Rattle.answer.specs.declared.Refusal.{Refusal}
use Rattle.std.specs.Prelude.{List, [], ◌∷◌, ◌++◌, ℕ, ℤ, Float, Result, Ok, Err}
use Rattle.laws.specs.Settles.{also, also_three}
use Rattle.answer.specs.Buffers.{written_results}
use Rattle.answer.specs.Marks.{marks}
use Rattle.answer.specs.Refusals.{number}
use Rattle.stamp.specs.declared.Stamp.{Stamp}
use Rattle.labels.specs.Labels.{fields}
use Rattle.answer.specs.declared.Marked.{Marked}
use Rattle.stamp.specs.Scales.{scale_number}
use Rattle.stamp.specs.Stamps.{instant_results, stamp_results}
use Rattle.clock.specs.Clock.{tick_results}
use Rattle.leap.specs.declared.Table.{Table}
use Rattle.answer.specs.declared.Fault.{Fault}
use Rattle.leap.specs.Readers.{table_results}
use Rattle.text.specs.Text.{text_results}
use Rattle.julian.specs.Dates.{julian_results}
use Rattle.words.specs.Words.{table_words}

-- an answer's number, 0 on success, and its value, or what stands for the value of a refusal
abbrev pub given : {A : Type 0} → A → Result A Refusal → ℕ × A
given none (Ok x) = (0, x)
given none (Err why) = (number why, none)

-- and the place of a fault between them
abbrev pub given_at : {A : Type 0} → A → Result A Fault → ℕ × ℕ × A
given_at none (Ok x) = (0, 0, x)
given_at none (Err fault) = (number fault.why, fault.at, none)

abbrev pub table_numbers : Result Table Fault → ℕ × ℕ × List ℕ
table_numbers b = ((table_results b).0, (table_results b).1, table_words (table_results b).2)

abbrev pub stamp_fields : Stamp → List ℕ
stamp_fields z = scale_number z.scale ∷ (fields z.reading.label ++ z.reading.micro ∷ [])

abbrev pub stamp_numbers : Result Stamp Refusal → ℕ × List ℕ
stamp_numbers a = ((stamp_results a).0, stamp_fields (stamp_results a).1)

abbrev pub text_numbers : (Result (ℤ × Stamp) Refusal) → ℕ × ℤ × List ℕ
text_numbers a = ((text_results a).0, (text_results a).1, stamp_fields (text_results a).2)

abbrev pub label_numbers : Result Label Refusal → ℕ × List ℕ
label_numbers a = ((tick_results a).0, fields (tick_results a).1)

abbrev pub pair_numbers : Result JulianDate Refusal → ℕ × Float × Float
pair_numbers a = ((julian_results a).0, (julian_results a).1.midnight, (julian_results a).1.fraction)

-- ---- and their marks

abbrev pub instant_with_marks : Marked ℤ → ℕ × ℤ × ℕ
instant_with_marks a = also (instant_results a.answer) (marks a.beyond)

abbrev pub stamp_with_marks : Marked Stamp → ℕ × List ℕ × ℕ
stamp_with_marks a = also (stamp_numbers a.answer) (marks a.beyond)

abbrev pub text_with_marks : (Marked (ℤ × Stamp)) → ℕ × ℤ × List ℕ × ℕ
text_with_marks a = also_three (text_numbers a.answer) (marks a.beyond)

abbrev pub length_with_marks : Marked ℕ → ℕ × ℕ × ℕ
length_with_marks a = also (written_results a.answer) (marks a.beyond)

abbrev pub label_with_marks : Marked Label → ℕ × List ℕ × ℕ
label_with_marks a = also (label_numbers a.answer) (marks a.beyond)

abbrev pub pair_with_marks : Marked JulianDate → ℕ × Float × Float × ℕ
pair_with_marks a = also_three (pair_numbers a.answer) (marks a.beyond)
