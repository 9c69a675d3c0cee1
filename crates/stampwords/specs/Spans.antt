-- From one stamp to another: how long, and by how much a subtraction of the labels is wrong.
-- Assumes nothing.
use Rattle.std.specs.Prelude.{ℕ, Bool, cond, ◌&&◌, ◌||◌, List, ◌++◌, eqb, leb, ℤ, pos, negsuc, nat_abs, ◌-ℤ◌, length, Option, Some, None, Result, Ok, Err}
use Rattle.std.specs.Int.Signed.{lt_z}
use Rattle.leap.specs.declared.Table.{Table}
use Rattle.labels.specs.Labels.{month_of}
use Rattle.answer.specs.declared.Refusal.{Refusal}
use Rattle.stamp.specs.declared.Stamp.{Stamp}
use Rattle.stamp.specs.Scales.{scale_number, offsets_of}
use Rattle.digits.specs.Bytes.{ascii}
use Rattle.digits.specs.Decimals.{decimal_text}
use Rattle.lines.specs.Words.{without}
use Rattle.phrases.specs.Parts.{quoted}
use Rattle.phrases.specs.Texts.{no_name}
use Rattle.phrases.specs.Replies.{Reply, answering, refusing_as, refusal}
use Rattle.stampwords.specs.declared.Span.{Span}
use Rattle.stampwords.specs.declared.Misread.{Misread}
use Rattle.stampwords.specs.declared.Misread.TheVariants.{First, Second}
use Rattle.seconds.specs.Seconds.{seconds_text}
use Rattle.stampwords.specs.Stamps.{stamp_read, beyond_text}

-- ---- the steps between

-- TAI-UTC in the month of its label, in seconds, and 0 on the other clocks
abbrev pub offset_on : Table → Stamp → ℤ
offset_on t z = offsets_of t z.scale (month_of z.reading.label)

-- of two stamps on one clock
abbrev pub steps_between : Table → Stamp → Stamp → Option ℤ
steps_between t z w = cond (eqb (scale_number z.scale) (scale_number w.scale)) (Some (offset_on t w -ℤ offset_on t z)) None

-- in the order of time: the later one's less the earlier one's
abbrev pub steps_in_order : Table → ℤ → Stamp → ℤ → Stamp → Option ℤ
steps_in_order t x z y w = cond (lt_z y x) (steps_between t w z) (steps_between t z w)

abbrev pub step_word : ℤ → List ℕ
step_word (pos n) = ascii "added"
step_word (negsuc n) = ascii "taken out"

abbrev pub plural_text : ℕ → List ℕ
plural_text n = cond (eqb n 1) (ascii " second ") (ascii " seconds ")

unfoldable pub count_text : ℤ → List ℕ
count_text z =
    cond (eqb (nat_abs z) 0) (ascii "no second added")
    (decimal_text (nat_abs z) ++ (plural_text (nat_abs z) ++ step_word z))

abbrev pub steps_text : Option ℤ → List ℕ
steps_text (Some z) = count_text z
steps_text None = ascii "different clocks"

-- ---- two stamps

abbrev pub span_to : Table → Bool → ℤ → Stamp → Result (ℤ × Stamp) Refusal → Result Span Misread
span_to t beyond x z (Ok (y, w)) = Ok (record { micros = y -ℤ x; steps = steps_in_order t x z y w; beyond = beyond })
span_to t beyond x z (Err why) = Err (Second why)

abbrev pub span_from : Table → Bool → Result (ℤ × Stamp) Refusal → Result (ℤ × Stamp) Refusal → Result Span Misread
span_from t beyond (Ok (x, z)) second = span_to t beyond x z second
span_from t beyond (Err why) second = Err (First why)

-- the first stamp is judged first
unfoldable pub span_of : Table → List ℕ → List ℕ → Result Span Misread
span_of t a b = span_from t ((stamp_read t a).beyond || (stamp_read t b).beyond) (stamp_read t a).answer (stamp_read t b).answer

-- ---- between

abbrev pub between_text : Span → List ℕ
between_text s = seconds_text s.micros ++ (ascii " s" ++ beyond_text s.beyond)

-- the refusal of the stamp at fault
abbrev pub misread_reply : List ℕ → List ℕ → Misread → Reply
misread_reply a b (First why) = refusal why a
misread_reply a b (Second why) = refusal why b

abbrev pub between_answer : List ℕ → List ℕ → Result Span Misread → Reply
between_answer a b (Ok s) = answering (between_text s)
between_answer a b (Err misread) = misread_reply a b misread

unfoldable pub between_reply : Table → List ℕ → List ℕ → Reply
between_reply t a b = between_answer a b (span_of t a b)

-- ---- a pass

-- a byte or more, no comma (44) and no double quote (34)
unfoldable pub real_name : List ℕ → Bool
real_name name = leb 1 (length name) && (without 44 name && without 34 name)

abbrev pub cell : List ℕ → List ℕ
cell given = quoted given ++ ascii ","

unfoldable pub sheet_row : List ℕ → List ℕ → List ℕ → Span → List ℕ
sheet_row name a b s =
    cell name ++ (cell a ++ (cell b ++ (seconds_text s.micros ++ (ascii "," ++ (steps_text s.steps ++ beyond_text s.beyond)))))

abbrev pub pass_answer : List ℕ → List ℕ → List ℕ → Result Span Misread → Reply
pass_answer name a b (Ok s) = answering (sheet_row name a b s)
pass_answer name a b (Err misread) = misread_reply a b misread

unfoldable pub pass_reply : Table → List ℕ → List ℕ → List ℕ → Reply
pass_reply t name a b = cond (real_name name) (pass_answer name a b (span_of t a b)) (refusing_as 8 no_name name)
