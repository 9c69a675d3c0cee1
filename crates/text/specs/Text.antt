-- The calls: what a text is read as, and what is written for an instant. Exactly what they give is `ReadExactly` and `WrittenExactly` of Promise, by `reading_of`,
-- `read_answer` and `text_of` alone: `fields_read`, which has the reader's steps, and `text_at`, which has the way back to a stamp, need not be believed.
-- Assumes nothing.
use Rattle.std.specs.Prelude.{Bool, cond, ◌&&◌, List, [], ◌∷◌, ℕ, eqb, leb, ℤ, pos, Option, Some, None, Result, Ok, Err}
use Rattle.answer.specs.declared.Refusal.{Refusal}
use Rattle.answer.specs.declared.Refusal.TheVariants.{Shape as SHAPE, Range as RANGE, Ask as ASK, Table as TABLE}
use Rattle.answer.specs.Refusals.{number, refusing}
use Rattle.answer.specs.Buffers.{written, buffer_after}
use Rattle.calendar.specs.declared.MonthDay.{MonthDay}
use Rattle.calendar.specs.Days.{day_of_year}
use Rattle.calendar.specs.Dates.{date_in_year}
use Rattle.leap.specs.declared.Table.{Table}
use Rattle.leap.specs.Leap.{accepted}
use Rattle.pictures.specs.declared.Date.{Date}
use Rattle.pictures.specs.declared.Date.TheVariants.{Numbered, OfYear, Named}
use Rattle.pictures.specs.declared.Fields.{Fields}
use Rattle.pictures.specs.Pictures.{picture_text}
use Rattle.pictures.specs.Reading.{read_fields}
use Rattle.stamp.specs.declared.Scale.{Scale}
use Rattle.labels.specs.declared.Label.{Label}
use Rattle.labels.specs.declared.Reading.{Reading}
use Rattle.stamp.specs.declared.Stamp.{Stamp}
use Rattle.labels.specs.Labels.{label, month_of, label_tests}
use Rattle.stamp.specs.Scales.{scale_of, known_scale, scale_tests, offsets_of, most_second, instant_for}
use Rattle.stamp.specs.Stamps.{no_stamp}
use Rattle.stamp.specs.Back.{in_range, stamp_at}
use Rattle.stamp.specs.Promise.{stamp}

-- ---- reading

abbrev pub on : ℕ → ℕ → MonthDay
on m d = record { month = m; day = d }

-- a date that there is; month 0, which is none, where there is not
abbrev pub date_or : Option MonthDay → MonthDay
date_or (Some r) = r
date_or None = on 0 0

-- the month and the day of a date in year y
abbrev pub month_day_of : ℕ → Date → MonthDay
month_day_of y (Numbered m d) = on m d
month_day_of y (OfYear d) = date_or (date_in_year y d)
month_day_of y (Named m d) = on m d

abbrev pub reading_of : Fields → Reading
reading_of f =
    record {
      label = label f.year (month_day_of f.year f.date).month (month_day_of f.year f.date).day f.hour f.minute f.second;
      micro = f.micro;
    }

-- a reading is judged as a stamp's fields are
abbrev pub read_answer : Table → Scale → Reading → Result (ℤ × Stamp) Refusal
read_answer t s r = refusing Err (label_tests (offsets_of t s) (most_second s) r) (Ok (instant_for t s r, stamp s r))

-- the fields of a text are judged; a text that has no picture is SHAPE
abbrev pub fields_read : Table → Scale → Option Fields → Result (ℤ × Stamp) Refusal
fields_read t s (Some f) = read_answer t s (reading_of f)
fields_read t s None = Err SHAPE

-- `read_text`, without its mark: what every call asks first, and then the text
unfoldable pub read_text : Table → ℕ → List ℕ → Result (ℤ × Stamp) Refusal
read_text t k text = refusing Err (scale_tests t k) (fields_read t (scale_of k) (read_fields text))

-- an answer in the scope's numbers: that of the refusal, 0 on success, the instant and the stamp, all zero on a refusal
abbrev pub text_results : Result (ℤ × Stamp) Refusal → ℕ × ℤ × Stamp
text_results (Ok (x, z)) = (0, x, z)
text_results (Err why) = (number why, pos 0, no_stamp)

-- ---- writing

-- the date of a label in picture p
abbrev pub date_as : ℕ → Label → Date
date_as p l =
    cond (eqb p 0) (Numbered l.month l.day)
    (cond (eqb p 1) (OfYear (day_of_year (month_of l) l.day)) (Named l.month l.day))

abbrev pub fields_of : ℕ → ℕ → Reading → Fields
fields_of p digits r =
    record { year = r.label.year; date = date_as p r.label; hour = r.label.hour; minute = r.label.minute; second = r.label.second; digits = digits; micro = r.micro }

-- the text of a reading in picture p with this number of digits after the point
abbrev pub text_of : ℕ → ℕ → Reading → List ℕ
text_of p digits r = picture_text (fields_of p digits r)

-- `write_text`, without its mark: what is asked, in this order, and the text
abbrev pub write_tests : Table → ℤ → ℕ → ℕ → ℕ → List (Bool × Refusal)
write_tests t x p k digits = (leb p 2 && (leb digits 6 && known_scale k), ASK) ∷ (accepted t, TABLE) ∷ (in_range t (scale_of k) x, RANGE) ∷ []

abbrev pub text_at : Table → ℤ → ℕ → ℕ → ℕ → List ℕ
text_at t x p k digits = text_of p digits (stamp_at t (scale_of k) x).reading

-- its answer, and the lent buffer afterwards
abbrev pub write_text : Table → ℤ → ℕ → ℕ → ℕ → List ℕ → Result ℕ Refusal
write_text t x p k digits buffer = written (write_tests t x p k digits) (text_at t x p k digits) buffer

abbrev pub write_text_after : Table → ℤ → ℕ → ℕ → ℕ → List ℕ → List ℕ
write_text_after t x p k digits buffer = buffer_after (write_tests t x p k digits) (text_at t x p k digits) buffer
