-- The scope's paragraph "Order": the tests of each call in one list, each with its refusal. `Orders` has the numbers of each list, to be held against the
-- paper. `GivenExactly` says that the number which a call answers is that of the first test of its list that fails, and 0 where none does.
-- Reading a block, a kernel or cards has no list: it answers the first fault from the left (`ReadsBlock` of `block`, `ReadsKernel` of `kernel`, `ReadsCards` of `cards`).
-- Nor has a move of a block: it reads, and then writes (`MovesBlock` of `block`).
-- Assumes nothing.
use Rattle.std.specs.Prelude.{◌≡◌, ◌↔◌, Bool, true, false, not, ◌&&◌, List, [], ◌∷◌, ◌++◌, map, ℕ, eqb, leb, ℤ, length}
use Rattle.std.specs.Int.Signed.{le_z}
use Rattle.answer.specs.declared.Refusal.{Refusal}
use Rattle.answer.specs.declared.Refusal.TheVariants.{Room as ROOM, Shape as SHAPE, Year as YEAR, Date as DATE, Clock as CLOCK, NoSecond as NOSECOND, Range as RANGE, Ask as ASK, Table as TABLE, Number as NUMBER}
use Rattle.answer.specs.Refusals.{number, refusing, all_pass}
use Rattle.answer.specs.Buffers.{written_results}
use Rattle.calendar.specs.Days.{year_length}
use Rattle.leap.specs.declared.Table.{Table}
use Rattle.leap.specs.Leap.{accepted, offset_at}
use Rattle.leap.specs.Entries.{entries}
use Rattle.labels.specs.declared.Label.{Label}
use Rattle.labels.specs.declared.Reading.{Reading}
use Rattle.labels.specs.Labels.{whole, real_year, real_month, real_day, real_clock, has_second}
use Rattle.labels.specs.Seconds.{first_reading, last_reading, last_day}
use Rattle.stamp.specs.declared.Scale.{Scale}
use Rattle.stamp.specs.Scales.{scale_of, known_scale, offsets_of, most_second, instant_for}
use Rattle.stamp.specs.Stamps.{instant_of, instant_results, stamp_of, stamp_results}
use Rattle.clock.specs.Clock.{start, tick, tick_results}
use Rattle.block.specs.declared.Form.{Form}
use Rattle.block.specs.Blocks.{block_in, write_in}
use Rattle.kernel.specs.Writing.{kernel_of, write_kernel}
use Rattle.cards.specs.Writing.{in_card_years, cards_of, write_cards}
use Rattle.pictures.specs.declared.Date.{Date}
use Rattle.pictures.specs.declared.Date.TheVariants.{Numbered, OfYear, Named}
use Rattle.pictures.specs.declared.Fields.{Fields}
use Rattle.pictures.specs.Pictures.{picture_text, WellFormed}
use Rattle.text.specs.Promise.{text_length}
use Rattle.text.specs.Text.{reading_of, read_text, text_results, write_text}
use Rattle.julian.specs.declared.JulianDate.{JulianDate}
use Rattle.fraction.specs.Fraction.{is_fraction, is_half}
use Rattle.julian.specs.Midnight.{midnight_in_years}
use Rattle.julian.specs.Dates.{write_julian, julian_results, day_read, read_julian}

-- the numbers of a list of tests
abbrev pub order : List (Bool × Refusal) → List ℕ
order tests = map (λ test. number test.1) tests

-- the number of the first test that fails, 0 where none does
abbrev pub verdict : List (Bool × Refusal) → ℕ
verdict tests = refusing number tests 0

-- what a verdict says
pub record Verdicts : Type 0 where
  pub success_when_none_fails : (tests : List (Bool × Refusal)) → verdict tests ≡ 0 ↔ all_pass tests ≡ true
  pub else_the_first_that_fails : (before after : List (Bool × Refusal)) (why : Refusal) → all_pass before ≡ true → verdict (before ++ (false, why) ∷ after) ≡ number why

-- ---- a stamp's fields, and a text's

-- the year has the month, and the month the day
abbrev pub real_month_day : Label → Bool
real_month_day l = real_month l && real_day l

-- `instant_of`: a reading on scale number k
abbrev pub instant_of_tests : Table → ℕ → Reading → List (Bool × Refusal)
instant_of_tests t k r =
    (known_scale k, ASK)
    ∷ (accepted t, TABLE)
    ∷ (real_year r.label, YEAR)
    ∷ (real_month_day r.label, DATE)
    ∷ (real_clock (most_second (scale_of k)) r, CLOCK)
    ∷ (has_second (offsets_of t (scale_of k)) r.label, NOSECOND)
    ∷ []

-- a date as a text has it: the year has the day of the year, or the month, and the month the day
abbrev pub real_as_shown : Date → Label → Bool
real_as_shown (Numbered m d) l = real_month_day l
real_as_shown (OfYear d) l = leb 1 d && leb d (year_length l.year)
real_as_shown (Named m d) l = real_month_day l

-- `read_text`: whether the text has a picture, and the fields that it shows
abbrev pub read_text_tests : Table → ℕ → Bool → Fields → List (Bool × Refusal)
read_text_tests t k pictured f =
    (known_scale k, ASK)
    ∷ (accepted t, TABLE)
    ∷ (pictured, SHAPE)
    ∷ (real_year (reading_of f).label, YEAR)
    ∷ (real_as_shown f.date (reading_of f).label, DATE)
    ∷ (real_clock (most_second (scale_of k)) (reading_of f), CLOCK)
    ∷ (has_second (offsets_of t (scale_of k)) (reading_of f).label, NOSECOND)
    ∷ []

-- ---- an instant

-- it is from the instant of the scale's first label, 1972-01-01 00:00:00, to that of its last, the last microsecond of 9999
abbrev pub within_labels : Table → Scale → ℤ → Bool
within_labels t s x = le_z (instant_for t s first_reading) x && le_z x (instant_for t s last_reading)

-- `stamp_of` and `write_julian`: the instant x on scale number k
abbrev pub instant_tests : Table → ℕ → ℤ → List (Bool × Refusal)
instant_tests t k x = (known_scale k, ASK) ∷ (accepted t, TABLE) ∷ (within_labels t (scale_of k) x, RANGE) ∷ []

-- `write_text`
abbrev pub write_text_tests : Table → ℤ → ℕ → ℕ → ℕ → List ℕ → List (Bool × Refusal)
write_text_tests t x p k digits buffer =
    (leb p 2 && (leb digits 6 && known_scale k), ASK)
    ∷ (accepted t, TABLE)
    ∷ (within_labels t (scale_of k) x, RANGE)
    ∷ (leb (text_length p digits) (length buffer), ROOM)
    ∷ []

-- ---- a Julian date

-- `read_julian`: the pair, then the day that it is read as after rounding, which may be the one after 31 December 9999
abbrev pub read_julian_tests : Table → ℕ → JulianDate → List (Bool × Refusal)
read_julian_tests t k p =
    (known_scale k, ASK)
    ∷ (accepted t, TABLE)
    ∷ (is_half p.midnight && is_fraction p.fraction, NUMBER)
    ∷ (midnight_in_years p.midnight, RANGE)
    ∷ (leb (day_read (offsets_of t (scale_of k)) p) last_day, RANGE)
    ∷ []

-- ---- a table alone, and the clock

-- `write_block` and `write_new_block`
abbrev pub write_block_tests : Form → Table → List ℕ → List (Bool × Refusal)
write_block_tests form t buffer = (accepted t, TABLE) ∷ (leb (length (block_in form t)) (length buffer), ROOM) ∷ []

-- `write_kernel`
abbrev pub write_kernel_tests : Table → List ℕ → List (Bool × Refusal)
write_kernel_tests t buffer = (accepted t, TABLE) ∷ (leb (length (kernel_of t)) (length buffer), ROOM) ∷ []

-- `write_cards`
abbrev pub write_cards_tests : Table → List ℕ → List (Bool × Refusal)
write_cards_tests t buffer =
    (accepted t, TABLE) ∷ (in_card_years (entries t), RANGE) ∷ (leb (length (cards_of t)) (length buffer), ROOM) ∷ []

-- `start`
abbrev pub start_tests : Table → List (Bool × Refusal)
start_tests t = (accepted t, TABLE) ∷ []

-- the label is 9999-12-31 23:59:59
abbrev pub is_last : Label → Bool
is_last l =
    eqb l.year 9999 && (eqb l.month 12 && (eqb l.day 31 && (eqb l.hour 23 && (eqb l.minute 59 && eqb l.second 59))))

-- `tick`
abbrev pub tick_tests : Table → Label → List (Bool × Refusal)
tick_tests t l =
    (accepted t, TABLE)
    ∷ (real_year l, YEAR)
    ∷ (real_month_day l, DATE)
    ∷ (real_clock 60 (whole l), CLOCK)
    ∷ (has_second (offset_at t) l, NOSECOND)
    ∷ (not (is_last l), RANGE)
    ∷ []

-- ---- the paragraph, call by call

pub record Orders : Type 0 where
  pub read_text_lem : (t : Table) (k : ℕ) (pictured : Bool) (f : Fields) → order (read_text_tests t k pictured f) ≡ 8 ∷ 11 ∷ 2 ∷ 3 ∷ 4 ∷ 5 ∷ 6 ∷ []
  pub write_text_lem : (t : Table) (x : ℤ) (p k digits : ℕ) (buffer : List ℕ) → order (write_text_tests t x p k digits buffer) ≡ 8 ∷ 11 ∷ 7 ∷ 1 ∷ []
  -- a stamp's fields to an instant: as reading text, without 2
  pub instant_of_lem : (t : Table) (k : ℕ) (r : Reading) → order (instant_of_tests t k r) ≡ 8 ∷ 11 ∷ 3 ∷ 4 ∷ 5 ∷ 6 ∷ []
  pub stamp_of_lem : (t : Table) (k : ℕ) (x : ℤ) → order (instant_tests t k x) ≡ 8 ∷ 11 ∷ 7 ∷ []
  pub write_julian_lem : (t : Table) (k : ℕ) (x : ℤ) → order (instant_tests t k x) ≡ 8 ∷ 11 ∷ 7 ∷ []
  -- 13, 7, then rounding, 7 again
  pub read_julian_lem : (t : Table) (k : ℕ) (p : JulianDate) → order (read_julian_tests t k p) ≡ 8 ∷ 11 ∷ 13 ∷ 7 ∷ 7 ∷ []
  pub write_block_lem : (form : Form) (t : Table) (buffer : List ℕ) → order (write_block_tests form t buffer) ≡ 11 ∷ 1 ∷ []
  pub write_kernel_lem : (t : Table) (buffer : List ℕ) → order (write_kernel_tests t buffer) ≡ 11 ∷ 1 ∷ []
  pub write_cards_lem : (t : Table) (buffer : List ℕ) → order (write_cards_tests t buffer) ≡ 11 ∷ 7 ∷ 1 ∷ []
  pub start_the_clock : (t : Table) → order (start_tests t) ≡ 11 ∷ []
  pub tick_the_clock : (t : Table) (l : Label) → order (tick_tests t l) ≡ 11 ∷ 3 ∷ 4 ∷ 5 ∷ 6 ∷ 7 ∷ []

-- each refusal is given exactly when its test is the first that fails, and success, 0, exactly when none does
pub record GivenExactly (t : Table) : Type 0 where
  -- a text that is the picture of fields, and one that is the picture of none, whatever the fields after SHAPE are
  pub read_text_lem : (k : ℕ) (text : List ℕ) (f : Fields) → WellFormed f → text ≡ picture_text f → (text_results (read_text t k text)).0 ≡ verdict (read_text_tests t k true f)
  pub read_no_picture : (k : ℕ) (text : List ℕ) → ((f : Fields) → WellFormed f → text ≡ picture_text f → ⊥) → (f : Fields) → (text_results (read_text t k text)).0 ≡ verdict (read_text_tests t k false f)
  pub write_text_lem : (x : ℤ) (p k digits : ℕ) (buffer : List ℕ) → (written_results (write_text t x p k digits buffer)).0 ≡ verdict (write_text_tests t x p k digits buffer)
  pub instant_of_lem : (k : ℕ) (r : Reading) → (instant_results (instant_of t k r)).0 ≡ verdict (instant_of_tests t k r)
  pub stamp_of_lem : (k : ℕ) (x : ℤ) → (stamp_results (stamp_of t x k)).0 ≡ verdict (instant_tests t k x)
  pub write_julian_lem : (k : ℕ) (x : ℤ) → (julian_results (write_julian t x k)).0 ≡ verdict (instant_tests t k x)
  pub read_julian_lem : (k : ℕ) (p : JulianDate) → (instant_results (read_julian t k p)).0 ≡ verdict (read_julian_tests t k p)
  pub write_block_lem : (form : Form) (buffer : List ℕ) → (written_results (write_in form t buffer)).0 ≡ verdict (write_block_tests form t buffer)
  pub write_kernel_lem : (buffer : List ℕ) → (written_results (write_kernel t buffer)).0 ≡ verdict (write_kernel_tests t buffer)
  pub write_cards_lem : (buffer : List ℕ) → (written_results (write_cards t buffer)).0 ≡ verdict (write_cards_tests t buffer)
  pub start_the_clock : (tick_results (start t)).0 ≡ verdict (start_tests t)
  pub tick_the_clock : (l : Label) → (tick_results (tick t l)).0 ≡ verdict (tick_tests t l)

abbrev pub EveryCall : Type 0
EveryCall = (t : Table) → GivenExactly t
