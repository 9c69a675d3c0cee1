-- Labels: which exist, and their order.
-- Assumes nothing.
use Rattle.labels.specs.declared.Month.{Month}
use Rattle.std.specs.Prelude.{Bool, cond, ◌&&◌, List, [], ◌∷◌, ◌++◌, ℕ, ◌+◌, ◌*◌, ◌-◌, eqb, leb, ltb, ℤ, pos, Result, Ok, Err}
use Rattle.std.specs.Int.Signed.{lt_z}
use Rattle.laws.specs.Order.{Less}
use Rattle.answer.specs.declared.Refusal.{Refusal}
use Rattle.answer.specs.declared.Refusal.TheVariants.{Year as YEAR, Date as DATE, Clock as CLOCK, NoSecond as NOSECOND}
use Rattle.answer.specs.Refusals.{all_pass, refusing}
use Rattle.months.specs.Months.{month_length}
use Rattle.labels.specs.declared.Label.{Label}
use Rattle.labels.specs.declared.Reading.{Reading}

abbrev pub label : ℕ → ℕ → ℕ → ℕ → ℕ → ℕ → Label
label y mo d h mi s = record { year = y; month = mo; day = d; hour = h; minute = mi; second = s }

-- a label with its microsecond
abbrev pub at : ℕ → ℕ → ℕ → ℕ → ℕ → ℕ → ℕ → Reading
at y mo d h mi s u = record { label = label y mo d h mi s; micro = u }

-- the reading of a label's whole second
abbrev pub whole : Label → Reading
whole l = record { label = l; micro = 0 }

-- what stands for a label where there is none
abbrev pub no_label : Label
no_label = label 0 0 0 0 0 0

-- TAI less the scale in each month, in seconds: TAI-UTC for UTC, 0 for a uniform scale.
abbrev pub Offsets : Type 0
Offsets = ℕ → ℤ

abbrev pub uniform : Offsets
uniform m = pos 0

-- ---- which labels exist

-- the label's month, counted from January of year 0
abbrev pub month_of : Label → ℕ
month_of l = 12 * l.year + (l.month - 1)

unfoldable pub real_year : Label → Bool
real_year l = leb 1972 l.year && leb l.year 9999

unfoldable pub real_month : Label → Bool
real_month l = leb 1 l.month && leb l.month 12

-- a month of so many days has the label's day
abbrev pub day_in : ℕ → Label → Bool
day_in days l = leb 1 l.day && leb l.day days

unfoldable pub real_day : Label → Bool
real_day l = day_in (month_length (month_of l)) l

-- `most` is the highest second that the scale may have
unfoldable pub real_clock : ℕ → Reading → Bool
real_clock most r = leb r.label.hour 23 && (leb r.label.minute 59 && (leb r.label.second most && leb r.micro 999999))

-- what is asked of a reading before its scale's seconds, in this order
abbrev pub field_tests : ℕ → Reading → List (Bool × Refusal)
field_tests most r =
    (real_year r.label, YEAR) ∷ (real_month r.label, DATE) ∷ (real_day r.label, DATE) ∷ (real_clock most r, CLOCK) ∷ []

-- `judge`
unfoldable pub judged : ℕ → Reading → Result Month Refusal
judged most r =
    refusing Err (field_tests most r) (Ok (record { number = month_of r.label; days = month_length (month_of r.label) }))

-- the seconds of the last minute of a month: one more where the next month's offset is higher, one less where it is lower
unfoldable pub last_minute : ℤ → ℤ → ℕ
last_minute here next = cond (lt_z here next) 61 (cond (lt_z next here) 59 60)

-- the label stands in the last minute of its month, which has so many days
abbrev pub in_last_minute : ℕ → Label → Bool
in_last_minute days l = eqb l.day days && (eqb l.hour 23 && eqb l.minute 59)

-- the seconds of the label's minute
unfoldable pub minute_in : ℕ → ℤ → ℤ → Label → ℕ
minute_in days here next l = cond (in_last_minute days l) (last_minute here next) 60

abbrev pub minute_length : Offsets → Label → ℕ
minute_length o l = minute_in (month_length (month_of l)) (o (month_of l)) (o (month_of l + 1)) l

-- the scale has the label's second
unfoldable pub has_second : Offsets → Label → Bool
has_second o l = ltb l.second (minute_length o l)

-- all that is asked of a reading, in this order
abbrev pub label_tests : Offsets → ℕ → Reading → List (Bool × Refusal)
label_tests o most r = field_tests most r ++ (has_second o r.label, NOSECOND) ∷ []

-- the reading exists
abbrev pub admitted : Offsets → ℕ → Reading → Bool
admitted o most r = all_pass (label_tests o most r)

-- ---- their order

abbrev pub fields : Label → List ℕ
fields l = l.year ∷ l.month ∷ l.day ∷ l.hour ∷ l.minute ∷ l.second ∷ []

-- that of the calendar: the first number that differs decides
abbrev pub Before : Label → Label → Type 0
Before l l' = Less (fields l) (fields l')
