-- What the tests of a reading say, as facts about numbers; and the month of a place's label.
-- Assumes nothing.
use mathlib.Core.Path.{◌≡◌}
use mathlib.Core.Bool.{true, false}
use Prim.Native.Nat.{ℕ, ◌≤◌, ◌<◌}
use native.Mathlib.Omega.{arith}
use borrow.Author.Tests.{leb-true, ltb-true, lt-ltb, le-ltb}
use Rattle.months.specs.Months.{month_length}
use Rattle.laws.proofs.Cases.{and_l, and_r}
use Rattle.labels.specs.declared.Label.{Label}
use Rattle.labels.specs.declared.Reading.{Reading}
use Rattle.labels.specs.declared.Place.{Place}
use Rattle.labels.specs.Back.{in_day, label_of}
use Rattle.labels.specs.Labels.{Offsets, month_of, minute_length, real_year, real_month, real_day, real_clock, has_second}

pub year_to : (l : Label) → real_year l ≡ true → (1972 ≤ l.year) × (l.year ≤ 9999)
unfolding real_year
year_to l e = search (and_l, and_r, leb-true)

pub month_to : (l : Label) → real_month l ≡ true → (1 ≤ l.month) × (l.month ≤ 12)
unfolding real_month
month_to l e = search (and_l, and_r, leb-true)

pub day_to : (l : Label) → real_day l ≡ true → (1 ≤ l.day) × (l.day ≤ month_length (month_of l))
unfolding real_day
day_to l e = search (and_l, and_r, leb-true)

pub record OnClock (most : ℕ) (r : Reading) : Type 0 where
  pub hour_high : r.label.hour ≤ 23
  pub minute_high : r.label.minute ≤ 59
  pub second_most : r.label.second ≤ most
  pub micro_high : r.micro ≤ 999999

pub clock_to : (most : ℕ) (r : Reading) → real_clock most r ≡ true → OnClock most r
unfolding real_clock
clock_to most r e = search (and_l, and_r, leb-true)

pub second_to : (o : Offsets) (l : Label) → has_second o l ≡ true → l.second < minute_length o l
unfolding has_second
second_to o l e = ltb-true _ _ e

-- the code's test, `n` being the minute's length
pub second_no : (o : Offsets) (l : Label) {n : ℕ} → n ≡ minute_length o l → n ≤ l.second → has_second o l ≡ false
unfolding has_second
second_no o l e h = le-ltb l.second (minute_length o l) (omega arith)

pub second_yes : (o : Offsets) (l : Label) {n : ℕ} → n ≡ minute_length o l → l.second < n → has_second o l ≡ true
unfolding has_second
second_yes o l e h = lt-ltb l.second (minute_length o l) (omega arith)

-- the label of a second of a month has that month
pub place_month : (p : Place) → month_of (label_of p) ≡ p.month
unfolding label_of in_day
place_month p = omega arith
