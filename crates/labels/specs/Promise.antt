-- What is promised of a scale's days, by the offsets of its months alone: where a second is added, where one is taken out, and how many seconds each day has.
-- Assumes nothing.
use Rattle.std.specs.Prelude.{◌≡◌, ◌↔◌, Bool, true, false, ◌&&◌, ℕ, ◌+◌, ◌/◌, ◌%◌, ◌≤◌, ◌<◌, ◌<ℤ◌}
use Rattle.months.specs.Months.{month_length}
use Rattle.labels.specs.declared.Label.{Label}
use Rattle.labels.specs.Labels.{Offsets, label, whole, month_of, real_year, real_month, real_day, admitted}
use Rattle.labels.specs.Seconds.{time_of_day, day_count, first_month, last_month}
use Rattle.labels.specs.Lengths.{day_seconds}

-- the scale has the label, from 1972-01-01 00:00:00 to the end of 9999
abbrev pub has_label : Offsets → Label → Bool
has_label o l = admitted o 60 (whole l)

-- year, month and day
abbrev pub Day : Type 0
Day = ℕ × (ℕ × ℕ)

abbrev pub date : Label → Day
date l = (l.year, (l.month, l.day))

-- the label's date is one of 1972 to 9999
abbrev pub real_date : Label → Bool
real_date l = real_year l && (real_month l && real_day l)

-- its day is the last of its month
abbrev pub LastDay : Label → Type 0
LastDay l = l.day ≡ month_length (month_of l)

-- 23:59 and s seconds on the last day of the calendar's month m
abbrev pub at_end : ℕ → ℕ → Label
at_end m s = label (m / 12) (m % 12 + 1) (month_length m) 23 59 s

-- a day of n seconds: its labels, counted by hours, minutes and seconds, are the numbers below n, each once
pub record HasSeconds (o : Offsets) (day : Day) (n : ℕ) : Type 0 where
  pub none_past : (l : Label) → date l ≡ day → has_label o l ≡ true → time_of_day l < n
  pub every_one : (s : ℕ) → s < n → (l : Label) × ((date l ≡ day) × ((has_label o l ≡ true) × (time_of_day l ≡ s)))
  pub once : (k l : Label) → date k ≡ day → date l ≡ day → has_label o k ≡ true → has_label o l ≡ true → time_of_day k ≡ time_of_day l → k ≡ l

-- the days of a scale, by the months that end with an added second, and those that end with one taken out
pub record Days (o : Offsets) (Adds Takes : ℕ → Type 0) : Type 0 where
  -- 23:59:60 is there at the end of exactly these months, and no other second 60 is
  pub second_60_added : (m : ℕ) → (has_label o (at_end m 60) ≡ true) ↔ Adds m
  pub no_other_60 : (l : Label) → has_label o l ≡ true → l.second ≡ 60 → l ≡ at_end (month_of l) 60
  -- 23:59:59 is missing at the end of exactly these, and no other second up to 59 is
  pub second_59_taken : (m : ℕ) → ((real_date (at_end m 59) ≡ true) × (has_label o (at_end m 59) ≡ false)) ↔ Takes m
  pub no_other_missing : (l : Label) → real_date l ≡ true → l.hour ≤ 23 → l.minute ≤ 59 → l.second ≤ 59 → (l ≡ at_end (month_of l) 59 → ⊥) → has_label o l ≡ true
  -- so their last days have a second more or less, and all others have 86,400
  pub one_more : (l : Label) → real_date l ≡ true → LastDay l → Adds (month_of l) → HasSeconds o (date l) 86401
  pub one_less : (l : Label) → real_date l ≡ true → LastDay l → Takes (month_of l) → HasSeconds o (date l) 86399
  pub all_others : (l : Label) → real_date l ≡ true → (LastDay l → Adds (month_of l) → ⊥) → (LastDay l → Takes (month_of l) → ⊥) → HasSeconds o (date l) 86400
  -- as the definition that Julian dates count by says of each
  pub its_own_length : (l : Label) → real_date l ≡ true → HasSeconds o (date l) (day_seconds o (day_count l))

-- a month of 1972 to 9999 whose next month's offset is higher, or lower
abbrev pub Higher : Offsets → ℕ → Type 0
Higher o m = (first_month ≤ m) × ((m ≤ last_month) × (o m <ℤ o (m + 1)))

abbrev pub Lower : Offsets → ℕ → Type 0
Lower o m = (first_month ≤ m) × ((m ≤ last_month) × (o (m + 1) <ℤ o m))

abbrev pub DaysByOffsets : Type 0
DaysByOffsets = (o : Offsets) → Days o (Higher o) (Lower o)
