-- Readings by their day: the microsecond of it is one of the day's own, and every one of them has a reading.
-- Assumes nothing.
use mathlib.Core.Path.{◌≡◌, refl, ap, ◌∙◌}
use mathlib.Core.Bool.{true}
use Prim.Native.Nat.{ℕ, ◌+◌, ◌-◌, ◌*◌, ◌/◌, ◌%◌, ◌≤◌, ◌<◌}
use native.Mathlib.Omega.{arith}
use Rattle.laws.proofs.Cases.{and_l, and_r, join, by_order}
use Rattle.months.specs.Months.{days_before}
use Rattle.months.proofs.Laws.{days_1972, days_next, days_mono}
use Rattle.calendar.specs.Days.{month_of_day}
use Rattle.calendar.proofs.Days.{in_month}
use Rattle.labels.specs.declared.Label.{Label}
use Rattle.labels.specs.declared.Reading.{Reading}
use Rattle.labels.specs.Labels.{Offsets, label, whole, month_of, real_year, real_month, real_day}
use Rattle.labels.specs.Seconds.{day_count, micro_of_day, first_month, last_month, end_month, first_day, last_day}
use Rattle.labels.specs.Lengths.{day_seconds, day_micros}
use Rattle.labels.specs.Promise.{has_label, real_date}
use Rattle.labels.proofs.Admitted.{Admitted, admitted_to, admitted_from, admitted_again}
use Rattle.labels.proofs.Years.{days_end}
use Rattle.labels.proofs.Promise.{month_of_lem, is_real, own_length}

module _ (o : Offsets) (most : ℕ) (few : most ≤ 60) (r : Reading) (a : Admitted o most r) where
  abbrev l : Label
  l = r.label

  -- its whole second is a label of the scale
  has : has_label o l ≡ true
  has =
      admitted_from o 60 (whole l) (admitted_again o most r a 60 0 (omega (arith, a.on_clock.second_most)) (omega arith))

  real : real_date l ≡ true
  real =
      let h = has in
      let y : real_year l ≡ true = search (and_l) in
      let m : real_month l ≡ true = search (and_l, and_r) in
      let d : real_day l ≡ true = search (and_l, and_r) in
      join y (join m d)

  pub micro_less : micro_of_day r < day_micros o (day_count r.label)
  micro_less = omega (arith, (own_length o l real).none_past l refl has, a.on_clock.micro_high)

  pub day_between : (first_day ≤ day_count r.label) × (day_count r.label ≤ last_day)
  day_between =
      let m = month_of l in
      let e = a.exists in
      omega (arith, a.since_1972, a.until_9999, e.month_low, e.month_high, e.day_low, e.day_high, days_1972, days_mono first_month m (omega (arith, a.since_1972)), days_next m, days_mono (m + 1) end_month (omega (arith, a.until_9999, e.month_high)), days_end)

-- ---- a microsecond of a day from 1972 to 9999

module _ (o : Offsets) (d u : ℕ) (low : first_day ≤ d) (high : d ≤ last_day) (h : u < day_micros o d) where
  abbrev m : ℕ
  m = month_of_day d

  -- the label of its midnight
  begin : Label
  begin = label (m / 12) (m % 12 + 1) (d - days_before m + 1) 0 0 0

  begin_day : day_count begin ≡ d
  unfolding begin
  begin_day = omega (arith, in_month d, ap days_before (month_of_lem m (d - days_before m + 1) 0 0 0))

  month_range : (first_month ≤ m) × (m ≤ last_month)
  month_range = (
    by_order m first_month (λ q. absurd (omega (arith, in_month d, days_mono (m + 1) first_month (omega arith), days_1972))) (λ q. q),
    by_order last_month m (λ q. absurd (omega (arith, in_month d, days_mono end_month m (omega arith), days_end))) (λ q. q),
  )

  begin_real : real_date begin ≡ true
  unfolding begin
  begin_real = is_real m (d - days_before m + 1) 0 0 0 month_range.0 month_range.1 (omega arith) (omega (arith, in_month d, days_next m))

  -- has a reading
  pub reading_on : (r : Reading) × Admitted o 60 r × (day_count r.label ≡ d) × (micro_of_day r ≡ u)
  reading_on =
      let q = (own_length o begin begin_real).every_one (u / 1000000) (omega (arith, h, ap (day_seconds o) begin_day)) in
      let l = q.0 in
      let a = admitted_to o 60 (whole l) q.1.1.0 in
      let same : day_count l ≡ d = ap (λ x. days_before (12 * x.0 + (x.1.0 - 1)) + (x.1.1 - 1)) q.1.0 ∙ begin_day in (
        record { label = l; micro = u % 1000000 },
        admitted_again o 60 (whole l) a 60 (u % 1000000) a.on_clock.second_most (omega arith),
        same,
        omega (arith, q.1.1.1),
      )
