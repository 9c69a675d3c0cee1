-- Days and their lengths: 86,399 to 86,401 seconds, on a uniform scale 86,400; the month of a label's day, the day of a place, and what lies between two midnights.
-- Assumes nothing.
use mathlib.Core.Path.{◌≡◌, refl, ap, subst}
use mathlib.Core.Bool.{Bool}
use Prim.Native.Nat.{ℕ, ◌+◌, ◌-◌, ◌*◌, ◌≤◌}
use native.Mathlib.Omega.{arith}
use borrow.Author.Tests.{eqb-true, eqb-false, eq-eqb, leb-true, le-leb}
use lib.Dec.{eqb, leb}
use lib.IntN.{ℤ}
use Rattle.laws.proofs.Cases.{pick, by_truth}
use Rattle.laws.proofs.Difference.{up, down}
use Rattle.laws.proofs.Offsets.{Steps}
use Rattle.months.specs.Months.{days_before, month_length}
use Rattle.months.proofs.Laws.{days_next, length_least}
use Rattle.calendar.specs.Days.{month_of_day}
use Rattle.calendar.proofs.Days.{month_is_lem, month_turns, month_stays}
use Rattle.labels.specs.declared.Label.{Label}
use Rattle.labels.specs.declared.Place.{Place}
use Rattle.labels.specs.Labels.{Offsets, uniform, last_minute, month_of}
use Rattle.labels.specs.Seconds.{day_count, time_of_day}
use Rattle.labels.specs.Lengths.{seconds_in, day_seconds}
use Rattle.labels.specs.Back.{day_of, in_day, since, place_in, label_of}
use Rattle.labels.proofs.Facts.{place_month}
use Rattle.labels.proofs.Turn.{turn, last_range}

seconds_range : (b : Bool) (x z : ℤ) → (86399 ≤ seconds_in b x z) × (seconds_in b x z ≤ 86401)
unfolding seconds_in
seconds_range b x z = pick (λ (n : ℕ). (86399 ≤ n) × (n ≤ 86401)) b (λ e. omega (arith, last_range x z)) (λ e. omega arith)

pub day_range : (o : Offsets) (d : ℕ) → (86399 ≤ day_seconds o d) × (day_seconds o d ≤ 86401)
day_range o d = seconds_range (eqb (d + 1) (days_before (month_of_day d + 1))) (o (month_of_day d)) (o (month_of_day d + 1))

pub uniform_day : (d : ℕ) → day_seconds uniform d ≡ 86400
unfolding seconds_in last_minute
uniform_day d = pick (λ (n : ℕ). n ≡ 86400) (eqb (d + 1) (days_before (month_of_day d + 1))) (λ e. refl) (λ e. refl)

-- a label's day falls in the label's month
pub label_falls : (l : Label) → 1 ≤ l.day → l.day ≤ month_length (month_of l) → month_of l ≡ month_of_day (day_count l)
label_falls l low high = let m = month_of l in month_is_lem (day_count l) m (omega arith, omega (arith, days_next m))

-- ---- a second of a month

-- the day that its label is on, and the second of that
pub place_day : (p : Place) → p.start ≡ days_before p.month → (day_count (label_of p) ≡ p.start + day_of p.days p.second) × (time_of_day (label_of p) ≡ p.second - 86400 * day_of p.days p.second)
unfolding label_of in_day
place_day p e = (omega (arith, ap days_before (place_month p)), omega arith)

module _ (o : Offsets) (s m : ℕ) where
  abbrev p : Place
  p = place_in o s m

  place_falls : m ≡ month_of_day (day_count (label_of (place_in o s m)))
  place_falls = month_is_lem (day_count (label_of p)) m (omega (arith, place_day p refl), omega (arith, place_day p refl, days_next m, length_least m))

  -- the seconds of that day: it is the last of its month where only what this leaves is left
  pub place_seconds : seconds_in (leb (86400 * (month_length m - 1)) (since (days_before m) (o m) s)) (o m) (o (m + 1)) ≡ day_seconds o (day_count (label_of (place_in o s m)))
  place_seconds =
      let r = since (days_before m) (o m) s in
      let d = day_count (label_of p) in
      let day = (place_day p refl).0 in
      let last : leb (86400 * (month_length m - 1)) r ≡ eqb (d + 1) (days_before (m + 1)) =
      by_truth (leb (86400 * (month_length m - 1)) r) (eqb (d + 1) (days_before (m + 1)))
      (λ e. eq-eqb (d + 1) (days_before (m + 1)) (omega (arith, leb-true (86400 * (month_length m - 1)) r e, days_next m, length_least m)))
      (λ e. le-leb (86400 * (month_length m - 1)) r (omega (arith, eqb-true (d + 1) (days_before (m + 1)) e, days_next m, length_least m))) in
      subst (λ (k : ℕ). seconds_in (leb (86400 * (month_length m - 1)) r) (o m) (o (m + 1)) ≡ seconds_in (eqb (d + 1) (days_before (k + 1))) (o k) (o (k + 1))) place_falls
      (ap (λ (b : Bool). seconds_in b (o m) (o (m + 1))) last)

-- ---- from a midnight to the next

-- on the axis the day's own seconds lie between them
pub next_midnight : (d : ℕ) (o : Offsets) → Steps o → 86400 * (d + 1) + (up (o (month_of_day (d + 1))) + down (o (month_of_day d))) ≡ 86400 * d + (day_seconds o d + (up (o (month_of_day d)) + down (o (month_of_day (d + 1)))))
unfolding seconds_in
next_midnight d o st =
    let n = month_of_day d in
    pick (λ (s : ℕ). 86400 * (d + 1) + (up (o (month_of_day (d + 1))) + down (o n)) ≡ 86400 * d + (s + (up (o n) + down (o (month_of_day (d + 1)))))) (eqb (d + 1) (days_before (n + 1)))
    (λ b.
    let e = month_turns d (eqb-true (d + 1) (days_before (n + 1)) b) in
    omega (arith, turn (o n) (o (n + 1)) (st.by_one n), ap (λ (k : ℕ). up (o k)) e, ap (λ (k : ℕ). down (o k)) e))
    (λ b.
    let e = month_stays d (eqb-false (d + 1) (days_before (n + 1)) b) in
    omega (arith, ap (λ (k : ℕ). up (o k)) e, ap (λ (k : ℕ). down (o k)) e))
