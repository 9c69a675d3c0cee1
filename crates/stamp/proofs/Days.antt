-- The instants of a day: of a reading by its day, after a midnight, and at the next one.
-- Assumes nothing.
use mathlib.Core.Path.{◌≡◌, sym, ap, ap₂, ◌∙◌}
use mathlib.Core.Bool.{true}
use mathlib.Core.List.{[], ◌∷◌}
use Prim.Native.Nat.{ℕ, ◌+◌, ◌*◌, ◌≤◌}
use native.Mathlib.Omega.{arith}
use lib.IntN.{ℤ, pos, ◌+ℤ◌}
use borrow.Author.Tests.{eqb-true, eqb-false, le-leb}
use lib.Dec.{eqb, leb}
use Rattle.std.specs.Prelude.{Ok, Err}
use Rattle.laws.proofs.Cases.{by_test}
use Rattle.laws.proofs.Difference.{up, down, sum_is, eq_from}
use Rattle.answer.specs.declared.Refusal.TheVariants.{Range as RANGE}
use Rattle.answer.specs.Refusals.{refusing}
use Rattle.months.specs.Months.{days_before, month_length}
use Rattle.months.proofs.Laws.{days_next, length_least}
use Rattle.calendar.specs.Days.{month_of_day}
use Rattle.calendar.proofs.Days.{month_is_lem, month_turns, month_stays}
use Rattle.leap.specs.declared.Table.{Table}
use Rattle.leap.proofs.Facts.{Accepted}
use Rattle.labels.specs.declared.Reading.{Reading}
use Rattle.labels.specs.Labels.{Offsets, month_of}
use Rattle.labels.specs.Seconds.{day_count, second_of, micro_of_day, micro_of, axis_at, last_month, end_month, first_day, last_day}
use Rattle.labels.specs.Lengths.{day_seconds}
use Rattle.labels.proofs.Lengths.{label_falls, next_midnight}
use Rattle.labels.proofs.Years.{days_end, years_to}
use Rattle.stamp.specs.declared.Scale.{Scale}
use Rattle.stamp.specs.declared.DayStart.{DayStart}
use Rattle.stamp.specs.Scales.{offsets_of, to_instant, to_axis, instant_for}
use Rattle.stamp.specs.Back.{in_range}
use Rattle.stamp.specs.Days.{day_start, longest, instant_after, instant_on}
use Rattle.stamp.specs.Parts.{day_after}
use Rattle.stamp.proofs.Scales.{steps, to_axis_is, instant_is}

-- the day behind one
pub day_behind : (o : Offsets) (d : ℕ) → day_after (day_start o d) (eqb (d + 1) (days_before (month_of_day d + 1))) (o (month_of_day d + 1)) ≡ day_start o (d + 1)
day_behind o d =
    let m = month_of_day d in
    let end = eqb (d + 1) (days_before (m + 1)) in
    by_test end
    (λ e. let q = month_turns d (eqb-true (d + 1) (days_before (m + 1)) e) in rw e (ap (λ (n : ℕ). record { number = d + 1; month = n; offset = o n }) q))
    (λ e. let q = month_stays d (eqb-false (d + 1) (days_before (m + 1)) e) in rw e (ap (λ (n : ℕ). record { number = d + 1; month = n; offset = o n }) q))

-- the instant of a reading is that of its microsecond of its day
pub instant_by_day : (t : Table) (s : Scale) (r : Reading) → 1 ≤ r.label.day → r.label.day ≤ month_length (month_of r.label) → instant_for t s r ≡ instant_after s (day_start (offsets_of t s) (day_count r.label)) (micro_of_day r)
unfolding second_of
instant_by_day t s r low high =
    let u : micro_of r ≡ 86400000000 * day_count r.label + micro_of_day r = omega arith in
    ap₂ (λ (n m : ℕ). to_instant s (axis_at n (offsets_of t s m))) u (label_falls r.label low high)

-- from 1972 on, and with no more than a day's microseconds, only the last day is asked
pub on_day : (s : Scale) (b : DayStart) (u : ℕ) → first_day ≤ b.number → u ≤ longest → instant_on s b u ≡ refusing Err ((leb b.number last_day, RANGE) ∷ []) (Ok (instant_after s b u))
unfolding instant_on
on_day s b u l h = rw (le-leb first_day b.number l, le-leb u longest h)

-- ---- so many microseconds after a day's midnight

pub after_begin : (s : Scale) (b : DayStart) (u : ℕ) → instant_after s b u ≡ instant_after s b 0 +ℤ pos u
after_begin s b u =
    let i : ℤ = instant_after s b u in
    let j : ℤ = instant_after s b 0 in
    eq_from i (j +ℤ pos u) (omega (arith, sum_is j (pos u), instant_is s (86400000000 * b.number + u) b.offset, instant_is s (86400000000 * b.number + 0) b.offset))

module _ (t : Table) (acc : Accepted t) (s : Scale) where
  abbrev o : Offsets
  o = offsets_of t s

  -- its own length after it the next midnight
  pub next_begin : (d : ℕ) → instant_after s (day_start (offsets_of t s) (d + 1)) 0 ≡ instant_after s (day_start (offsets_of t s) d) 0 +ℤ pos (1000000 * day_seconds (offsets_of t s) d)
  next_begin d =
      let i : ℤ = instant_after s (day_start o (d + 1)) 0 in
      let j : ℤ = instant_after s (day_start o d) 0 in
      let n = 1000000 * day_seconds o d in
      eq_from i (j +ℤ pos n)
      (omega (arith, sum_is j (pos n), next_midnight d o (steps t acc s), instant_is s (86400000000 * (d + 1) + 0) (o (month_of_day (d + 1))), instant_is s (86400000000 * d + 0) (o (month_of_day d))))

  -- the midnight behind 9999 is no instant in range
  pub not_past : in_range t s (instant_after s (day_start (offsets_of t s) (last_day + 1)) 0) ≡ true → ⊥
  not_past e =
      let st = steps t acc s in
      let x : ℤ = instant_after s (day_start o (last_day + 1)) 0 in
      let m : end_month ≡ month_of_day (last_day + 1) = month_is_lem (last_day + 1) end_month (omega (arith, days_end), omega (arith, days_end, days_next end_month, length_least end_month)) in
      let q : o (month_of_day (last_day + 1)) ≡ o last_month = sym (ap o m) ∙ st.at_rest in
      let b = years_to o st (to_axis s x) e in
      omega (arith, to_axis_is s x, instant_is s (86400000000 * (last_day + 1) + 0) (o (month_of_day (last_day + 1))), ap up q, ap down q)
