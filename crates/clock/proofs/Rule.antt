-- One tick by the rule: from a label that exists to the one that exists a second later; at the end of 9999 the next year has begun.
-- Assumes nothing.
use mathlib.Core.Path.{◌≡◌, refl, ap}
use mathlib.Core.Logic.{◌⊎◌, inl, inr, ⊎_elim}
use Prim.Native.Nat.{ℕ, ◌+◌, ◌-◌, ◌*◌, ◌≤◌, ◌<◌}
use native.Mathlib.Omega.{arith}
use borrow.Author.Tests.{eq-eqb, eqb-true}
use Rattle.std.specs.Prelude.{Result, Ok, Err}
use Rattle.answer.specs.declared.Refusal.{Refusal}
use Rattle.laws.proofs.Cases.{by_test, and_l, and_r}
use Rattle.laws.proofs.Difference.{up, down}
use Rattle.answer.specs.declared.Refusal.TheVariants.{Range as RANGE}
use Rattle.months.specs.Months.{month_length, days_before}
use Rattle.months.proofs.Laws.{days_next, length_least}
use Rattle.laws.proofs.Offsets.{Steps}
use Rattle.labels.specs.declared.Label.{Label}
use Rattle.labels.specs.Labels.{Offsets, label, month_of, last_minute, in_last_minute, minute_in, minute_length}
use Rattle.labels.specs.Seconds.{second_of, end_month}
use Rattle.labels.proofs.Turn.{turn, last_range}
use Rattle.labels.proofs.Falls.{Begun}
use Rattle.labels.proofs.Order.{Stands}
use Rattle.labels.proofs.Labelled.{At}
use Rattle.clock.specs.Clock.{next}
use Rattle.laws.proofs.Cases.{pick<}

-- what is shown at second s: its label, or RANGE once year 10000 has begun
abbrev pub Right : Offsets → ℕ → Result Label Refusal → Type 0
Right o s (Ok l) = At o l s
Right o s (Err why) = (why ≡ RANGE) × Begun o end_month s

-- the fields down to the minute are in their ranges
abbrev Minute : Label → Type 0
Minute l =
    (1972 ≤ l.year) × ((l.year ≤ 9999) × ((1 ≤ l.month) × ((l.month ≤ 12) × ((1 ≤ l.day) × ((l.day ≤ month_length (month_of l)) × ((l.hour ≤ 23) × (l.minute ≤ 59)))))))

-- minutes in the month, so that the first of day 1 is 1440
abbrev minute_of : Label → ℕ
minute_of l = 1440 * l.day + (60 * l.hour + l.minute)

-- the label stands in the last minute of its month
abbrev AtEnd : Label → Type 0
AtEnd l = (l.day ≡ month_length (month_of l)) × ((l.hour ≡ 23) × (l.minute ≡ 59))

module _ (o : Offsets) (l : Label) where
  -- whose length the table says
  pub end_minute : AtEnd l → minute_length o l ≡ last_minute (o (month_of l)) (o (month_of l + 1))
  unfolding minute_in
  end_minute w = rw (eq-eqb _ _ w.0, eq-eqb _ _ w.1.0, eq-eqb _ _ w.1.1)

  -- any other has 60 seconds
  other_minute : AtEnd l ⊎ (minute_length o l ≡ 60)
  unfolding minute_in
  other_minute = by_test (in_last_minute (month_length (month_of l)) l) (λ e. inl (search (and_l, and_r, eqb-true))) (λ e. inr (rw e))

module _ (o : Offsets) (st : Steps o) where
  -- a minute's first second exists
  pub begins_minute : (l : Label) (s : ℕ) → Minute l → l.second ≡ 0 → Stands o l s → At o l s
  begins_minute l s r z h =
      let m = month_of l in
      ⊎_elim
      (λ w. omega (arith, end_minute o l w, last_range (o m) (o (m + 1))))
      (λ w. omega arith)
      (other_minute o l)

  module _ (l : Label) (s : ℕ) (a : At o l s) where
    second_on : l.second + 1 < minute_length o l → At o (label l.year l.month l.day l.hour l.minute (l.second + 1)) (s + 1)
    unfolding second_of minute_in
    second_on h = omega arith

    module _ (over : minute_length o l ≤ l.second + 1) where
      -- the next minute of the same month
      minute_on : (d h mi : ℕ) → minute_of (label l.year l.month d h mi 0) ≡ minute_of l + 1 → (1 ≤ d) × ((d ≤ month_length (month_of l)) × ((h ≤ 23) × (mi ≤ 59))) → At o (label l.year l.month d h mi 0) (s + 1)
      unfolding second_of
      minute_on d h mi e r =
          begins_minute (label l.year l.month d h mi 0) (s + 1) (omega arith) refl
          (⊎_elim (λ w. omega arith) (λ w. omega arith) (other_minute o l))

      module _ (mi : 59 ≤ l.minute) (h : 23 ≤ l.hour) (d : month_length (month_of l) ≤ l.day) where
        -- the next month begins
        month_over : s + 1 + down (o (month_of l + 1)) ≡ 86400 * days_before (month_of l + 1) + up (o (month_of l + 1))
        unfolding second_of
        month_over =
            let m = month_of l in
            omega (arith, end_minute o l (omega arith), days_next m, turn (o m) (o (m + 1)) (st.by_one m))

        month_on_lem : (y mo : ℕ) → 12 * y + (mo - 1) ≡ month_of l + 1 → (1972 ≤ y) × ((y ≤ 9999) × ((1 ≤ mo) × (mo ≤ 12))) → At o (label y mo 1 0 0 0) (s + 1)
        unfolding second_of
        month_on_lem y mo e r =
            begins_minute (label y mo 1 0 0 0) (s + 1) (omega (arith, length_least (12 * y + (mo - 1)))) refl
            (omega (arith, month_over, ap days_before e, ap up (ap o e), ap down (ap o e)))

        year_over : 12 ≤ l.month → 9999 ≤ l.year → Begun o end_month (s + 1)
        year_over mo y =
            let e : month_of l + 1 ≡ end_month = omega arith in
            omega (arith, month_over, ap days_before e, ap up (ap o e), ap down (ap o e))

    pub ticks : Right o (s + 1) (next (month_length (month_of l)) (minute_length o l) l)
    unfolding next
    ticks =
        let P = Right o (s + 1) in
        pick< P (l.second + 1) (minute_length o l) second_on λ over.
        pick< P l.minute 59 (λ mi. minute_on over l.day l.hour (l.minute + 1) (omega arith) (omega arith)) λ mi.
        pick< P l.hour 23 (λ h. minute_on over l.day (l.hour + 1) 0 (omega arith) (omega arith)) λ h.
        pick< P l.day (month_length (month_of l)) (λ d. minute_on over (l.day + 1) 0 0 (omega arith) (omega arith)) λ d.
        pick< P l.month 12 (λ mo. month_on_lem over mi h d l.year (l.month + 1) (omega arith) (omega arith)) λ mo.
        pick< P l.year 9999 (λ y. month_on_lem over mi h d (l.year + 1) 1 (omega arith) (omega arith)) λ y.
        (refl, year_over over mi h d mo y)
