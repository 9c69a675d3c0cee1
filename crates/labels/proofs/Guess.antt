-- The code's way to a second's label: the month of 128 seconds before, or the next.
-- Assumes nothing.
use mathlib.Core.Path.{◌≡◌}
use mathlib.Core.Bool.{true, false}
use Prim.Native.Nat.{ℕ, ◌+◌, ◌-◌, ◌/◌, ◌≤◌, ◌<◌}
use native.Mathlib.Omega.{arith}
use lib.IntN.{pos}
use lib.Signed.{le_z}
use Rattle.laws.proofs.Cases.{by_order, by_test}
use Rattle.months.specs.Months.{days_before}
use Rattle.months.proofs.Laws.{days_1972, days_most, days_next, length_most}
use Rattle.calendar.proofs.Days.{in_month}
use Rattle.labels.specs.Labels.{Offsets}
use Rattle.labels.specs.Seconds.{first_month, last_month, end_month}
use Rattle.labels.specs.Back.{begins, since, month_at}
use Rattle.laws.proofs.Offsets.{Steps}
use Rattle.labels.proofs.Falls.{In, Begun, Covered, begun_to, before_to, since_is, before_later, month_at_lem, guess, guess_begun, guess_before}

module _ (o : Offsets) (st : Steps o) (s : ℕ) (v : Covered o s) where
  pub second_range : (128 ≤ s) × (s ≤ 400000000000)
  second_range = omega (arith, v.begun, v.ends, days_1972, days_most end_month, st.low first_month, st.low end_month)

  -- a month that has begun is not past the last
  pub not_past : (m : ℕ) → Begun o m s → m ≤ last_month
  not_past m b =
      by_order last_month m (λ h. absurd (omega (arith, before_later o st s end_month m h v.ends))) (λ h. h)

  pub guess_most : guess s ≤ last_month
  guess_most = not_past (guess s) (guess_begun o st s second_range.0)

  pub month_is_lem : (m : ℕ) → In o m s → month_at o s last_month ≡ m
  month_is_lem m i = month_at_lem o st s m i last_month (not_past m i.begun)

  -- the next month has begun
  module _ (e : le_z (begins o (guess s + 1)) (pos s) ≡ true) where
    pub in_next : In o (guess s + 1) s
    in_next = record { begun = begun_to o (guess s + 1) s e; ends = guess_before o st s second_range.0 }

    pub next_rest : since (days_before (guess s + 1)) (o (guess s + 1)) s < 86400
    next_rest =
        omega (arith, since_is o (guess s + 1) s in_next.begun, in_month ((s - 128) / 86400), st.low (guess s + 1), second_range)

  -- it has not
  module _ (e : le_z (begins o (guess s + 1)) (pos s) ≡ false) where
    pub in_guess : In o (guess s) s
    in_guess = record { begun = guess_begun o st s second_range.0; ends = before_to o (guess s + 1) s e }

    pub guess_rest : since (days_before (guess s)) (o (guess s)) s < 3000000
    guess_rest =
        omega (arith, since_is o (guess s) s in_guess.begun, in_guess.ends, days_next (guess s), length_most (guess s), st.low (guess s), st.low (guess s + 1))

  -- so each second of the range falls in a month
  pub falls : (m : ℕ) × In o m s
  falls = by_test (le_z (begins o (guess s + 1)) (pos s)) (λ e. (guess s + 1, in_next e)) (λ e. (guess s, in_guess e))

  pub not_early : (m : ℕ) → In o m s → first_month ≤ m
  not_early m i =
      by_order m first_month (λ h. absurd (omega (arith, v.begun, before_later o st s (m + 1) first_month (omega arith) i.ends))) (λ h. h)
