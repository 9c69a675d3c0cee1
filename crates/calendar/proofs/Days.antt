-- A day falls in one month only, the one that the definition gives it; and the month of the next day.
-- Assumes nothing.
use mathlib.Core.Path.{◌≡◌, refl}
use mathlib.Core.Bool.{Bool, true, false, cond}
use Prim.Native.Nat.{ℕ, zero, suc, ◌+◌, ◌≤◌, ◌<◌}
use native.Mathlib.Omega.{arith}
use lib.Dec.{ltb}
use borrow.Author.Tests.{ltb-true, ltb-false}
use Rattle.months.specs.Months.{days_before}
use Rattle.laws.proofs.Cases.{by_order}
use Rattle.months.proofs.Laws.{length_least, rise, days_mono, days_next}
use Rattle.calendar.specs.Days.{month_of_day}

-- day d falls in month m
abbrev pub Falls : ℕ → ℕ → Type 0
Falls d m = (days_before m ≤ d) × (d < days_before (m + 1))

no_later : (d m n : ℕ) → Falls d m → Falls d n → ¬ (m < n)
no_later d m n f g h = omega (arith, days_mono (m + 1) n (omega arith))

-- a day falls in one month only
pub one_month : (d m n : ℕ) → Falls d m → Falls d n → m ≡ n
one_month d m n f g = omega (arith, no_later d m n f g, no_later d n m g f)

-- and that is the month which the definition gives it
next_month : (d m : ℕ) (b : Bool) → ltb (suc d) (days_before (m + 1)) ≡ b → Falls d m → Falls (suc d) (cond b m (m + 1))
next_month d m true e f = omega (arith, ltb-true)
next_month d m false e f = omega (arith, ltb-false, rise 1 (m + 1))

pub in_month : (d : ℕ) → Falls d (month_of_day d)
unfolding month_of_day days_before
in_month zero = omega (arith, length_least 0)
in_month (suc d) = next_month d (month_of_day d) (ltb (suc d) (days_before (month_of_day d + 1))) refl (in_month d)

pub month_is_lem : (d m : ℕ) → Falls d m → m ≡ month_of_day d
month_is_lem d m f = one_month d m (month_of_day d) f (in_month d)

-- behind a month's last day the next month, and else the same
module _ (d : ℕ) where
  pub month_turns : d + 1 ≡ days_before (month_of_day d + 1) → month_of_day d + 1 ≡ month_of_day (d + 1)
  month_turns e = let m = month_of_day d in month_is_lem (d + 1) (m + 1) (omega arith, omega (arith, days_next (m + 1), length_least (m + 1)))

  pub month_stays : (d + 1 ≡ days_before (month_of_day d + 1) → ⊥) → month_of_day d ≡ month_of_day (d + 1)
  month_stays other =
      let m = month_of_day d in
      let f = in_month d in
      month_is_lem (d + 1) m (omega arith, by_order (d + 1) (days_before (m + 1)) (λ h. h) (λ h. absurd (other (omega arith))))
