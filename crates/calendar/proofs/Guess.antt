-- The month of a day, guessed as if all months had the mean length of 146,097 days in 4,800 months: the guess is right or one month late.
-- Assumes nothing.
use mathlib.Core.Path.{◌≡◌, refl, ◌∙◌, ap}
use mathlib.Core.Bool.{Bool}
use Prim.Native.Nat.{ℕ, ◌+◌, ◌-◌, ◌*◌, ◌/◌, ◌%◌, ◌≤◌, ◌<◌}
use native.Mathlib.Omega.{arith}
use lib.Dec.{T, leb, leb→le}
use Rattle.laws.proofs.Tables.{each, each_left, each_right, sum_at}
use Rattle.months.specs.Months.{leap_year, month_length, days_before}
use Rattle.calendar.specs.Days.{month_of_day}
use Rattle.months.proofs.Laws.{days_split, days_most, days_next}
use Rattle.calendar.proofs.Days.{month_is_lem}

-- a month begins within three days of where months of mean length would have it
abbrev nearby : ℕ → ℕ → Bool
nearby m s = each (leb (m * 146097) ((s + 3) * 4800)) (leb (s * 4800) (m * 146097 + 3 * 4800))

near_in_cycle : (m : ℕ) → m < 4800 → T (nearby m (days_before m))
unfolding days_before month_length leap_year
near_in_cycle m h = sum_at month_length days_before (λ k. refl) refl nearby 4800 tt m h

-- the mean of a cycle's months: 146,097 days in 4,800 months
pub near_mean : (m : ℕ) → (m * 146097 ≤ (days_before m + 3) * 4800) × (days_before m * 4800 ≤ m * 146097 + 3 * 4800)
near_mean m =
    let k = m % 4800 in
    let s = days_before k in
    let low = leb (k * 146097) ((s + 3) * 4800) in
    let high = leb (s * 4800) (k * 146097 + 3 * 4800) in
    let near : T (each low high) = near_in_cycle k (omega arith) in
    let below = leb→le (k * 146097) ((s + 3) * 4800) (each_left low high near) in
    let above = leb→le (s * 4800) (k * 146097 + 3 * 4800) (each_right low high near) in
    omega (arith, days_split m)

-- where months of mean length would have a day three days on: its month, or the one after
abbrev pub guess : ℕ → ℕ
guess d = (d + 3) * 4800 / 146097

pub guess_low : (d : ℕ) → d < days_before (guess d + 1)
guess_low d = omega (arith, near_mean (guess d + 1))

pub guess_high : (d : ℕ) → d < days_before (guess d) → (1 ≤ guess d) × (days_before (guess d - 1) ≤ d)
guess_high d h = omega (arith, days_most (guess d), near_mean (guess d - 1))

pub guessed : (d : ℕ) → days_before (guess d) ≤ d → guess d ≡ month_of_day d
guessed d h = month_is_lem d (guess d) (h, guess_low d)

pub guessed_next : (d : ℕ) → d < days_before (guess d) → guess d - 1 ≡ month_of_day d
guessed_next d h =
    let back : guess d ≡ guess d - 1 + 1 = omega (arith, guess_high d h) in
    month_is_lem d (guess d - 1) ((guess_high d h).1, omega (arith, ap days_before back))

-- a month late: the month before begins its own length sooner
pub start_before : (d : ℕ) → d < days_before (guess d) → days_before (guess d) ≡ days_before (guess d - 1) + month_length (guess d - 1)
start_before d h =
    let back : guess d ≡ guess d - 1 + 1 = omega (arith, guess_high d h) in
    ap days_before back ∙ days_next (guess d - 1)
