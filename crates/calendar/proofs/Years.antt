-- Days of a year: each year's months are those of year 0 or of year 1, and a day of the year is one date.
-- Assumes nothing.
use mathlib.Core.Path.{◌≡◌, refl, ap, ap₂, sym}
use mathlib.Core.Bool.{Bool, true, false, cond, ◌&&◌}
use Prim.Native.Nat.{ℕ, zero, suc, ◌+◌, ◌-◌, ◌*◌, ◌/◌, ◌%◌, ◌≤◌, ◌<◌}
use native.Mathlib.Nat.{add-zero, add-suc}
use native.Mathlib.Omega.{arith}
use borrow.Author.Tests.{leb-true, le-leb}
use lib.Dec.{leb}
use Rattle.std.specs.Prelude.{Some, None}
use Rattle.laws.proofs.Branches.{cond_yes}
use Rattle.laws.proofs.Cases.{by_order, both, join}
use Rattle.calendar.specs.declared.MonthDay.{MonthDay}
use Rattle.months.specs.Months.{leap_year, month_length, days_before}
use Rattle.calendar.specs.Days.{month_of_day, day_of_year, year_length}
use Rattle.calendar.specs.Dates.{month_day, like_year, in_year, date_in_year}
use Rattle.months.proofs.Laws.{days_next, days_mono, days_most}
use Rattle.calendar.proofs.Days.{in_month, month_is_lem}

-- ---- the year that a year is like

pub like_most : (y : ℕ) → like_year y ≤ 1
like_most y = go (leap_year y)
  where
    go : (b : Bool) → cond b 0 1 ≤ 1
    go true = omega arith
    go false = omega arith

like_leap : (y : ℕ) → leap_year (like_year y) ≡ leap_year y
unfolding leap_year
like_leap y = go (leap_year y)
  where
    go : (b : Bool) → leap_year (cond b 0 1) ≡ b
    go true = refl
    go false = refl

like_start : (y : ℕ) → days_before (12 * like_year y) ≡ 366 * like_year y
unfolding days_before month_length leap_year
like_start y = go (leap_year y)
  where
    go : (b : Bool) → days_before (12 * cond b 0 1) ≡ 366 * cond b 0 1
    go true = refl
    go false = refl

pub like_length : (y : ℕ) → 366 - like_year y ≡ year_length y
like_length y = go (leap_year y)
  where
    go : (b : Bool) → 366 - cond b 0 1 ≡ cond b 366 365
    go true = refl
    go false = refl

length_like : (y k : ℕ) → k < 12 → month_length (12 * y + k) ≡ month_length (12 * like_year y + k)
unfolding month_length
length_like y k h =
    let year : (12 * y + k) / 12 ≡ y = omega arith in
    let month : (12 * y + k) % 12 ≡ k = omega arith in
    let year' : (12 * like_year y + k) / 12 ≡ like_year y = omega arith in
    let month' : (12 * like_year y + k) % 12 ≡ k = omega arith in
    rw (year, month, year', month', like_leap y)

-- the days before a month of the year, from those before the same month of the year that it is like
pub days_like : (y k : ℕ) → k ≤ 12 → days_before (12 * y + k) + 366 * like_year y ≡ days_before (12 * y) + days_before (12 * like_year y + k)
unfolding days_before
days_like y zero h = rw (add-zero (12 * y), add-zero (12 * like_year y)) (omega (arith, like_start y))
days_like y (suc k) h =
    rw (add-suc (12 * y) k, add-suc (12 * like_year y) k) (omega (arith, days_like y k (omega arith), length_like y k (omega arith)))

like_end : (y : ℕ) → days_before (12 * like_year y + 12) ≡ 366 * like_year y + year_length y
unfolding days_before month_length leap_year
like_end y = go (leap_year y)
  where
    go : (b : Bool) → days_before (12 * cond b 0 1 + 12) ≡ 366 * cond b 0 1 + cond b 366 365
    go true = refl
    go false = refl

-- the days of its year before month m, r being the year 0 or 1
pub like_month : (m : ℕ) {r : ℕ} → r ≡ like_year (m / 12) → (days_before (12 * r + m % 12) ≡ 366 * r + (days_before m - days_before (12 * (m / 12)))) × ((r ≤ 1) × (days_before (12 * r + m % 12) ≤ 744))
like_month m e =
    let parts : 12 * (m / 12) + m % 12 ≡ m = omega arith in
    let begun = days_mono (12 * (m / 12)) m (omega arith) in
    rw e (omega (arith, days_like (m / 12) (m % 12) (omega arith), ap days_before parts), (like_most (m / 12), omega (arith, days_most (12 * like_year (m / 12) + m % 12), like_most (m / 12))))

pub year_days : (y : ℕ) → days_before (12 * y + 12) ≡ days_before (12 * y) + year_length y
year_days y = omega (arith, days_like y 12 (omega arith), like_end y)

-- ---- the date of a day of a year

abbrev on_date : ℕ → MonthDay
on_date d = record { month = month_of_day d % 12 + 1; day = (month_day d).day }

-- the month of the day n days after the first of the year, and that of the same day in the year that it is like
module _ (y n : ℕ) (h : n < year_length y) where
  month_within : (start : ℕ) → days_before (12 * start + 12) ≡ days_before (12 * start) + year_length y → (12 * start ≤ month_of_day (days_before (12 * start) + n)) × (month_of_day (days_before (12 * start) + n) < 12 * start + 12)
  month_within start e =
      let day = days_before (12 * start) + n in
      let m = month_of_day day in
      let f = in_month day in (
        by_order m (12 * start) (λ p. absurd (omega (arith, days_mono (m + 1) (12 * start) (omega arith)))) (λ p. p),
        by_order m (12 * start + 12) (λ p. p) (λ p. absurd (omega (arith, days_mono (12 * start + 12) m p))),
      )

  pub month_in_year : (12 * y ≤ month_of_day (days_before (12 * y) + n)) × (month_of_day (days_before (12 * y) + n) < 12 * y + 12)
  month_in_year = month_within y (year_days y)

  same_date : in_year (like_year y) n ≡ in_year y n
  same_date =
      let l = like_year y in
      let q = month_of_day (days_before (12 * l) + n) in
      let k = q - 12 * l in
      let f = in_month (days_before (12 * l) + n) in
      let w = month_within l (omega (arith, like_end y, like_start y)) in
      let here : 12 * l + k ≡ q = omega arith in
      let next : 12 * l + (k + 1) ≡ q + 1 = omega arith in
      let up : 12 * y + (k + 1) ≡ 12 * y + k + 1 = omega arith in
      let a = days_like y k (omega arith) in
      let b = days_like y (k + 1) (omega arith) in
      let s = like_start y in
      let m : 12 * y + k ≡ month_of_day (days_before (12 * y) + n) =
      month_is_lem (days_before (12 * y) + n) (12 * y + k) (omega (arith, ap days_before here), omega (arith, ap days_before next, ap days_before up)) in
      let month : q % 12 + 1 ≡ month_of_day (days_before (12 * y) + n) % 12 + 1 = omega arith in
      let day : days_before (12 * l) + n - days_before q + 1 ≡ days_before (12 * y) + n - days_before (month_of_day (days_before (12 * y) + n)) + 1 =
      omega (arith, ap days_before here, ap days_before m) in
      cc

  -- as the code has it, r being the year 0 or 1
  pub like_date : {r : ℕ} → r ≡ like_year y → on_date (366 * r + n) ≡ in_year y n
  like_date e = let start : 366 * like_year y + n ≡ days_before (12 * like_year y) + n = omega (arith, like_start y) in rw (e, start) same_date

-- a month and a day of it that the year has
pub record InYear (y : ℕ) (a : MonthDay) : Type 0 where
  pub month_low : 1 ≤ a.month
  pub month_high : a.month ≤ 12
  pub day_low : 1 ≤ a.day
  pub day_high : a.day ≤ month_length (12 * y + (a.month - 1))

abbrev year_day : ℕ → MonthDay → ℕ
year_day y a = day_of_year (12 * y + (a.month - 1)) a.day

-- a date's day of the year has that date
pub date_back : (y : ℕ) (a : MonthDay) → InYear y a → date_in_year y (year_day y a) ≡ Some a
unfolding date_in_year
date_back y a i =
    let m = 12 * y + (a.month - 1) in
    let day = days_before (12 * y) + (year_day y a - 1) in
    let year : 12 * (m / 12) ≡ 12 * y = omega (arith, i) in
    let begun = days_mono (12 * y) m (omega arith) in
    let ends = days_mono (m + 1) (12 * y + 12) (omega (arith, i)) in
    let is : day ≡ days_before m + (a.day - 1) = omega (arith, i, ap days_before year) in
    let at : m ≡ month_of_day day = month_is_lem day m (omega arith, omega (arith, i, days_next m)) in
    let month : a.month ≡ month_of_day day % 12 + 1 = omega (arith, i) in
    let date : a.day ≡ day - days_before (month_of_day day) + 1 = omega (arith, i, ap days_before at) in
    sym (cond_yes None (join (le-leb 1 (year_day y a) (omega (arith, i))) (le-leb (year_day y a) (year_length y) (omega (arith, i, year_days y, days_next m, ap days_before year)))) (ap₂ (λ (x z : ℕ). Some (record { month = x; day = z })) month date))

-- a day of the year is that of the date it has
pub day_back : (y n : ℕ) (a : MonthDay) → date_in_year y n ≡ Some a → InYear y a × (year_day y a ≡ n)
unfolding date_in_year
day_back y n a e = go (leb 1 n && leb n (year_length y)) refl e
  where
    go : (b : Bool) → (leb 1 n && leb n (year_length y)) ≡ b → cond b (Some (in_year y (n - 1))) None ≡ Some a → InYear y a × (year_day y a ≡ n)
    go true p q =
        let r = both (leb 1 n) (leb n (year_length y)) p in
        let low = leb-true 1 n r.0 in
        let high = leb-true n (year_length y) r.1 in
        let day = days_before (12 * y) + (n - 1) in
        let k = month_of_day day in
        let f = in_month day in
        let w = month_in_year y (n - 1) (omega arith) in
        let same : in_year y (n - 1) ≡ a = cc in
        let mo : k % 12 + 1 ≡ a.month = ap (λ (d : MonthDay). d.month) same in
        let da : day - days_before k + 1 ≡ a.day = ap (λ (d : MonthDay). d.day) same in
        let here : 12 * y + (a.month - 1) ≡ k = omega arith in
        let year : 12 * ((12 * y + (a.month - 1)) / 12) ≡ 12 * y = omega arith in (
          record { month_low = omega arith; month_high = omega arith; day_low = omega arith; day_high = omega (arith, ap month_length here, days_next k) },
          omega (arith, ap days_before here, ap days_before year, days_mono (12 * y) k w.0),
        )
    go false p q = let z : ◌≡◌ {A = ℕ} 0 1 = cc in absurd (omega arith)

-- within a year a later month has the later days of the year
pub day_rises : (m n d e : ℕ) → m / 12 ≡ n / 12 → m < n → d ≤ month_length m → 1 ≤ e → day_of_year m d < day_of_year n e
day_rises m n d e y h l f =
    let year : 12 * (m / 12) ≡ 12 * (n / 12) = omega arith in
    omega (arith, ap days_before year, days_next m, days_mono (12 * (m / 12)) m (omega arith), days_mono (m + 1) n (omega arith))
