-- The date on a card: the month that its digits say is the month whose text it is.
-- Assumes nothing.
use Prim.Native.Nat.{ℕ, ◌+◌, ◌*◌, ◌/◌, ◌%◌, ◌≤◌, ◌<◌}
use mathlib.Core.Path.{◌≡◌, refl, sym, ap, ◌∙◌}
use mathlib.Core.Bool.{Bool, true, ◌&&◌}
use mathlib.Core.List.{List}
use native.Mathlib.Omega.{arith}
use borrow.Author.Tests.{le-leb, leb-true}
use lib.Dec.{leb}
use Rattle.std.specs.Prelude.{Some, None}
use Rattle.laws.specs.Tests.{all_below}
use Rattle.laws.proofs.Branches.{cond_yes}
use Rattle.laws.proofs.Cases.{chosen, pick<, both, join, below}
use Rattle.months.specs.Months.{leap_year, month_length, days_before}
use Rattle.calendar.specs.Days.{day_of_year}
use Rattle.calendar.specs.Dates.{like_year}
use Rattle.calendar.proofs.Years.{like_month}
use Rattle.digits.specs.Bytes.{same_bytes}
use Rattle.digits.specs.Decimals.{number_at}
use Rattle.digits.proofs.Bytes.{same_true, same_self}
use Rattle.digits.proofs.Decimals.{padded}
use Rattle.leap.specs.Leap.{epoch}
use Rattle.cards.specs.Card.{last_card_month, card_date}
use Rattle.cards.specs.Reading.{year_in, month_in, date_in}

-- ---- the digits

year_digits : (m : ℕ) → number_at (card_date m) 0 2 ≡ (1972 + m / 12) % 100
year_digits m = omega (arith, padded 2 2 (1972 + m / 12) 0 (omega arith))

day_digits : (m : ℕ) → number_at (card_date m) 2 3 ≡ day_of_year (epoch + m) 1 % 1000
day_digits m = omega (arith, padded 3 3 (day_of_year (epoch + m) 1) 0 (omega arith))

-- ---- month k of a year begins with day 30 * k or one of the six after it

abbrev about : ℕ → ℕ
about j = 366 * (j / 12) + 30 * (j % 12)

abbrev near : ℕ → Bool
near j = leb (about j) (days_before j + 1) && leb (days_before j + 1) (about j + 6)

-- months 0 to 23 are those of a leap year and of one that is none
near_all : all_below near 24 ≡ true
unfolding all_below days_before month_length leap_year
near_all = refl

near_is : (j : ℕ) → j < 24 → (about j ≤ days_before j + 1) × (days_before j + 1 ≤ about j + 6)
near_is j h =
    let n = both (leb (about j) (days_before j + 1)) (leb (days_before j + 1) (about j + 6)) (below near 24 near_all j h) in
    (leb-true (about j) (days_before j + 1) n.0, leb-true (days_before j + 1) (about j + 6) n.1)

begins_near : (m : ℕ) → (30 * (m % 12) ≤ day_of_year m 1) × (day_of_year m 1 ≤ 30 * (m % 12) + 6)
begins_near m =
    let l = like_month m {r = like_year (m / 12)} refl in
    let n = near_is (12 * like_year (m / 12) + m % 12) (omega arith) in
    (omega arith, omega arith)

-- ---- the month that the text of a date says

module _ (m : ℕ) (h : m ≤ last_card_month) where
  year_back : year_in (card_date m) ≡ 1972 + m / 12
  year_back = let y = year_digits m in pick< (λ (x : ℕ). x ≡ 1972 + m / 12) (number_at (card_date m) 0 2) 50 (λ l. omega arith) (λ l. omega arith)

  month_back : month_in (card_date m) ≡ m
  month_back =
      let k : (epoch + m) % 12 ≡ m % 12 = omega arith in
      let n = begins_near (epoch + m) in
      let d : number_at (card_date m) 2 3 ≡ day_of_year (epoch + m) 1 = omega (arith, day_digits m) in
      let q : number_at (card_date m) 2 3 / 30 ≡ m % 12 = omega arith in
      omega (arith, year_back)

pub date_there : (s : List ℕ) (m : ℕ) → s ≡ card_date m → m ≤ last_card_month → date_in s ≡ Some m
unfolding date_in
date_there s m e h =
    let back = month_back m h in
    ap date_in e
    ∙ sym (cond_yes None
    (join (le-leb 1972 (year_in (card_date m)) (omega (arith, year_back m h)))
    (join (le-leb (month_in (card_date m)) last_card_month (omega arith)) (ap (λ (k : ℕ). same_bytes (card_date k) (card_date m)) back ∙ same_self (card_date m))))
    (ap Some (sym back)))

pub date_was : (s : List ℕ) {m : ℕ} → date_in s ≡ Some m → (s ≡ card_date m) × (m ≤ last_card_month)
unfolding date_in
date_was s {m} e =
    let w = chosen (leb 1972 (year_in s) && (leb (month_in s) last_card_month && same_bytes (card_date (month_in s)) s)) (λ p. let z : ◌≡◌ {A = ℕ} 0 1 = cc in omega arith) e in
    let r = both (leb (month_in s) last_card_month) _ (both (leb 1972 (year_in s)) _ w.0).1 in
    let k : month_in s ≡ m = cc in
    (sym (same_true (card_date (month_in s)) s r.1) ∙ ap card_date k, omega (arith, leb-true (month_in s) last_card_month r.0))
