-- A second and its label: the label exists and stands for that second, and no other label does.
-- Assumes nothing.
use mathlib.Core.Path.{◌≡◌, refl, ap}
use mathlib.Core.Logic.{◌⊎◌, inl, inr, ⊎_elim}
use mathlib.Core.Bool.{Bool, true, false, cond, ◌&&◌}
use Prim.Native.Nat.{ℕ, ◌+◌, ◌-◌, ◌*◌, ◌≤◌, ◌<◌}
use native.Mathlib.Omega.{arith}
use borrow.Author.Tests.{eqb-true, eqb-false}
use lib.Dec.{eqb}
use lib.IntN.{ℤ, pos}
use Rattle.laws.proofs.Cases.{by_order}
use Rattle.laws.proofs.Difference.{up, down}
use Rattle.months.specs.Months.{days_before, month_length}
use Rattle.months.proofs.Laws.{days_next, length_least}
use Rattle.labels.specs.declared.Label.{Label}
use Rattle.labels.specs.Labels.{Offsets, uniform, label, last_minute, month_of, minute_in, minute_length}
use Rattle.labels.specs.Seconds.{second_of}
use Rattle.labels.specs.Back.{minute_of, day_of, in_day, since, place_in, label_of}
use Rattle.laws.proofs.Offsets.{Steps}
use Rattle.labels.proofs.Turn.{turn, last_range}
use Rattle.labels.proofs.Falls.{In, since_is}

-- a label whose fields are in their ranges, and whose second its minute has
pub record Exists (o : Offsets) (l : Label) : Type 0 where
  pub month_low : 1 ≤ l.month
  pub month_high : l.month ≤ 12
  pub day_low : 1 ≤ l.day
  pub day_high : l.day ≤ month_length (month_of l)
  pub hour_high : l.hour ≤ 23
  pub minute_high : l.minute ≤ 59
  pub second_high : l.second < minute_length o l

-- a minute has 60 seconds, but for the last of a month
pub minute_is : (x z : ℤ) (l : Label) → l.day ≤ month_length (month_of l) → l.hour ≤ 23 → l.minute ≤ 59 → ((1440 * l.day + (60 * l.hour + l.minute) < 1440 * month_length (month_of l) + 1439) × (minute_in (month_length (month_of l)) x z l ≡ 60)) ⊎ ((1440 * l.day + (60 * l.hour + l.minute) ≡ 1440 * month_length (month_of l) + 1439) × (minute_in (month_length (month_of l)) x z l ≡ last_minute x z))
unfolding minute_in
minute_is x z l hd hh hm = go (eqb l.day (month_length (month_of l))) (eqb l.hour 23) (eqb l.minute 59) refl refl refl
  where
    go : (a b c : Bool) → eqb l.day (month_length (month_of l)) ≡ a → eqb l.hour 23 ≡ b → eqb l.minute 59 ≡ c → ((1440 * l.day + (60 * l.hour + l.minute) < 1440 * month_length (month_of l) + 1439) × (cond (a && (b && c)) (last_minute x z) 60 ≡ 60)) ⊎ ((1440 * l.day + (60 * l.hour + l.minute) ≡ 1440 * month_length (month_of l) + 1439) × (cond (a && (b && c)) (last_minute x z) 60 ≡ last_minute x z))
    go true true true p q r = inr (omega (arith, eqb-true), refl)
    go true true false p q r = inl (omega (arith, eqb-false l.minute 59 r), refl)
    go true false c p q r = inl (omega (arith, eqb-false l.hour 23 q), refl)
    go false b c p q r = inl (omega (arith, eqb-false l.day (month_length (month_of l)) p), refl)

pub same_label : {y mo d h mi n y' mo' d' h' mi' n' : ℕ} → y ≡ y' → mo ≡ mo' → d ≡ d' → h ≡ h' → mi ≡ mi' → n ≡ n' → label y mo d h mi n ≡ label y' mo' d' h' mi' n'
same_label p q r s t u = cc

-- ---- from a second to its label

-- second r of a month of `length` days, split into days, minutes and seconds: where a minute takes more than 60 it is the month's last
record Split (length r last day minute second : ℕ) : Type 0 where
  sum : 86400 * day + (60 * minute + second) ≡ r
  day_high : day + 1 ≤ length
  minute_high : minute ≤ 1439
  over : 60 ≤ second → (day + 1 ≡ length) × (minute ≡ 1439)
  last_high : day + 1 ≡ length → minute ≡ 1439 → second < last

split : (m r last : ℕ) → r + 60 < 86400 * month_length m + last → last ≤ 61 → Split (month_length m) r last (day_of (month_length m) r) (minute_of (r - 86400 * day_of (month_length m) r)) (r - 86400 * day_of (month_length m) r - 60 * minute_of (r - 86400 * day_of (month_length m) r))
split m r last h few =
    let n = length_least m in
    record { sum = omega arith; day_high = omega arith; minute_high = omega arith; over = λ h. omega arith; last_high = λ p q. omega arith }

module _ (o : Offsets) (st : Steps o) (m s : ℕ) (i : In o m s) where
  rest : ℕ
  rest = since (days_before m) (o m) s

  shown : Label
  shown = label_of (place_in o s m)

  last : ℕ
  last = last_minute (o m) (o (m + 1))

  parts : Split (month_length m) rest last (day_of (month_length m) rest) (minute_of (rest - 86400 * day_of (month_length m) rest)) (rest - 86400 * day_of (month_length m) rest - 60 * minute_of (rest - 86400 * day_of (month_length m) rest))
  unfolding rest last
  parts =
      split m rest last
      (omega (arith, since_is o m s i.begun, i.ends, days_next m, turn (o m) (o (m + 1)) (st.by_one m)))
      (last_range (o m) (o (m + 1))).1

  month_is_lem : month_of shown ≡ m
  unfolding shown label_of in_day
  month_is_lem = omega arith

  second_in : (x z : ℤ) → last_minute x z ≡ last → shown.second < minute_in (month_length (month_of shown)) x z shown
  unfolding shown label_of in_day rest
  second_in x z e =
      let p = parts in
      let n = ap month_length month_is_lem in
      ⊎_elim
      (λ w. by_order shown.second 60 (λ q. omega arith) (λ q. absurd (omega (arith, p.over q))))
      (λ w. omega (arith, p.last_high (omega arith) (omega arith)))
      (minute_is x z shown (omega arith) (omega arith) (omega arith))

  pub label_exists : Exists o (label_of (place_in o s m))
  unfolding shown label_of in_day rest last
  label_exists =
      let p = parts in
      let n = ap month_length month_is_lem in
      record {
        month_low = omega arith;
        month_high = omega arith;
        day_low = omega arith;
        day_high = omega arith;
        hour_high = omega arith;
        minute_high = omega arith;
        second_high = second_in (o (month_of shown)) (o (month_of shown + 1)) (ap (λ (k : ℕ). last_minute (o k) (o (k + 1))) month_is_lem);
      }

  pub label_second : second_of (label_of (place_in o s m)) + up (o m) ≡ s + down (o m)
  unfolding shown label_of in_day rest second_of
  label_second =
      let p = parts in
      let d : days_before (month_of shown) ≡ days_before m = ap days_before month_is_lem in
      omega (arith, since_is o m s i.begun)

  pub label_month : month_of (label_of (place_in o s m)) ≡ m
  unfolding shown rest
  label_month = month_is_lem

-- ---- and back

pub second_few : (o : Offsets) → Steps o → (l : Label) → Exists o l → l.second ≤ 60
second_few o st l e =
    let r = last_range (o (month_of l)) (o (month_of l + 1)) in
    ⊎_elim (λ w. omega (arith, e.second_high)) (λ w. omega (arith, e.second_high))
    (minute_is (o (month_of l)) (o (month_of l + 1)) l e.day_high e.hour_high e.minute_high)

module _ (o : Offsets) (st : Steps o) (l : Label) (e : Exists o l) (s : ℕ) (h : s + down (o (month_of l)) ≡ second_of l + up (o (month_of l))) where
  m : ℕ
  m = month_of l

  pub second_falls : In o (month_of l) s
  unfolding second_of m
  second_falls =
      record {
        begun = omega arith;
        ends = ⊎_elim (λ w. omega (arith, days_next m, turn (o m) (o (m + 1)) (st.by_one m), e.second_high, last_range (o m) (o (m + 1))))
            (λ w. omega (arith, days_next m, turn (o m) (o (m + 1)) (st.by_one m), e.second_high))
            (minute_is (o m) (o (m + 1)) l e.day_high e.hour_high e.minute_high);
      }

  rest_is : since (days_before (month_of l)) (o (month_of l)) s ≡ 86400 * (l.day - 1) + (3600 * l.hour + (60 * l.minute + l.second))
  unfolding second_of
  rest_is = omega (arith, since_is o (month_of l) s second_falls.begun)

  -- where the second is 60 or more, the label stands in the last minute of its month
  pub at_end : 60 ≤ l.second → (l.day ≡ month_length (month_of l)) × ((l.hour ≡ 23) × (l.minute ≡ 59))
  at_end q =
      ⊎_elim (λ w. absurd (omega (arith, e.second_high))) (λ w. omega (arith, e.hour_high, e.minute_high, e.day_high))
      (minute_is (o (month_of l)) (o (month_of l + 1)) l e.day_high e.hour_high e.minute_high)

  r : ℕ
  r = since (days_before (month_of l)) (o (month_of l)) s

  day_is : day_of (month_length (month_of l)) r ≡ l.day - 1
  unfolding r
  day_is =
      by_order l.second 60
      (λ q. omega (arith, rest_is, e.hour_high, e.minute_high, e.day_low, e.day_high))
      (λ q. omega (arith, rest_is, at_end q, second_few o st l e, e.day_low))

  left_is : r - 86400 * day_of (month_length (month_of l)) r ≡ 3600 * l.hour + (60 * l.minute + l.second)
  unfolding r
  left_is = omega (arith, rest_is, day_is)

  minute_at : minute_of (r - 86400 * day_of (month_length (month_of l)) r) ≡ 60 * l.hour + l.minute
  minute_at =
      by_order l.second 60
      (λ q. omega (arith, left_is, e.hour_high, e.minute_high))
      (λ q. omega (arith, left_is, at_end q, second_few o st l e))

  pub label_back : label_of (place_in o s (month_of l)) ≡ l
  unfolding r label_of in_day
  label_back =
      same_label
      (omega (arith, e.month_low, e.month_high))
      (omega (arith, e.month_low, e.month_high))
      (omega (arith, day_is, e.day_low))
      (omega (arith, minute_at, e.minute_high))
      (omega (arith, minute_at, e.minute_high))
      (omega (arith, minute_at, left_is))

-- on a uniform scale no minute has more than 60 seconds
pub second_uniform : (l : Label) → Exists uniform l → l.second ≤ 59
unfolding last_minute
second_uniform l e =
    ⊎_elim (λ w. omega (arith, e.second_high)) (λ w. omega (arith, e.second_high))
    (minute_is (pos 0) (pos 0) l e.day_high e.hour_high e.minute_high)
