-- The days of a scale, by the offsets of its months: which seconds of a label's minute are there, and how many each day has.
-- Assumes nothing.
use mathlib.Core.Path.{◌≡◌, refl, sym, ap, subst, ◌∙◌}
use mathlib.Core.Logic.{◌⊎◌, inl, inr, ⊎_elim, ◌↔◌}
use mathlib.Core.Bool.{true, false}
use Prim.Native.Nat.{ℕ, ◌+◌, ◌-◌, ◌*◌, ◌/◌, ◌%◌, ◌≤◌, ◌<◌}
use native.Mathlib.Omega.{arith}
use borrow.Author.Tests.{eqb-true, eqb-false, le-leb, lt-ltb}
use lib.Dec.{eqb}
use lib.IntN.{ℤ}
use lib.Signed.{lt_z, ◌<ℤ◌}
use Rattle.laws.proofs.Cases.{pick, by_test, by_order, and_l, and_r, join}
use Rattle.laws.proofs.Difference.{eq_to, eq_from, lt_to, lt_from, lt_z_true, lt_z_false}
use Rattle.months.specs.Months.{days_before, month_length}
use Rattle.months.proofs.Laws.{days_next, length_least}
use Rattle.labels.specs.declared.Label.{Label}
use Rattle.labels.specs.Labels.{Offsets, label, whole, last_minute, month_of, minute_length, real_year, real_month, real_day, real_clock, has_second}
use Rattle.labels.specs.Seconds.{time_of_day, day_count, first_month, last_month}
use Rattle.labels.specs.Lengths.{seconds_in, day_seconds}
use Rattle.labels.specs.Back.{minute_of}
use Rattle.labels.specs.Promise.{has_label, date, real_date, LastDay, at_end, HasSeconds, Days, Higher, Lower, DaysByOffsets}
use Rattle.labels.proofs.Facts.{year_to, month_to, day_to}
use Rattle.labels.proofs.Exists.{minute_is, same_label}
use Rattle.labels.proofs.Admitted.{Admitted, admitted_to}
use Rattle.labels.proofs.Turn.{last_range}
use Rattle.labels.proofs.Lengths.{label_falls}

-- ---- the last minute of a month

module _ (x z : ℤ) where
  last_is : ((x <ℤ z) × (last_minute x z ≡ 61)) ⊎ (((z <ℤ x) × (last_minute x z ≡ 59)) ⊎ ((x ≡ z) × (last_minute x z ≡ 60)))
  unfolding last_minute
  last_is =
      by_test (lt_z x z)
      (λ p. inl (lt_from x z (lt_z_true x z p), rw p))
      (λ p.
      by_test (lt_z z x)
      (λ q. inr (inl (lt_from z x (lt_z_true z x q), rw (p, q))))
      (λ q. inr (inr (eq_from x z (omega (arith, lt_z_false x z p, lt_z_false z x q)), rw (p, q)))))

  last_higher : x <ℤ z → last_minute x z ≡ 61
  last_higher h =
      ⊎_elim (λ w. w.1) (⊎_elim (λ w. absurd (omega (arith, lt_to h, lt_to w.0))) (λ w. absurd (omega (arith, lt_to h, eq_to w.0)))) last_is

  last_lower : z <ℤ x → last_minute x z ≡ 59
  last_lower h =
      ⊎_elim (λ w. absurd (omega (arith, lt_to h, lt_to w.0))) (⊎_elim (λ w. w.1) (λ w. absurd (omega (arith, lt_to h, eq_to w.0)))) last_is

-- ---- a label of a real date

record Dated (l : Label) : Type 0 where
  years : (1972 ≤ l.year) × (l.year ≤ 9999)
  months : (1 ≤ l.month) × (l.month ≤ 12)
  days : (1 ≤ l.day) × (l.day ≤ month_length (month_of l))

dated : (l : Label) → real_date l ≡ true → Dated l
dated l e =
    let y : real_year l ≡ true = search (and_l) in
    let m : real_month l ≡ true = search (and_l, and_r) in
    let d : real_day l ≡ true = search (and_r) in
    record { years = year_to l y; months = month_to l m; days = day_to l d }

has_from : (o : Offsets) (l : Label) → real_date l ≡ true → l.hour ≤ 23 → l.minute ≤ 59 → l.second ≤ 60 → l.second < minute_length o l → has_label o l ≡ true
unfolding real_clock has_second
has_from o l e h mi s u =
    let y : real_year l ≡ true = search (and_l) in
    let m : real_month l ≡ true = search (and_l, and_r) in
    let d : real_day l ≡ true = search (and_r) in
    join y (join m (join d (join (join (le-leb _ _ h) (join (le-leb _ _ mi) (join (le-leb _ _ s) refl))) (join (lt-ltb _ _ u) refl))))

-- ---- the seconds of a day whose last minute has e of them

module _ (o : Offsets) (l : Label) (real : real_date l ≡ true) (e : ℕ) (low : 59 ≤ e) (high : e ≤ 61)
    (last : LastDay l → last_minute (o (month_of l)) (o (month_of l + 1)) ≡ e) (other : l.day < month_length (month_of l) → e ≡ 60) where
  minute_on : (k : Label) → date k ≡ date l → k.hour ≤ 23 → k.minute ≤ 59 → ((60 * k.hour + k.minute < 1439) × (minute_length o k ≡ 60)) ⊎ ((60 * k.hour + k.minute ≡ 1439) × (minute_length o k ≡ e))
  minute_on k s h mi =
      let d : k.day ≡ l.day = ap (λ x. x.1.1) s in
      let m : month_of k ≡ month_of l = ap (λ x. 12 * x.0 + (x.1.0 - 1)) s in
      let n : month_length (month_of k) ≡ month_length (month_of l) = ap month_length m in
      let r = (dated l real).days in
      ⊎_elim
      (λ w.
      by_order (60 * k.hour + k.minute) 1439
      (λ q. inl (q, w.1))
      (λ q. inr (omega arith, w.1 ∙ sym (other (omega arith)))))
      (λ w. inr (omega arith, w.1 ∙ ap (λ x. last_minute (o x) (o (x + 1))) m ∙ last (omega arith)))
      (minute_is (o (month_of k)) (o (month_of k + 1)) k (omega arith) h mi)

  module _ (k : Label) (s : date k ≡ date l) (h : has_label o k ≡ true) where
    is : Admitted o 60 (whole k)
    is = admitted_to o 60 (whole k) h

    in_day : time_of_day k < 86340 + e
    in_day =
        let a = is.exists in
        ⊎_elim (λ w. omega (arith, a.second_high)) (λ w. omega (arith, a.second_high)) (minute_on k s a.hour_high a.minute_high)

    -- the minute is told by the time of day
    minute_told : minute_of (time_of_day k) ≡ 60 * k.hour + k.minute
    minute_told =
        let a = is.exists in
        ⊎_elim (λ w. omega (arith, a.second_high)) (λ w. omega arith) (minute_on k s a.hour_high a.minute_high)

  -- the label of second n of the day
  numbered : ℕ → Label
  numbered n = label l.year l.month l.day (minute_of n / 60) (minute_of n % 60) (n - 60 * minute_of n)

  numbered_has : (n : ℕ) → n < 86340 + e → has_label o (numbered n) ≡ true
  unfolding numbered real_year real_month real_day
  numbered_has n h =
      has_from o (numbered n) real (omega arith) (omega arith) (omega arith)
      (⊎_elim (λ w. omega arith) (λ w. omega arith) (minute_on (numbered n) refl (omega arith) (omega arith)))

  has_seconds : HasSeconds o (date l) (86340 + e)
  unfolding numbered
  has_seconds =
      record {
        none_past = in_day;
        every_one = λ n h. (numbered n, (refl, (numbered_has n h, omega arith)));
        once = λ j k p q g h t.
            let c = ap minute_of t in
            let a = (is j p g).exists in
            let b = (is k q h).exists in
            let hours : j.hour ≡ k.hour = omega (arith, minute_told j p g, minute_told k q h, a.minute_high, b.minute_high) in
            let minutes : j.minute ≡ k.minute = omega (arith, minute_told j p g, minute_told k q h) in
            let d = p ∙ sym q in
            same_label (ap (λ x. x.0) d) (ap (λ x. x.1.0) d) (ap (λ x. x.1.1) d) hours minutes (omega arith);
      }

-- as many as the definition says
pub own_length : (o : Offsets) (l : Label) → real_date l ≡ true → HasSeconds o (date l) (day_seconds o (day_count l))
unfolding seconds_in
own_length o l e =
    let d = (dated l e).days in
    let m = month_of l in
    let end = eqb (day_count l + 1) (days_before (m + 1)) in
    subst (λ (k : ℕ). HasSeconds o (date l) (seconds_in (eqb (day_count l + 1) (days_before (k + 1))) (o k) (o (k + 1)))) (label_falls l d.0 d.1)
    (pick (HasSeconds o (date l)) end
    (λ b.
    let q = eqb-true (day_count l + 1) (days_before (m + 1)) b in
    has_seconds o l e (last_minute (o m) (o (m + 1))) (last_range (o m) (o (m + 1))).0 (last_range (o m) (o (m + 1))).1 (λ h. refl) (λ h. absurd (omega (arith, days_next m))))
    (λ b.
    let q = eqb-false (day_count l + 1) (days_before (m + 1)) b in
    has_seconds o l e 60 (omega arith) (omega arith) (λ h. absurd (q (omega (arith, days_next m)))) (λ h. refl)))

-- ---- a day of the calendar's month m

module _ (m d h mi s : ℕ) where
  abbrev in_month : Label
  in_month = label (m / 12) (m % 12 + 1) d h mi s

  pub month_of_lem : month_of (label (m / 12) (m % 12 + 1) d h mi s) ≡ m
  month_of_lem = omega arith

  pub is_real : first_month ≤ m → m ≤ last_month → 1 ≤ d → d ≤ month_length m → real_date (label (m / 12) (m % 12 + 1) d h mi s) ≡ true
  unfolding real_year real_month real_day
  is_real low high first last =
      join (join (le-leb 1972 (m / 12) (omega arith)) (le-leb (m / 12) 9999 (omega arith)))
      (join (join (le-leb 1 (m % 12 + 1) (omega arith)) (le-leb (m % 12 + 1) 12 (omega arith)))
      (join (le-leb 1 d first) (le-leb d (month_length (month_of in_month)) (omega (arith, ap month_length month_of_lem)))))

-- ---- the end of a month

module _ (m s : ℕ) where
  end_month : month_of (at_end m s) ≡ m
  end_month = month_of_lem m (month_length m) 23 59 s

  end_real : first_month ≤ m → m ≤ last_month → real_date (at_end m s) ≡ true
  end_real low high = is_real m (month_length m) 23 59 s low high (omega (arith, length_least m)) (omega arith)

  end_minute : (o : Offsets) → minute_length o (at_end m s) ≡ last_minute (o m) (o (m + 1))
  end_minute o =
      let n = ap month_length end_month in
      ⊎_elim (λ w. absurd (omega arith)) (λ w. w.1 ∙ ap (λ k. last_minute (o k) (o (k + 1))) end_month)
      (minute_is (o (month_of (at_end m s))) (o (month_of (at_end m s) + 1)) (at_end m s) (omega arith) (omega arith) (omega arith))

-- ---- all days

pub days_by_offsets : DaysByOffsets
days_by_offsets o =
    record {
      second_60_added = λ m. (to60 m, from60 m);
      no_other_60 = other60;
      second_59_taken = λ m. (to59 m, from59 m);
      no_other_missing = λ l e h mi s n. has_from o l e h mi (omega arith) (there l e h mi s n);
      one_more = λ l e d w. has_seconds o l e 61 (omega arith) (omega arith) (λ q. last_higher _ _ w.1.1) (λ q. absurd (omega arith));
      one_less = λ l e d w. has_seconds o l e 59 (omega arith) (omega arith) (λ q. last_lower _ _ w.1.1) (λ q. absurd (omega arith));
      all_others = λ l e p q. has_seconds o l e 60 (omega arith) (omega arith) (even l e p q) (λ n. refl);
      its_own_length = own_length o;
    }
  where
    to60 : (m : ℕ) → has_label o (at_end m 60) ≡ true → Higher o m
    to60 m h =
        let a = admitted_to o 60 (whole (at_end m 60)) h in
        let n = end_minute m 60 o in
        ⊎_elim (λ w. (omega (arith, a.since_1972), (omega (arith, a.until_9999), w.0)))
        (⊎_elim (λ w. absurd (omega (arith, a.exists.second_high))) (λ w. absurd (omega (arith, a.exists.second_high))))
        (last_is (o m) (o (m + 1)))

    from60 : (m : ℕ) → Higher o m → has_label o (at_end m 60) ≡ true
    from60 m w =
        has_from o (at_end m 60) (end_real m 60 w.0 w.1.0) (omega arith) (omega arith) (omega arith)
        (omega (arith, end_minute m 60 o, last_higher (o m) (o (m + 1)) w.1.1))

    to59 : (m : ℕ) → (real_date (at_end m 59) ≡ true) × (has_label o (at_end m 59) ≡ false) → Lower o m
    to59 m w =
        let y = (dated (at_end m 59) w.0).years in
        let n = end_minute m 59 o in
        let there : 59 < last_minute (o m) (o (m + 1)) → ⊥ = λ q.
        let z = sym (has_from o (at_end m 59) w.0 (omega arith) (omega arith) (omega arith) (omega arith)) ∙ w.1 in
        let c : ◌≡◌ {A = ℕ} 0 1 = cc in
        omega arith in
        ⊎_elim (λ v. absurd (there (omega arith))) (⊎_elim (λ v. (omega arith, (omega arith, v.0))) (λ v. absurd (there (omega arith))))
        (last_is (o m) (o (m + 1)))

    from59 : (m : ℕ) → Lower o m → (real_date (at_end m 59) ≡ true) × (has_label o (at_end m 59) ≡ false)
    from59 m w = (
      end_real m 59 w.0 w.1.0,
      by_test (has_label o (at_end m 59))
          (λ h. absurd (omega (arith, (admitted_to o 60 (whole (at_end m 59)) h).exists.second_high, end_minute m 59 o, last_lower (o m) (o (m + 1)) w.1.1)))
          (λ h. h),
    )

    -- a label in the last minute of its month
    in_end : (l : Label) → Dated l → l.hour ≤ 23 → l.minute ≤ 59 → 1440 * l.day + (60 * l.hour + l.minute) ≡ 1440 * month_length (month_of l) + 1439 → l ≡ at_end (month_of l) l.second
    in_end l d h mi q =
        same_label (omega (arith, d.months)) (omega (arith, d.months)) (omega (arith, d.days)) (omega (arith, d.days)) (omega (arith, d.days)) refl

    other60 : (l : Label) → has_label o l ≡ true → l.second ≡ 60 → l ≡ at_end (month_of l) 60
    other60 l h s =
        let a = admitted_to o 60 (whole l) h in
        let e = a.exists in
        let d : Dated l = record { years = (a.since_1972, a.until_9999); months = (e.month_low, e.month_high); days = (e.day_low, e.day_high) } in
        ⊎_elim (λ w. absurd (omega (arith, e.second_high))) (λ w. in_end l d e.hour_high e.minute_high w.0 ∙ ap (at_end (month_of l)) s)
        (minute_is (o (month_of l)) (o (month_of l + 1)) l e.day_high e.hour_high e.minute_high)

    there : (l : Label) → real_date l ≡ true → l.hour ≤ 23 → l.minute ≤ 59 → l.second ≤ 59 → (l ≡ at_end (month_of l) 59 → ⊥) → l.second < minute_length o l
    there l r h mi s n =
        let d = dated l r in
        ⊎_elim (λ w. omega arith)
        (λ w.
        by_order l.second 59
        (λ q. ⊎_elim (λ v. omega arith) (⊎_elim (λ v. omega arith) (λ v. omega arith)) (last_is (o (month_of l)) (o (month_of l + 1))))
        (λ q. let s59 : l.second ≡ 59 = omega arith in absurd (n (in_end l d h mi w.0 ∙ ap (at_end (month_of l)) s59))))
        (minute_is (o (month_of l)) (o (month_of l + 1)) l d.days.1 h mi)

    even : (l : Label) → real_date l ≡ true → (LastDay l → Higher o (month_of l) → ⊥) → (LastDay l → Lower o (month_of l) → ⊥) → LastDay l → last_minute (o (month_of l)) (o (month_of l + 1)) ≡ 60
    even l r p q d =
        let y = dated l r in
        let low : first_month ≤ month_of l = omega (arith, y.years) in
        let high : month_of l ≤ last_month = omega (arith, y.years, y.months) in
        ⊎_elim (λ w. absurd (p d (low, (high, w.0)))) (⊎_elim (λ w. absurd (q d (low, (high, w.0)))) (λ w. w.1))
        (last_is (o (month_of l)) (o (month_of l + 1)))

-- the same days, where the months are said in another way
pub days_said : {o : Offsets} {A B A' B' : ℕ → Type 0} → ((m : ℕ) → A m ↔ A' m) → ((m : ℕ) → B m ↔ B' m) → Days o A B → Days o A' B'
days_said f g d =
    record {
      second_60_added = λ m. (λ h. (f m).0 ((d.second_60_added m).0 h), λ w. (d.second_60_added m).1 ((f m).1 w));
      no_other_60 = d.no_other_60;
      second_59_taken = λ m. (λ h. (g m).0 ((d.second_59_taken m).0 h), λ w. (d.second_59_taken m).1 ((g m).1 w));
      no_other_missing = d.no_other_missing;
      one_more = λ l e q w. d.one_more l e q ((f (month_of l)).1 w);
      one_less = λ l e q w. d.one_less l e q ((g (month_of l)).1 w);
      all_others = λ l e p q. d.all_others l e (λ a w. p a ((f (month_of l)).0 w)) (λ a w. q a ((g (month_of l)).0 w));
      its_own_length = d.its_own_length;
    }
