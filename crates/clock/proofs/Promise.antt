-- The clock over all its ticks: after n of them it shows the label of the n-th second, until year 10000 begins.
-- Assumes nothing.
use mathlib.Core.Path.{◌≡◌, refl, sym, ap, subst, ◌∙◌}
use mathlib.Core.Logic.{◌⊎◌, inl, inr, ⊎_elim, ⊎_map}
use mathlib.Core.Bool.{true}
use mathlib.Core.List.{[], ◌∷◌}
use Prim.Native.Nat.{ℕ, zero, suc, ◌+◌, ◌-◌, ◌*◌, ◌≤◌, ◌<◌}
use native.Mathlib.Omega.{arith}
use lib.IntN.{pos, ◌+ℤ◌}
use Rattle.std.specs.Prelude.{Result, Ok, Err}
use Rattle.answer.specs.declared.Refusal.{Refusal}
use Rattle.laws.proofs.Cases.{join}
use Rattle.laws.proofs.Difference.{up, down}
use Rattle.laws.proofs.Offsets.{Steps}
use Rattle.answer.specs.declared.Refusal.TheVariants.{Table as TABLE, Range as RANGE}
use Rattle.answer.proofs.Orders.{none_refused, number_some}
use Rattle.months.specs.Months.{month_length, days_before}
use Rattle.months.proofs.Laws.{days_1972, days_next, length_least}
use Rattle.leap.specs.declared.Table.{Table}
use Rattle.leap.specs.Leap.{accepted, offset_at}
use Rattle.leap.proofs.Facts.{Accepted, accepted_to}
use Rattle.leap.proofs.Moves.{at_first, steps_by_months}
use Rattle.labels.specs.declared.Label.{Label}
use Rattle.labels.specs.Labels.{Offsets, whole, label_tests}
use Rattle.labels.specs.Seconds.{axis_of, first_month, last_month, end_month}
use Rattle.labels.proofs.Turn.{turn}
use Rattle.labels.proofs.Exists.{second_few}
use Rattle.labels.proofs.Order.{order, order_back}
use Rattle.labels.proofs.Admitted.{admitted_to, admitted_from}
use Rattle.labels.proofs.Years.{axis_second, first_second, last_second, days_last, days_end}
use Rattle.labels.proofs.Labelled.{At, at_covered, one, standing}
use Rattle.clock.specs.Clock.{start, tick, tick_results, onward, after}
use Rattle.clock.specs.Promise.{first_label, last_label, admits, Follows, Shows, ended, Ends, Ticking, AllTick}
use Rattle.clock.proofs.Days.{days_by_entries}
use Rattle.clock.proofs.Rule.{Right, end_minute, begins_minute, ticks}

module _ (t : Table) (ok : accepted t ≡ true) where
  acc : Accepted t
  acc = accepted_to t ok

  o : Offsets
  o = offset_at t

  st : Steps o
  unfolding o
  st = steps_by_months t acc

  -- second n of the clock among the seconds of the axis
  tai : ℕ → ℕ
  tai n = 62230291210 + n

  ten : (up (o first_month) ≡ 10) × (down (o first_month) ≡ 0)
  unfolding o
  ten = let e = at_first t acc in (ap up e, ap down e)

  -- the ticks to the last second of 9999, after which year 10000 begins
  count : ℕ
  count = 253339228789 + up (o last_month) - down (o last_month)

  end_is : 86400 * days_before end_month + up (o end_month) ≡ tai count + 1 + down (o end_month)
  unfolding tai count
  end_is = omega (arith, days_end, st.low last_month, ap up st.at_rest, ap down st.at_rest)

  -- ---- a label at a second

  admitted_at : (l : Label) (s : ℕ) → At o l s → admits t l ≡ true
  unfolding o
  admitted_at l s a =
      let e = a.exists in
      admitted_from (offset_at t) 60 (whole l)
      (record {
        since_1972 = a.since_1972;
        until_9999 = a.until_9999;
        exists = e;
        on_clock = record { hour_high = e.hour_high; minute_high = e.minute_high; second_most = second_few (offset_at t) st l e; micro_high = omega arith };
      })

  in_time : (l : Label) (n : ℕ) → At o l (tai n) → n ≤ count
  unfolding tai
  in_time l n a = omega (arith, end_is, (at_covered o st l (tai n) a).ends)

  -- each label that exists is at a second of the clock
  found : (l : Label) → admits t l ≡ true → (n : ℕ) × At o l (tai n)
  unfolding o tai
  found l e =
      let a = admitted_to (offset_at t) 60 (whole l) e in
      let f = standing o st 60 (whole l) a in
      let s = f.0 in
      let v = at_covered o st l s f.1 in
      let back : 62230291210 + (s - 62230291210) ≡ s = omega (arith, v.begun, ten, days_1972) in
      (s - 62230291210, subst (At (offset_at t) l) (sym back) f.1)

  -- ---- the ticks

  starts : after t 0 ≡ Ok first_label
  unfolding after start
  starts = none_refused Err ((accepted t, TABLE) ∷ []) (Ok first_label) (join ok refl)

  first_at : At o first_label (tai 0)
  unfolding tai
  first_at =
      begins_minute o st first_label (62230291210 + 0) (omega (arith, length_least first_month)) refl (omega (arith, ten, first_second))

  onward_right : (n : ℕ) (p : Result Label Refusal) → Right o (tai n) p → Right o (tai (suc n)) (onward t p)
  unfolding tick o tai
  onward_right n (Err why) r = (r.0, omega (arith, r.1))
  onward_right n (Ok l) a =
      let next_second : tai n + 1 ≡ tai (suc n) = omega arith in
      subst (λ (s : ℕ). Right o s (tick t l)) next_second
      (subst (Right o (tai n + 1))
      (sym (none_refused Err ((accepted t, TABLE) ∷ label_tests (offset_at t) 60 (whole l)) _ (join ok (admitted_at l (tai n) a))))
      (ticks o st l (tai n) a))

  right : (n : ℕ) → Right o (tai n) (after t n)
  unfolding after
  right zero = subst (Right o (tai 0)) (sym starts) first_at
  right (suc n) = onward_right n (after t n) (right n)

  -- a label is shown up to the last second, and RANGE past it
  told : (n : ℕ) → ((n ≤ count) × ((l : Label) × ((after t n ≡ Ok l) × At o l (tai n)))) ⊎ ((count < n) × (after t n ≡ Err RANGE))
  unfolding tai
  told n = go (after t n) refl (right n)
    where
      go : (p : Result Label Refusal) → after t n ≡ p → Right o (tai n) p → ((n ≤ count) × ((l : Label) × ((after t n ≡ Ok l) × At o l (tai n)))) ⊎ ((count < n) × (after t n ≡ Err RANGE))
      go (Ok l) e a = inl (in_time l n a, (l, (e, a)))
      go (Err why) e r = inr (omega (arith, r.1, end_is), e ∙ ap Err r.0)

  shows_it : (l : Label) (n : ℕ) → At o l (tai n) → after t n ≡ Ok l
  shows_it l n a =
      ⊎_elim (λ w. w.1.1.0 ∙ ap Ok (one o st w.1.0 l (tai n) w.1.1.1 a)) (λ w. absurd (omega (arith, in_time l n a))) (told n)

  last_at : At o last_label (tai count)
  unfolding tai count
  last_at =
      let length : month_length last_month ≡ 31 = omega (arith, days_next last_month, days_last, days_end) in
      omega (arith, end_minute o last_label (omega arith), last_second, st.low last_month, turn (o last_month) (o end_month) (st.by_one last_month), ap up st.at_rest, ap down st.at_rest)

  -- ---- one tick

  ticks_on : (l : Label) → admits t l ≡ true → ((l' : Label) × ((tick_results (tick t l) ≡ (0, l')) × Follows t l l')) ⊎ ((l ≡ last_label) × (tick_results (tick t l) ≡ ended))
  unfolding after tai
  ticks_on l e =
      let n = (found l e).0 in
      let a = (found l e).1 in
      let on : after t (suc n) ≡ tick t l = ap (onward t) (shows_it l n a) in
      ⊎_map
      (λ w.
      let l' = w.1.0 in
      let b = w.1.1.1 in (
        l',
        (
          ap tick_results (sym on ∙ w.1.1.0),
          record {
            is_admitted = admitted_at l' (tai (suc n)) b;
            is_later = order_back o st l l' a.exists b.exists (tai n) (tai (suc n)) a.stands b.stands (omega arith);
            none_between = λ k g p q.
                let j = (found k g).0 in
                let c = (found k g).1 in
                omega (arith, order o st l k a.exists c.exists (tai n) (tai j) a.stands c.stands p, order o st k l' c.exists b.exists (tai j) (tai (suc n)) c.stands b.stands q);
          },
        ),
      ))
      (λ w.
      let same : n ≡ count = omega (arith, in_time l n a) in
      (one o st l last_label (tai count) (subst (λ (k : ℕ). At o l (tai k)) same a) last_at, ap tick_results (sym on ∙ w.1)))
      (told (suc n))

  -- ---- all ticks, in the scope's numbers

  -- number 0 is no refusal's
  next : (a : Result Label Refusal) (l : Label) → tick_results a ≡ (0, l) → a ≡ Ok l
  next (Ok k) l e = ap (λ v. Ok v.1) e
  next (Err why) l e = absurd (number_some why (ap (λ v. v.0) e))

  at : (n : ℕ) (l : Label) → Shows t n l → At o l (tai n)
  at n l e = subst (Right o (tai n)) (next (after t n) l e) (right n)

  seconds : (n : ℕ) (l : Label) → Shows t n l → axis_of (offset_at t) (whole l) ≡ axis_of (offset_at t) (whole first_label) +ℤ pos (1000000 * n)
  unfolding o tai
  seconds n l e =
      axis_second (offset_at t) (whole l) (62230291210 + n) (at n l e).stands
      ∙ sum
      ∙ ap (λ z. z +ℤ pos (1000000 * n)) (sym (axis_second (offset_at t) (whole first_label) (62230291210 + 0) first_at.stands))
    where
      sum : pos (1000000 * (62230291210 + n) + 0) ≡ pos (1000000 * (62230291210 + 0) + 0) +ℤ pos (1000000 * n)
      sum = ap pos (omega arith)

  ends : Ends t count
  ends =
      record {
        goes_on = λ n h. ⊎_elim (λ w. (w.1.0, ap tick_results w.1.1.0)) (λ w. absurd (omega arith)) (told n);
        ends_with = ap tick_results (shows_it last_label count last_at);
        stays_refused = λ n h. ⊎_elim (λ w. absurd (omega arith)) (λ w. ap tick_results w.1) (told n);
      }

  ticking : Ticking t
  unfolding tai
  ticking =
      record {
        days_by_entries = days_by_entries t acc;
        starts_in_1972 = ap tick_results starts;
        ticks_to_the_next = ticks_on;
        shows_every_second = λ l e. let w = found l e in (w.0, ap tick_results (shows_it l w.0 w.1));
        shows_it_once = λ j k l e e'. omega (arith, (at j l e).stands, (at k l e').stands);
        in_calendar_order = λ j k l l' h e e'.
            let a = at j l e in
            let a' = at k l' e' in
            order_back o st l l' a.exists a'.exists (tai j) (tai k) a.stands a'.stands (omega arith);
        shows_no_other = λ n l e. admitted_at l (tai n) (at n l e);
        keeps_the_seconds = seconds;
        ends = (count, ends);
      }

pub all_tick : AllTick
all_tick t ok = ticking t ok
