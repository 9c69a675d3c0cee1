-- Each call's number is that of the first test of its list that fails.
-- Assumes nothing.
use mathlib.Core.Path.{◌≡◌, refl, sym, ap, ap₂, ◌∙◌}
use mathlib.Core.Logic.{⊎_elim}
use mathlib.Core.Bool.{Bool, true, false, not, cond, ◌&&◌}
use mathlib.Core.List.{List, [], ◌∷◌, ◌++◌}
use Prim.Native.Nat.{ℕ, suc, ◌+◌, ◌-◌, ◌*◌}
use native.Mathlib.Omega.{arith}
use borrow.Author.Tests.{le-leb, leb-true, eqb-true}
use lib.Dec.{leb}
use lib.IntN.{ℤ}
use lib.ListN.{length}
use lib.Signed.{le_z}
use Rattle.std.specs.Prelude.{Option, Some, None, Result, Ok, Err}
use Rattle.laws.proofs.Branches.{cond_yes}
use Rattle.laws.proofs.Cases.{and_l, and_r, join, by_truth}
use Rattle.laws.proofs.Difference.{le_z_true, le_le_z}
use Rattle.answer.specs.declared.Refusal.{Refusal}
use Rattle.answer.specs.declared.Refusal.TheVariants.{Shape as SHAPE, Range as RANGE, Table as TABLE}
use Rattle.answer.specs.Refusals.{number, refusing, all_pass}
use Rattle.answer.specs.Buffers.{room_last, written_results}
use Rattle.answer.proofs.Orders.{none_refused, was_passed, refusing_map, number_some}
use Rattle.calendar.specs.Days.{year_length}
use Rattle.calendar.specs.Dates.{in_year, date_in_year}
use Rattle.calendar.proofs.Years.{day_back}
use Rattle.months.specs.Months.{month_length}
use Rattle.leap.specs.declared.Table.{Table}
use Rattle.leap.specs.Leap.{accepted, offset_at}
use Rattle.labels.specs.declared.Label.{Label}
use Rattle.labels.specs.declared.Reading.{Reading}
use Rattle.labels.specs.Labels.{label, whole, month_of, real_month, real_day, minute_length, label_tests}
use Rattle.labels.specs.Seconds.{axis_of, first_reading, last_reading as last_reading_lem, in_years as in_labels}
use Rattle.stamp.specs.declared.Scale.{Scale}
use Rattle.stamp.specs.Scales.{scale_of, scale_tests, offsets_of, most_second, to_instant, to_axis, instant_for}
use Rattle.stamp.specs.Stamps.{instant_of, instant_results, stamp_of, stamp_results}
use Rattle.stamp.specs.Back.{in_range, stamp_at}
use Rattle.stamp.specs.Promise.{stamp}
use Rattle.stamp.proofs.Scales.{to_instant_is, to_axis_is}
use Rattle.clock.specs.Clock.{next, start, tick, tick_results, onward, after}
use Rattle.clock.specs.Promise.{last_label, ended}
use Rattle.clock.proofs.Promise.{all_tick}
use Rattle.block.specs.Blocks.{block_in, block_tests}
use Rattle.kernel.specs.Writing.{kernel_of, kernel_tests}
use Rattle.cards.specs.Writing.{cards_of, card_tests}
use Rattle.pictures.specs.declared.Date.{Date}
use Rattle.pictures.specs.declared.Date.TheVariants.{Numbered, OfYear, Named}
use Rattle.pictures.specs.declared.Fields.{Fields}
use Rattle.pictures.specs.Pictures.{picture_text, WellFormed}
use Rattle.pictures.specs.Reading.{read_fields}
use Rattle.pictures.proofs.Promise.{back, shown}
use Rattle.text.specs.Text.{date_or, month_day_of, reading_of, fields_read, read_text, text_results, write_tests, text_at, write_text}
use Rattle.text.proofs.Exactly.{sized}
use Rattle.julian.specs.declared.JulianDate.{JulianDate}
use Rattle.fraction.specs.Fraction.{is_fraction, is_half}
use Rattle.julian.specs.Dates.{write_julian, julian_results, read_tests, read_julian}
use Rattle.promises.specs.Orders.{verdict, Verdicts, real_month_day, within_labels, instant_of_tests, real_as_shown, read_text_tests, instant_tests, write_text_tests, read_julian_tests, start_tests, is_last, tick_tests, Orders, GivenExactly, EveryCall}

-- ---- lists of tests

-- two tests with one refusal judge as their joined test
joined : {A : Type 0} (a b : Bool) (x y : A) → cond a (cond b x y) y ≡ cond (a && b) x y
joined true b x y = refl
joined false b x y = refl

-- what stands behind tests may suppose that they passed
past : {A : Type 0} (refuse : Refusal → A) (tests : List (Bool × Refusal)) {a b : A} → (all_pass tests ≡ true → a ≡ b) → refusing refuse tests a ≡ refusing refuse tests b
past refuse [] f = f refl
past refuse (test ∷ tests) {a} {b} f = go test.0 (λ e. past refuse tests (λ p. f (join e p)))
  where
    go : (passes : Bool) → (passes ≡ true → refusing refuse tests a ≡ refusing refuse tests b) → cond passes (refusing refuse tests a) (refuse test.1) ≡ cond passes (refusing refuse tests b) (refuse test.1)
    go true g = g refl
    go false g = refl

pub verdicts : Verdicts
verdicts =
    record {
      success_when_none_fails = λ tests. (λ e. (was_passed number tests 0 0 number_some e).0, none_refused number tests 0);
      else_the_first_that_fails = λ before after why e. appended before ((false, why) ∷ after) ∙ none_refused number before (number why) e;
    }
  where
    appended : (a b : List (Bool × Refusal)) → verdict (a ++ b) ≡ refusing number a (verdict b)
    appended [] b = refl
    appended (test ∷ a) b = ap (λ (n : ℕ). cond test.0 n (number test.1)) (appended a b)

-- an instant is in range exactly from the first label's to the last's: the axis is the instant moved
in_range_lem : (t : Table) (s : Scale) (x : ℤ) → in_range t s x ≡ within_labels t s x
unfolding in_labels
in_range_lem t s x = ap₂ ◌&&◌ (not_before (axis_of (offsets_of t s) first_reading)) (not_after (axis_of (offsets_of t s) last_reading_lem))
  where
    not_before : (a : ℤ) → le_z a (to_axis s x) ≡ le_z (to_instant s a) x
    not_before a =
        by_truth _ _ (λ e. le_le_z (to_instant s a) x (omega (arith, le_z_true a (to_axis s x) e, to_instant_is s a, to_axis_is s x)))
        (λ e. le_le_z a (to_axis s x) (omega (arith, le_z_true (to_instant s a) x e, to_instant_is s a, to_axis_is s x)))

    not_after : (a : ℤ) → le_z (to_axis s x) a ≡ le_z x (to_instant s a)
    not_after a =
        by_truth _ _ (λ e. le_le_z x (to_instant s a) (omega (arith, le_z_true (to_axis s x) a e, to_instant_is s a, to_axis_is s x)))
        (λ e. le_le_z (to_axis s x) a (omega (arith, le_z_true x (to_instant s a) e, to_instant_is s a, to_axis_is s x)))

-- a text's date is judged as the month and the day that it stands for
date_is : (y h mi s : ℕ) (d : Date) → let l : Label = label y (month_day_of y d).month (month_day_of y d).day h mi s in real_as_shown d l ≡ real_month_day l
unfolding date_in_year real_month real_day
date_is y h mi s (Numbered m d) = refl
date_is y h mi s (OfYear n) = go (leb 1 n && leb n (year_length y)) refl
  where
    go : (b : Bool) → (leb 1 n && leb n (year_length y)) ≡ b → b ≡ real_month_day (label y (date_or (cond b (Some (in_year y (n - 1))) None)).month (date_or (cond b (Some (in_year y (n - 1))) None)).day h mi s)
    go true e =
        let a = in_year y (n - 1) in
        let i = (day_back y n a (sym (cond_yes None e refl))).0 in
        sym
        (join (join (le-leb 1 a.month i.month_low) (le-leb a.month 12 i.month_high))
        (join (le-leb 1 a.day i.day_low) (le-leb a.day (month_length (12 * y + (a.month - 1))) i.day_high)))
    go false e = refl
date_is y h mi s (Named m d) = refl

-- ---- the last tick

is_last_lem : (l : Label) → is_last l ≡ true → l ≡ last_label
is_last_lem l e =
    let year : l.year ≡ 9999 = search (and_l, eqb-true) in
    let month : l.month ≡ 12 = search (and_l, and_r, eqb-true) in
    let day : l.day ≡ 31 = search (and_l, and_r, eqb-true) in
    let hour : l.hour ≡ 23 = search (and_l, and_r, eqb-true) in
    let minute : l.minute ≡ 59 = search (and_l, and_r, eqb-true) in
    let second : l.second ≡ 59 = search (and_l, and_r, eqb-true) in
    let same : label l.year l.month l.day l.hour l.minute l.second ≡ last_label = cc in
    same

module _ (t : Table) (ok : accepted t ≡ true) where
  last_ticks : tick_results (tick t last_label) ≡ ended
  unfolding after
  last_ticks =
      let w = (all_tick t ok).ends in
      ap (λ (a : Result Label Refusal). tick_results (onward t a)) (sym (next_is (after t w.0) w.1.ends_with)) ∙ w.1.stays_refused (suc w.0) (omega arith)
    where
      next_is : (a : Result Label Refusal) → tick_results a ≡ (0, last_label) → a ≡ Ok last_label
      next_is (Ok l) e = ap (λ v. Ok v.1) e
      next_is (Err why) e = absurd (number_some why (ap (λ v. v.0) e))

  -- an admitted label ticks but for the last
  ticks : (l : Label) → all_pass (label_tests (offset_at t) 60 (whole l)) ≡ true → (tick_results (tick t l)).0 ≡ cond (not (is_last l)) 0 7
  ticks l e = go (is_last l) refl
    where
      differ : true ≡ false → ⊥
      differ q = let z : ◌≡◌ {A = ℕ} 0 1 = cc in omega arith

      go : (b : Bool) → is_last l ≡ b → (tick_results (tick t l)).0 ≡ cond (not b) 0 7
      go true p = ap (λ (k : Label). (tick_results (tick t k)).0) (is_last_lem l p) ∙ ap (λ v. v.0) last_ticks
      go false p =
          ⊎_elim (λ w. ap (λ v. v.0) w.1.0) (λ w. absurd (differ (sym (ap is_last w.0) ∙ p))) ((all_tick t ok).ticks_to_the_next l e)

-- ---- the calls

module _ (t : Table) where
  -- what is asked of a reading on scale number k, as it is defined
  abbrev of_reading : ℕ → Reading → List (Bool × Refusal)
  of_reading k r = scale_tests t k ++ label_tests (offsets_of t (scale_of k)) (most_second (scale_of k)) r

  instant_of_lem : (k : ℕ) (r : Reading) → (instant_results (instant_of t k r)).0 ≡ verdict (instant_of_tests t k r)
  unfolding instant_of
  instant_of_lem k r =
      refusing_map (λ a. (instant_results a).0) Err (of_reading k r) (Ok (instant_for t (scale_of k) r))
      ∙ rw (joined (real_month r.label) (real_day r.label))

  read_text_lem : (k : ℕ) (text : List ℕ) (f : Fields) → WellFormed f → text ≡ picture_text f → (text_results (read_text t k text)).0 ≡ verdict (read_text_tests t k true f)
  unfolding read_text
  read_text_lem k text f w e =
      let r = reading_of f in
      ap (λ (a : Option Fields). (text_results (refusing Err (scale_tests t k) (fields_read t (scale_of k) a))).0) (ap read_fields e ∙ back f w)
      ∙ refusing_map (λ a. (text_results a).0) Err (of_reading k r) (Ok (instant_for t (scale_of k) r, stamp (scale_of k) r))
      ∙ rw (joined (real_month r.label) (real_day r.label), date_is f.year f.hour f.minute f.second f.date)

  read_no_picture : (k : ℕ) (text : List ℕ) → ((f : Fields) → WellFormed f → text ≡ picture_text f → ⊥) → (f : Fields) → (text_results (read_text t k text)).0 ≡ verdict (read_text_tests t k false f)
  unfolding read_text
  read_no_picture k text none f =
      ap (λ (a : Option Fields). (text_results (refusing Err (scale_tests t k) (fields_read t (scale_of k) a))).0) (go (read_fields text) refl)
      ∙ refusing_map (λ a. (text_results a).0) Err (scale_tests t k) (Err SHAPE)
    where
      go : (a : Option Fields) → read_fields text ≡ a → a ≡ None
      go (Some g) e = let w = shown text g e in absurd (none g w.0 w.1)
      go None e = refl

  -- and of an instant
  abbrev of_instant : ℕ → ℤ → List (Bool × Refusal)
  of_instant k x = scale_tests t k ++ (in_range t (scale_of k) x, RANGE) ∷ []

  stamp_of_lem : (k : ℕ) (x : ℤ) → (stamp_results (stamp_of t x k)).0 ≡ verdict (instant_tests t k x)
  unfolding stamp_of
  stamp_of_lem k x = refusing_map (λ a. (stamp_results a).0) Err (of_instant k x) (Ok (stamp_at t (scale_of k) x)) ∙ rw in_range_lem

  write_julian_lem : (k : ℕ) (x : ℤ) → (julian_results (write_julian t x k)).0 ≡ verdict (instant_tests t k x)
  unfolding write_julian
  write_julian_lem k x = refusing_map (λ a. (julian_results a).0) Err (of_instant k x) _ ∙ rw in_range_lem

  write_text_lem : (x : ℤ) (p k digits : ℕ) (buffer : List ℕ) → (written_results (write_text t x p k digits buffer)).0 ≡ verdict (write_text_tests t x p k digits buffer)
  write_text_lem x p k digits buffer =
      refusing_map (λ a. (written_results a).0) Err (room_last (write_tests t x p k digits) (text_at t x p k digits) buffer) (Ok (length (text_at t x p k digits)))
      ∙ past number (write_tests t x p k digits) (λ e. ap (λ (n : ℕ). cond (leb n (length buffer)) 0 1) (sized p digits (stamp_at t (scale_of k) x).reading (search (and_l, and_r, leb-true)) (search (and_l, and_r, leb-true))))
      ∙ rw in_range_lem

  read_julian_lem : (k : ℕ) (p : JulianDate) → (instant_results (read_julian t k p)).0 ≡ verdict (read_julian_tests t k p)
  unfolding read_julian
  read_julian_lem k p =
      refusing_map (λ a. (instant_results a).0) Err (scale_tests t k ++ read_tests (offsets_of t (scale_of k)) p) _
      ∙ rw (joined (is_half p.midnight) (is_fraction p.fraction))

  tick_the_clock : (l : Label) → (tick_results (tick t l)).0 ≡ verdict (tick_tests t l)
  unfolding tick
  tick_the_clock l =
      let asked : List (Bool × Refusal) = (accepted t, TABLE) ∷ label_tests (offset_at t) 60 (whole l) in
      refusing_map (λ a. (tick_results a).0) Err asked (next (month_length (month_of l)) (minute_length (offset_at t) l) l)
      ∙ past number asked (λ e. ap (λ a. (tick_results a).0) (sym (none_refused Err asked _ e)) ∙ ticks t (and_l (accepted t) _ e) l (and_r (accepted t) _ e))
      ∙ rw (joined (real_month l) (real_day l))

  given_exactly : GivenExactly t
  unfolding start
  given_exactly =
      record {
        read_text_lem = read_text_lem;
        read_no_picture = read_no_picture;
        write_text_lem = write_text_lem;
        instant_of_lem = instant_of_lem;
        stamp_of_lem = stamp_of_lem;
        write_julian_lem = write_julian_lem;
        read_julian_lem = read_julian_lem;
        write_block_lem = λ form buffer. refusing_map (λ a. (written_results a).0) Err (room_last (block_tests t) (block_in form t) buffer) (Ok (length (block_in form t)));
        write_kernel_lem = λ buffer. refusing_map (λ a. (written_results a).0) Err (room_last (kernel_tests t) (kernel_of t) buffer) (Ok (length (kernel_of t)));
        write_cards_lem = λ buffer. refusing_map (λ a. (written_results a).0) Err (room_last (card_tests t) (cards_of t) buffer) (Ok (length (cards_of t)));
        start_the_clock = refusing_map (λ a. (tick_results a).0) Err (start_tests t) (Ok (label 1972 1 1 0 0 0));
        tick_the_clock = tick_the_clock;
      }

pub orders : Orders
orders =
    record {
      read_text_lem = λ t k pictured f. refl;
      write_text_lem = λ t x p k digits buffer. refl;
      instant_of_lem = λ t k r. refl;
      stamp_of_lem = λ t k x. refl;
      write_julian_lem = λ t k x. refl;
      read_julian_lem = λ t k p. refl;
      write_block_lem = λ form t buffer. refl;
      write_kernel_lem = λ t buffer. refl;
      write_cards_lem = λ t buffer. refl;
      start_the_clock = λ t. refl;
      tick_the_clock = λ t l. refl;
    }

pub every_call : EveryCall
every_call = given_exactly
