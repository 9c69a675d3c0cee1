-- The marks of the calls, and that a month changes no answer.
-- Assumes nothing.
use mathlib.Core.Path.{◌≡◌, refl, sym, ap, ap₂, subst, ◌∙◌}
use mathlib.Core.Logic.{◌↔◌}
use mathlib.Core.Bool.{Bool, true, false, cond, ◌&&◌, true≢false}
use mathlib.Core.List.{List}
use Prim.Native.Nat.{ℕ, ◌≤◌}
use borrow.Author.Tests.{eqb-true}
use lib.Dec.{eqb, leb, ltb}
use lib.IntN.{ℤ, pos}
use lib.ListN.{length, take}
use Rattle.std.specs.Prelude.{Result, Ok, Err}
use Rattle.julian.specs.declared.JulianDate.{JulianDate}
use Rattle.answer.specs.declared.Refusal.{Refusal}
use Rattle.laws.specs.Tests.{eq_z, all_below, All}
use Rattle.laws.proofs.Cases.{pick}
use Rattle.answer.specs.Buffers.{written_results}
use Rattle.answer.specs.Marks.{marked as with_mark}
use Rattle.answer.proofs.Orders.{number_some}
use Rattle.months.specs.Months.{leap_year, month_length, days_before}
use Rattle.leap.specs.declared.Table.{Table}
use Rattle.leap.specs.Leap.{without_month, vouched_right, one_apart, place_right, accepted, last_begun, offset_in, beyond}
use Rattle.leap.specs.Entries.{table_of, FullLength, Good}
use Rattle.answer.specs.declared.Fault.{Fault}
use Rattle.leap.specs.Readers.{table_results}
use Rattle.leap.specs.Outcomes.{Outcome, entered, fault, table_read}
use Rattle.leap.proofs.Vouched.{vouched, without_month_lem}
use Rattle.leap.proofs.Entries.{entries_same}
use Rattle.labels.specs.declared.Label.{Label}
use Rattle.labels.specs.declared.Reading.{Reading}
use Rattle.labels.specs.Labels.{at, month_of, last_minute, minute_in, real_year, real_month, real_day, real_clock, has_second}
use Rattle.labels.specs.Seconds.{axis_at}
use Rattle.stamp.specs.declared.Scale.{Scale}
use Rattle.stamp.specs.declared.Scale.TheVariants.{Utc, Tai, Tdt, Gps}
use Rattle.stamp.specs.declared.Stamp.{Stamp}
use Rattle.stamp.specs.Scales.{scale_of, to_instant}
use Rattle.stamp.specs.Back.{stamp_at}
use Rattle.stamp.specs.Stamps.{instant_of, instant_results, stamp_of, stamp_results}
use Rattle.stamp.specs.Marks.{beyond_on, stamp_of_marked}
use Rattle.stamp.specs.Promise.{Reads, stamp}
use Rattle.stamp.proofs.Promise.{at_instant, at_stamp, stamp_given, stamp_reads, stamp_from, reads_stamp}
use Rattle.stamp.proofs.Cycles.{quick_instant_lem}
use Rattle.clock.specs.Clock.{start, tick, next, tick_results}
use Rattle.clock.specs.Marks.{marked_tick}
use Rattle.clock.proofs.Beside.{tick_beside}
use Rattle.block.specs.declared.Form.TheVariants.{Old}
use Rattle.block.specs.Reading.{in_block}
use Rattle.block.specs.Blocks.{block_of}
use Rattle.block.specs.Promise.{GivesTable as BlockGives}
use Rattle.block.proofs.Held.{Under, under_block}
use Rattle.block.proofs.Promise.{blocks}
use Rattle.automaton.specs.Run.{may_end, scan}
use Rattle.grammar.specs.Places.{limit}
use Rattle.kernel.specs.Reading.{verdict, read_kernel}
use Rattle.kernel.specs.Writing.{kernel_of}
use Rattle.kernel.specs.Promise.{GivesTable as KernelGives}
use Rattle.kernel.proofs.Promise.{kernels}
use Rattle.cards.proofs.Storing.{cards_same}
use Rattle.cards.specs.Card.{last_card_month}
use Rattle.cards.specs.Writing.{cards_of}
use Rattle.cards.specs.Promise.{GivesTable as CardsGive, InYears}
use Rattle.cards.proofs.Promise.{cards, no_month as cards_none}
use Rattle.pictures.specs.Reading.{read_fields}
use Rattle.text.specs.Text.{read_text, text_results, write_text}
use Rattle.text.specs.Marks.{marked_text}
use Rattle.text.proofs.Answers.{same_without_month}
use Rattle.text.proofs.Promise.{promised}
use Rattle.julian.specs.Dates.{write_julian, julian_results, read_julian}
use Rattle.julian.specs.Marks.{beyond_read}
use Rattle.julian.proofs.Dates.{read_given}
use Rattle.julian.proofs.Marks.{month_read}
use Rattle.promises.specs.Vouched.{Beside, Beyond, BeyondAt, Marked, SameAnswers, until2017, VouchedDesk, RequestA2}
use Rattle.promises.proofs.Orders.{every_call}

-- ---- a mark is set beside an answer that is given, where it was asked for

instant_mark : (a : Result ℤ Refusal) (b : Bool) → ((with_mark a b).beyond ≡ true) ↔ ((x : ℤ) × ((instant_results a ≡ (0, x)) × (b ≡ true)))
instant_mark (Ok x) b = (λ e. (x, (refl, e)), λ w. w.1.1)
instant_mark (Err why) b = (λ e. absurd (true≢false (sym e)), λ w. absurd (number_some why (ap (λ v. v.0) w.1.0)))

stamp_mark : (a : Result Stamp Refusal) (b : Bool) → ((with_mark a b).beyond ≡ true) ↔ ((z : Stamp) × ((stamp_results a ≡ (0, z)) × (b ≡ true)))
stamp_mark (Ok z) b = (λ e. (z, (refl, e)), λ w. w.1.1)
stamp_mark (Err why) b = (λ e. absurd (true≢false (sym e)), λ w. absurd (number_some why (ap (λ v. v.0) w.1.0)))

text_mark : (a : Result (ℤ × Stamp) Refusal) (v : ℕ) → ((marked_text v a).beyond ≡ true) ↔ ((x : ℤ) × (z : Stamp) × ((text_results a ≡ (0, x, z)) × (beyond_on v z.scale (month_of z.reading.label) ≡ true)))
text_mark (Ok (x, z)) v = (λ e. (x, z, (refl, e)), λ w. subst (λ (y : Stamp). beyond_on v y.scale (month_of y.reading.label) ≡ true) (sym (ap (λ a. a.2) w.2.0)) w.2.1)
text_mark (Err why) v = (λ e. absurd (true≢false (sym e)), λ w. absurd (number_some why (ap (λ v. v.0) w.2.0)))

written_mark : (a : Result ℕ Refusal) (b : Bool) → ((with_mark a b).beyond ≡ true) ↔ (((written_results a).0 ≡ 0) × (b ≡ true))
written_mark (Ok n) b = (λ e. (refl, e), λ w. w.1)
written_mark (Err why) b = (λ e. absurd (true≢false (sym e)), λ w. absurd (number_some why w.0))

pair_mark : (a : Result JulianDate Refusal) (b : Bool) → ((with_mark a b).beyond ≡ true) ↔ (((julian_results a).0 ≡ 0) × (b ≡ true))
pair_mark (Ok p) b = (λ e. (refl, e), λ w. w.1)
pair_mark (Err why) b = (λ e. absurd (true≢false (sym e)), λ w. absurd (number_some why w.0))

tick_mark : (a : Result Label Refusal) (v : ℕ) → ((marked_tick v a).beyond ≡ true) ↔ ((l : Label) × ((tick_results a ≡ (0, l)) × (beyond v (month_of l) ≡ true)))
tick_mark (Ok l) v = (λ e. (l, (refl, e)), λ w. subst (λ (k : Label). beyond v (month_of k) ≡ true) (sym (ap (λ a. a.1) w.1.0)) w.1.1)
tick_mark (Err why) v = (λ e. absurd (true≢false (sym e)), λ w. absurd (number_some why (ap (λ v. v.0) w.1.0)))

-- ---- on UTC alone

on_utc : (v k m : ℕ) → beyond_on v (scale_of k) m ≡ true → (k ≡ 0) × (beyond v m ≡ true)
on_utc v k m e = go (eqb k 0) (eqb k 1) (eqb k 2) refl e
  where
    go : (a b c : Bool) → eqb k 0 ≡ a → beyond_on v (cond a Utc (cond b Tai (cond c Tdt Gps))) m ≡ true → (k ≡ 0) × (beyond v m ≡ true)
    go true b c p e = (eqb-true k 0 p, e)
    go false true c p e = absurd (true≢false (sym e))
    go false false true p e = absurd (true≢false (sym e))
    go false false false p e = absurd (true≢false (sym e))

utc : {k : ℕ} → k ≡ 0 → scale_of k ≡ Utc
utc e = rw e refl

module _ (t : Table) where
  label_to : (k : ℕ) (l : Label) → beyond_on t.vouched (scale_of k) (month_of l) ≡ true → (k ≡ 0) × Beyond t l
  label_to k l e = let u = on_utc t.vouched k (month_of l) e in (u.0, (vouched.beyond_exactly t.vouched (month_of l)).0 u.1)

  label_from : {k : ℕ} (l : Label) → k ≡ 0 → Beyond t l → beyond_on t.vouched (scale_of k) (month_of l) ≡ true
  label_from l z b = subst (λ (s : Scale). beyond_on t.vouched s (month_of l) ≡ true) (sym (utc z)) ((vouched.beyond_exactly t.vouched (month_of l)).1 b)

  -- the label of an instant that has one
  module _ (good : accepted t ≡ true) (k : ℕ) (r : Reading) (x : ℤ) (reads : Reads t (scale_of k) r x) where
    same : (stamp_at t (scale_of k) x).reading ≡ r
    same = ap (λ (z : Stamp). z.reading) (reads_stamp t good (scale_of k) r x reads)

    instant_to : beyond_on t.vouched (scale_of k) (month_of r.label) ≡ true → (k ≡ 0) × BeyondAt t x
    instant_to e = let u = label_to k r.label e in (u.0, (r, (subst (λ (s : Scale). Reads t s r x) (utc u.0) reads, u.1)))

    instant_from : k ≡ 0 → BeyondAt t x → beyond_on t.vouched (scale_of k) (month_of r.label) ≡ true
    instant_from z b =
        let other = reads_stamp t good (scale_of k) b.0 x (subst (λ (s : Scale). Reads t s b.0 x) (sym (utc z)) b.1.0) in
        let one : b.0 ≡ r = sym (ap (λ (y : Stamp). y.reading) other) ∙ same in
        label_from r.label z (subst (λ (y : Reading). Beyond t y.label) one b.1.1)

    at_to : beyond_on t.vouched (scale_of k) (month_of (stamp_at t (scale_of k) x).reading.label) ≡ true → (k ≡ 0) × BeyondAt t x
    at_to e = instant_to (subst (λ (y : Reading). beyond_on t.vouched (scale_of k) (month_of y.label) ≡ true) same e)

    at_from : k ≡ 0 → BeyondAt t x → beyond_on t.vouched (scale_of k) (month_of (stamp_at t (scale_of k) x).reading.label) ≡ true
    at_from z b = subst (λ (y : Reading). beyond_on t.vouched (scale_of k) (month_of y.label) ≡ true) (sym same) (instant_from z b)

  -- ---- the calls

  stamp_marked : (x : ℤ) (k : ℕ) → ((stamp_of_marked t x k).beyond ≡ true) ↔ ((z : Stamp) × ((stamp_results (stamp_of t x k) ≡ (0, z)) × (k ≡ 0) × Beyond t z.reading.label))
  stamp_marked x k =
      let i = stamp_mark (stamp_of t x k) (beyond_on t.vouched (scale_of k) (month_of (stamp_at t (scale_of k) x).reading.label)) in (
        λ e.
            let w = i.0 e in
            let g = (stamp_given t k x w.0 (at_stamp _ w.0 w.1.0)).1.1.1 in
            let u = label_to k w.0.reading.label (subst (λ (z : Stamp). beyond_on t.vouched (scale_of k) (month_of z.reading.label) ≡ true) g w.1.1) in
            (w.0, (w.1.0, u.0, u.1)),
        λ w.
            let g = (stamp_given t k x w.0 (at_stamp _ w.0 w.1.0)).1.1.1 in
            i.1 (w.0, (w.1.0, subst (λ (z : Stamp). beyond_on t.vouched (scale_of k) (month_of z.reading.label) ≡ true) (sym g) (label_from w.0.reading.label w.1.1 w.1.2))),
      )

  text_marked : (k : ℕ) (text : List ℕ) → ((marked_text t.vouched (read_text t k text)).beyond ≡ true) ↔ ((x : ℤ) × (z : Stamp) × ((text_results (read_text t k text) ≡ (0, x, z)) × (k ≡ 0) × Beyond t z.reading.label))
  text_marked k text =
      let i = text_mark (read_text t k text) t.vouched in
      let on : (x : ℤ) (z : Stamp) → text_results (read_text t k text) ≡ (0, x, z) → z.scale ≡ scale_of k = λ x z e. ((((promised t k).read text).success x z).0 e).0 in (
        λ e.
            let w = i.0 e in
            let u = label_to k w.1.reading.label (subst (λ (s : Scale). beyond_on t.vouched s (month_of w.1.reading.label) ≡ true) (on w.0 w.1 w.2.0) w.2.1) in
            (w.0, w.1, (w.2.0, u.0, u.1)),
        λ w. i.1 (w.0, w.1, (w.2.0, subst (λ (s : Scale). beyond_on t.vouched s (month_of w.1.reading.label) ≡ true) (sym (on w.0 w.1 w.2.0)) (label_from w.1.reading.label w.2.1 w.2.2))),
      )

  -- a Julian pair is written exactly where a stamp is given
  pair_reads : (x : ℤ) (k : ℕ) → (julian_results (write_julian t x k)).0 ≡ 0 → (accepted t ≡ true) × ((r : Reading) × Reads t (scale_of k) r x)
  pair_reads x k e = go (stamp_of t x k) refl ((every_call t).stamp_of_lem k x ∙ sym ((every_call t).write_julian_lem k x) ∙ e)
    where
      go : (a : Result Stamp Refusal) → stamp_of t x k ≡ a → (stamp_results a).0 ≡ 0 → (accepted t ≡ true) × ((r : Reading) × Reads t (scale_of k) r x)
      go (Ok z) p e = ((stamp_given t k x z p).1.0, (z.reading, (stamp_reads t k x z p).1))
      go (Err why) p e = absurd (number_some why e)

  pub marked : Marked t
  marked =
      record {
        instant_of_lem = λ k r.
            let i = instant_mark (instant_of t k r) (beyond_on t.vouched (scale_of k) (month_of r.label)) in
            (λ e. let w = i.0 e in let u = label_to k r.label w.1.1 in (w.0, (w.1.0, u.0, u.1)), λ w. i.1 (w.0, (w.1.0, label_from r.label w.1.1 w.1.2)));
        stamp_of_lem = stamp_marked;
        read_text_lem = text_marked;
        write_text_lem = λ x p k digits buffer.
            let i = written_mark (write_text t x p k digits buffer) (beyond_on t.vouched (scale_of k) (month_of (stamp_at t (scale_of k) x).reading.label)) in
            let given = ((promised t k).written x p digits buffer).success in (
              λ e.
                  let w = i.0 e in
                  let g = given.0 w.0 in
                  let u = at_to g.0.a_table k g.1.0 x g.1.1 w.1 in
                  (w.0, u.0, u.1),
              λ w. let g = given.0 w.0 in i.1 (w.0, at_from g.0.a_table k g.1.0 x g.1.1 w.1 w.2),
            );
        write_julian_lem = λ x k.
            let i = pair_mark (write_julian t x k) (beyond_on t.vouched (scale_of k) (month_of (stamp_at t (scale_of k) x).reading.label)) in (
              λ e. let w = i.0 e in let g = pair_reads x k w.0 in let u = at_to g.0 k g.1.0 x g.1.1 w.1 in (w.0, u.0, u.1),
              λ w. let g = pair_reads x k w.0 in i.1 (w.0, at_from g.0 k g.1.0 x g.1.1 w.1 w.2),
            );
        read_julian_lem = λ k p.
            let mark : ℕ → Type 0 = λ m. beyond_on t.vouched (scale_of k) m ≡ true in
            let i = instant_mark (read_julian t k p) (beyond_read t (scale_of k) p) in (
              λ e.
                  let w = i.0 e in
                  let g = read_given t k p w.0 (at_instant _ w.0 w.1.0) in
                  let s = g.3 in
                  let u = instant_to g.1 k s.reading w.0 s.reads (subst mark (sym (month_read t k p w.0 s)) w.1.1) in
                  (w.0, (w.1.0, u.0, u.1)),
              λ w.
                  let g = read_given t k p w.0 (at_instant _ w.0 w.1.0) in
                  let s = g.3 in
                  i.1 (w.0, (w.1.0, subst mark (month_read t k p w.0 s) (instant_from g.1 k s.reading w.0 s.reads w.1.1 w.1.2))),
            );
        clock_starts = clock (start t);
        clock_ticks = λ l. clock (tick t l);
      }
    where
      clock : (a : Result Label Refusal) → ((marked_tick t.vouched a).beyond ≡ true) ↔ ((l : Label) × ((tick_results a ≡ (0, l)) × Beyond t l))
      clock a =
          let i = tick_mark a t.vouched in
          (λ e. let w = i.0 e in (w.0, (w.1.0, (vouched.beyond_exactly _ _).0 w.1.1)), λ w. i.1 (w.0, (w.1.0, (vouched.beyond_exactly _ _).1 w.1.1)))

  -- ---- the same answers

  module _ (good : accepted t ≡ true) where
    -- the table passes with its month and without it
    passes : accepted t ≡ accepted (without_month t)
    passes = good ∙ sym (without_month_lem t t.vouched good)

    pub same_answers : SameAnswers t
    unfolding instant_of stamp_of read_text write_julian read_julian start tick
    same_answers =
        record {
          instant_of_lem = λ k r. rw passes refl;
          stamp_of_lem = λ x k. rw passes refl;
          read_text_lem = λ k text. rw (passes, sym (same_without_month t (scale_of k) (read_fields text))) refl;
          write_text_lem = λ x p k digits buffer. (rw passes refl, rw passes refl);
          write_julian_lem = λ x k. rw passes refl;
          read_julian_lem = λ k p. rw passes refl;
          clock_starts = rw passes refl;
          clock_ticks = λ l. rw passes refl;
          write_block_lem = λ buffer. (rw (passes, sym (blocks.drops_the_month 0 t)) refl, rw (passes, sym (blocks.drops_the_month 0 t)) refl);
          write_kernel_lem = λ buffer. (rw (passes, sym (kernels.drops_the_month 0 t)) refl, rw (passes, sym (kernels.drops_the_month 0 t)) refl);
          write_cards_lem = λ buffer. (rw (passes, sym (cards_same 0 t), sym (entries_same 0 t)) refl, rw (passes, sym (cards_same 0 t), sym (entries_same 0 t)) refl);
        }

-- ---- what is read has no month

abbrev NoMonth : Result Table Fault → Type 0
NoMonth r = (table_results r).2.vouched ≡ 0

block_none : (o : Outcome) → Under 0 o → NoMonth (table_read o)
block_none (entered v es) h = h
block_none (fault why at) h = refl

kernel_none : (s : List ℕ) → NoMonth (read_kernel s)
unfolding table_of read_kernel
kernel_none s =
    pick NoMonth (leb (length s) limit) (λ e. either true s) (λ e. either false (take limit s))
  where
    either : (whole : Bool) (s : List ℕ) → NoMonth (verdict whole s)
    either whole s =
        let t = table_of (scan s).pairs in
        pick NoMonth (may_end (scan s).mode && (whole && ltb 0 t.count)) (λ e. pick NoMonth (accepted t) (λ e. refl) (λ e. refl)) (λ e. refl)

-- ---- the rows

good : accepted until2017 ≡ true
unfolding eq_z all_below one_apart place_right vouched_right accepted
good = refl

row : (k : ℕ) (r : Reading) (x : ℤ) → leb k 3 ≡ true → Reads until2017 (scale_of k) r x
    → stamp_of_marked until2017 x k ≡ with_mark (Ok (stamp (scale_of k) r)) (beyond_on 541 (scale_of k) (month_of r.label))
row k r x known reads =
    ap₂ (λ (a : Result Stamp Refusal) (y : Reading). with_mark a (beyond_on 541 (scale_of k) (month_of y.label))) (stamp_from until2017 k known good r x reads) (same until2017 good k r x reads)

on_utc_last : Reads until2017 Utc (at 2017 1 31 23 59 59 999999) (pos 539179236999999)
unfolding leap_year month_length days_before last_begun offset_in last_minute minute_in real_year real_month real_day real_clock has_second to_instant axis_at
on_utc_last = record { is_admitted = refl; instant_is = quick_instant_lem until2017 Utc (at 2017 1 31 23 59 59 999999) ∙ refl }

on_utc_first : Reads until2017 Utc (at 2017 2 1 0 0 0 0) (pos 539179237000000)
unfolding leap_year month_length days_before last_begun offset_in last_minute minute_in real_year real_month real_day real_clock has_second to_instant axis_at
on_utc_first = record { is_admitted = refl; instant_is = quick_instant_lem until2017 Utc (at 2017 2 1 0 0 0 0) ∙ refl }

on_tai_first : Reads until2017 Tai (at 2017 2 1 0 0 37 0) (pos 539179237000000)
unfolding leap_year month_length days_before last_minute minute_in real_year real_month real_day real_clock has_second to_instant axis_at
on_tai_first = record { is_admitted = refl; instant_is = quick_instant_lem until2017 Tai (at 2017 2 1 0 0 37 0) ∙ refl }

desk : VouchedDesk
unfolding eq_z all_below one_apart place_right vouched_right accepted leap_year month_length last_begun offset_in beyond last_minute minute_in real_year real_month real_day real_clock has_second next tick stamp_of
desk =
    record {
      last_microsecond = row 0 (at 2017 1 31 23 59 59 999999) (pos 539179236999999) refl on_utc_last;
      first_midnight_lem = row 0 (at 2017 2 1 0 0 0 0) (pos 539179237000000) refl on_utc_first;
      on_tai = row 1 (at 2017 2 1 0 0 37 0) (pos 539179237000000) refl on_tai_first;
      new_label = refl;
      month_too_early = refl;
      scale_comes_first = refl;
    }

-- ---- what is written for a table with a month

module _ (t : Table) (ok : accepted t ≡ true) (full : FullLength t) where
  unvouched_good : Good (without_month t)
  unvouched_good = record { is_accepted = without_month_lem t t.vouched ok; no_month = refl; months_long = full.0; offsets_long = full.1 }

  block_back : BlockGives Old (block_of t) (without_month t)
  block_back = subst (λ s. BlockGives Old s (without_month t)) (blocks.drops_the_month 0 t) (((blocks.one_to_one Old).gives_the_table_of_the_block (block_of (without_month t)) (without_month t)).1 (record { is_accepted = unvouched_good.is_accepted; full_length = full; month_fits = refl }, refl)).1

  kernel_back : KernelGives (kernel_of t) (without_month t)
  kernel_back = subst (λ s. KernelGives s (without_month t)) (kernels.drops_the_month 0 t) (kernels.reads_back (without_month t) unvouched_good)

  cards_back : InYears t → CardsGive (cards_of t) (without_month t)
  cards_back y = subst (λ s. CardsGive s (without_month t)) (cards_same 0 t) (cards.reads_back (without_month t) unvouched_good (subst (All (λ e. e.0 ≤ last_card_month)) (sym (entries_same 0 t)) y))

beside : (t : Table) → Beside t
beside t =
    record {
      instant_of_lem = λ k r. refl;
      stamp_of_lem = λ x k. refl;
      read_text_lem = λ k text. refl;
      write_text_lem = λ x p k digits buffer. refl;
      write_julian_lem = λ x k. refl;
      read_julian_lem = λ k p. refl;
      clock_starts = refl;
      clock_ticks = tick_beside t;
    }

pub request_a2 : RequestA2
request_a2 =
    record {
      months = vouched;
      answers_beside = beside;
      marks = marked;
      same_answers = same_answers;
      block_reads_back = block_back;
      kernel_reads_back = kernel_back;
      cards_read_back = cards_back;
      none_in_a_block = λ s. block_none (in_block 0 0 s) (under_block 0 0 s);
      none_in_a_kernel = kernel_none;
      none_in_cards = cards_none;
      rows = desk;
    }
