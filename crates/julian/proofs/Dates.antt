-- The pair that is written for an instant, and what a pair is read as, each with the reading that stands for the instant.
-- Assumes nothing.
use Rattle.std.specs.Prelude.{Result, Ok, Err}
use Rattle.std.proofs.Common.{◌≡◌, ℕ, ◌+◌, ◌<◌, ◌≤◌, true, false, T, leb, [], ◌∷◌, ◌++◌, ℤ, sym, refl, ap, ◌∙◌, subst, ap₂, arith, ltb-true, lt-ltb, le-leb, leb-true}
use Rattle.laws.proofs.Branches.{cond_yes, cond_rest}
use Rattle.laws.proofs.Cases.{by_test, and_l, and_r, join}
use Rattle.answer.specs.declared.Refusal.{Refusal}
use Rattle.answer.specs.declared.Refusal.TheVariants.{Range as RANGE}
use Rattle.answer.proofs.Orders.{none_refused, number_some}
use Rattle.leap.specs.declared.Table.{Table}
use Rattle.leap.specs.Leap.{accepted}
use Rattle.leap.proofs.Facts.{accepted_to}
use Rattle.labels.specs.declared.Reading.{Reading}
use Rattle.labels.specs.Labels.{Offsets}
use Rattle.labels.specs.Seconds.{day_count, micro_of_day, first_day, last_day}
use Rattle.labels.specs.Lengths.{day_micros}
use Rattle.labels.proofs.Admitted.{Admitted, admitted_to, admitted_from, admitted_again}
use Rattle.labels.proofs.Lengths.{day_range}
use Rattle.labels.proofs.Readings.{micro_less, day_between, reading_on}
use Rattle.stamp.specs.declared.Scale.{Scale}
use Rattle.stamp.specs.declared.Stamp.{Stamp}
use Rattle.stamp.specs.Scales.{scale_of, known_scale, scale_tests, offsets_of, most_second, instant_for}
use Rattle.stamp.specs.Back.{in_range, stamp_at}
use Rattle.stamp.specs.Days.{day_start, instant_after}
use Rattle.stamp.specs.Promise.{Reads}
use Rattle.stamp.proofs.First.{was_given, same_given}
use Rattle.stamp.proofs.Scales.{most_sixty, most_of}
use Rattle.stamp.proofs.Days.{instant_by_day}
use Rattle.stamp.proofs.Promise.{back_reads, in_range_reads, reads_stamp}
use Rattle.fraction.specs.Fraction.{nearest_of}
use Rattle.fraction.specs.Promise.{Parts}
use Rattle.fraction.proofs.Promise.{parts}
use Rattle.julian.specs.declared.JulianDate.{JulianDate}
use Rattle.julian.specs.Midnight.{midnight_in_years, day_number}
use Rattle.julian.specs.Dates.{pair_of, write_julian, julian_results, nearest_in, same_day, day_read, micro_read, read_tests, read_julian}
use Rattle.julian.specs.Promise.{IsPair}
use Rattle.julian.proofs.Years.{years}
use Rattle.julian.proofs.Midnight.{midnight_fine, day_back, years_fine}

-- ---- an instant with its pair

-- from an answer's numbers back to the answer
pub at_pair : (a : Result JulianDate Refusal) (p : JulianDate) → julian_results a ≡ (0, p) → a ≡ Ok p
at_pair (Ok q) p e = ap (λ v. Ok v.1) e
at_pair (Err why) p e = absurd (number_some why (ap (λ v. v.0) e))

-- what a pair that was written says, by a reading that stands for the instant
pub record Given (t : Table) (k : ℕ) (x : ℤ) (p : JulianDate) (r : Reading) : Type 0 where
  pub known : known_scale k ≡ true
  pub fine : accepted t ≡ true
  pub reads : Reads t (scale_of k) r x
  pub pair_is : pair_of (offsets_of t (scale_of k)) r ≡ p

pub write_given : (t : Table) (k : ℕ) (x : ℤ) (p : JulianDate) → write_julian t x k ≡ Ok p → (r : Reading) × Given t k x p r
unfolding write_julian
write_given t k x p e =
    let g = was_given (scale_tests t k ++ (in_range t (scale_of k) x, RANGE) ∷ []) p e in
    let all = g.0 in
    let known : known_scale k ≡ true = search (and_l) in
    let fine : accepted t ≡ true = search (and_l, and_r) in
    let range : in_range t (scale_of k) x ≡ true = search (and_l, and_r) in
    ((stamp_at t (scale_of k) x).reading, record { known = known; fine = fine; reads = back_reads t (accepted_to t fine) (scale_of k) x range; pair_is = same_given g.1 })

-- an instant that a reading stands for is written as the pair of the reading
pub write_from : (t : Table) (k : ℕ) → known_scale k ≡ true → accepted t ≡ true → (r : Reading) (x : ℤ) → Reads t (scale_of k) r x → write_julian t x k ≡ Ok (pair_of (offsets_of t (scale_of k)) r)
unfolding write_julian
write_from t k known fine r x b =
    none_refused Err (scale_tests t k ++ (in_range t (scale_of k) x, RANGE) ∷ []) _ (join known (join fine (join ((in_range_reads t fine (scale_of k) x).1 (r, b)) refl)))
    ∙ ap (λ (z : Stamp). Ok (pair_of (offsets_of t (scale_of k)) z.reading)) (reads_stamp t fine (scale_of k) r x b)

-- whichever reading it is
pub given_by : (t : Table) (k : ℕ) (x : ℤ) (p : JulianDate) → write_julian t x k ≡ Ok p → (r : Reading) → Reads t (scale_of k) r x → Given t k x p r
given_by t k x p e r b =
    let g = (write_given t k x p e).1 in
    record { known = g.known; fine = g.fine; reads = b; pair_is = same_given (sym (write_from t k g.known g.fine r x b) ∙ e) }

-- a reading that exists with a second up to 60 is one of the scale's own
pub on_scale : (t : Table) → accepted t ≡ true → (s : Scale) (r : Reading) → Admitted (offsets_of t s) 60 r → Admitted (offsets_of t s) (most_second s) r
on_scale t fine s r a = admitted_again (offsets_of t s) 60 r a (most_second s) r.micro (most_of t (accepted_to t fine) s r.label a.exists) a.on_clock.micro_high

-- ---- the day and the microsecond that a pair is read as

-- each day is a whole that a double has parts of
pub day_parts : (o : Offsets) (d : ℕ) → Parts (day_micros o d)
day_parts o d = parts (day_micros o d) (omega (arith, day_range o d))

-- a midnight of these years has a day of them
pub day_years : (p : JulianDate) → midnight_in_years p.midnight ≡ true → (first_day ≤ day_number p.midnight) × (day_number p.midnight ≤ last_day)
unfolding day_number
day_years p y = omega (arith, (years p.midnight (subst T (sym y) tt)).range)

module _ (o : Offsets) (p : JulianDate) where
  pub read_same : same_day o p ≡ true → (day_read o p ≡ day_number p.midnight) × (micro_read o p ≡ nearest_in o p)
  unfolding day_read micro_read
  read_same e = (sym (cond_yes _ e refl), sym (cond_yes _ e refl))

  pub read_next : same_day o p ≡ false → (day_read o p ≡ day_number p.midnight + 1) × (micro_read o p ≡ 0)
  unfolding day_read micro_read
  read_next e = (sym (cond_rest _ e refl), sym (cond_rest _ e refl))

  -- it is one of the day's
  pub read_less : micro_read o p < day_micros o (day_read o p)
  read_less =
      by_test (same_day o p)
      (λ e. let q = read_same e in omega (arith, q.1, ap (day_micros o) q.0, ltb-true (nearest_in o p) (day_micros o (day_number p.midnight)) e))
      (λ e. omega (arith, (read_next e).1, day_range o (day_read o p)))

  pub read_since : midnight_in_years p.midnight ≡ true → first_day ≤ day_read o p
  read_since y = by_test (same_day o p) (λ e. omega (arith, (read_same e).0, day_years p y)) (λ e. omega (arith, (read_next e).0, day_years p y))

-- ---- a reading's own pair

module _ (t : Table) (k : ℕ) (r : Reading) where
  abbrev o : Offsets
  o = offsets_of t (scale_of k)

  abbrev d : ℕ
  d = day_count r.label

  module _ (a : Admitted o (most_second (scale_of k)) r) where
    pub in_days : (first_day ≤ day_count r.label) × (day_count r.label ≤ last_day)
    in_days = day_between o (most_second (scale_of k)) (most_sixty (scale_of k)).1 r a

    pub in_its_day : micro_of_day r < day_micros (offsets_of t (scale_of k)) (day_count r.label)
    in_its_day = micro_less o (most_second (scale_of k)) (most_sixty (scale_of k)).1 r a

    pair_fine : IsPair (pair_of (offsets_of t (scale_of k)) r)
    pair_fine =
        record {
          is_midnight = midnight_fine d in_days.0 in_days.1;
          is_fraction_lem = (day_parts o d).fraction (micro_of_day r) in_its_day;
          in_years_lem = years_fine d in_days.0 in_days.1;
        }

    day_same : day_number (pair_of o r).midnight ≡ d
    day_same = day_back d in_days.0 in_days.1

    micro_same : nearest_in o (pair_of o r) ≡ micro_of_day r
    micro_same = ap (λ (n : ℕ). nearest_of (day_micros o n) (pair_of o r).fraction) day_same ∙ (day_parts o d).comes_back (micro_of_day r) in_its_day

    -- is read as its day and its microsecond
    pair_read : (day_count r.label ≡ day_read (offsets_of t (scale_of k)) (pair_of (offsets_of t (scale_of k)) r)) × (micro_of_day r ≡ micro_read (offsets_of t (scale_of k)) (pair_of (offsets_of t (scale_of k)) r))
    pair_read =
        let p = pair_of o r in
        let q = read_same o p (lt-ltb (nearest_in o p) (day_micros o (day_number p.midnight)) (omega (arith, micro_same, in_its_day, ap (day_micros o) day_same))) in
        (sym (q.0 ∙ day_same), sym (q.1 ∙ micro_same))

-- ---- what a pair is read as

-- the instant x is that of a reading on the day and with the microsecond that the pair is read as
pub record ReadOn (t : Table) (k : ℕ) (p : JulianDate) (x : ℤ) : Type 0 where
  pub reading : Reading
  pub reads : Reads t (scale_of k) reading x
  pub day_is : day_count reading.label ≡ day_read (offsets_of t (scale_of k)) p
  pub micro_is : micro_of_day reading ≡ micro_read (offsets_of t (scale_of k)) p

module _ (t : Table) (k : ℕ) (p : JulianDate) (x : ℤ) where
  abbrev o' : Offsets
  o' = offsets_of t (scale_of k)

  instant : ℤ
  instant = instant_after (scale_of k) (day_start o' (day_read o' p)) (micro_read o' p)

  -- the instant of a reading with that day and that microsecond
  by_day : (r : Reading) → Admitted o' (most_second (scale_of k)) r → day_count r.label ≡ day_read o' p → micro_of_day r ≡ micro_read o' p → instant_for t (scale_of k) r ≡ instant
  unfolding instant
  by_day r a e f =
      instant_by_day t (scale_of k) r a.exists.day_low a.exists.day_high ∙ ap₂ (λ (n u : ℕ). instant_after (scale_of k) (day_start o' n) u) e f

  pub read_given : read_julian t k p ≡ Ok x → (known_scale k ≡ true) × (accepted t ≡ true) × IsPair p × ReadOn t k p x
  unfolding read_julian instant
  read_given e =
      let g = was_given (scale_tests t k ++ read_tests o' p) x e in
      let all = g.0 in
      let fine : accepted t ≡ true = search (and_l, and_r) in
      let years : midnight_in_years p.midnight ≡ true = search (and_l, and_r) in
      let range : leb (day_read o' p) last_day ≡ true = search (and_l, and_r) in
      let found = reading_on o' (day_read o' p) (micro_read o' p) (read_since o' p years) (leb-true (day_read o' p) last_day range) (read_less o' p) in
      let r = found.0 in
      let s = found.1 in
      let a = on_scale t fine (scale_of k) r s in (
        search (and_l),
        fine,
        record { is_midnight = search (and_l, and_r); is_fraction_lem = search (and_l, and_r); in_years_lem = years },
        record {
          reading = r;
          reads = record { is_admitted = admitted_from o' (most_second (scale_of k)) r a; instant_is = by_day r a found.2 found.3 ∙ same_given g.1 };
          day_is = found.2;
          micro_is = found.3;
        },
      )

  pub read_from : known_scale k ≡ true → accepted t ≡ true → IsPair p → ReadOn t k p x → read_julian t k p ≡ Ok x
  unfolding read_julian instant
  read_from known fine i s =
      let r = s.reading in
      let a = admitted_to o' (most_second (scale_of k)) r s.reads.is_admitted in
      none_refused Err (scale_tests t k ++ read_tests o' p) _
      (join known (join fine (join i.is_midnight (join i.is_fraction_lem (join i.in_years_lem (join (le-leb (day_read o' p) last_day (omega (arith, in_days t k r a, s.day_is))) refl))))))
      ∙ ap Ok (sym (by_day r a s.day_is s.micro_is) ∙ s.reads.instant_is)

-- a reading's own pair is read as its instant
pub own_back : (t : Table) (k : ℕ) (x : ℤ) (p : JulianDate) (r : Reading) → Given t k x p r → read_julian t k p ≡ Ok x
own_back t k x p r g =
    let o = offsets_of t (scale_of k) in
    let a = admitted_to o (most_second (scale_of k)) r g.reads.is_admitted in
    let q = pair_read t k r a in
    subst (λ (v : JulianDate). read_julian t k v ≡ Ok x) g.pair_is
    (read_from t k (pair_of o r) x g.known g.fine (pair_fine t k r a) (record { reading = r; reads = g.reads; day_is = q.0; micro_is = q.1 }))
