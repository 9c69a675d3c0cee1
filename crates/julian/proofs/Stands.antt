-- What a pair is read as lies after its midnight by what the fraction is nearest to, be it of that day or the next midnight.
-- Assumes nothing.
use Rattle.std.proofs.Common.{◌≡◌, ℕ, ◌+◌, ◌≤◌, true, ℤ, pos, ◌+ℤ◌, sym, ap, ◌∙◌, ap₂, arith, ltb-false}
use Rattle.laws.proofs.Cases.{by_test, by_order}
use Rattle.leap.specs.declared.Table.{Table}
use Rattle.leap.specs.Leap.{accepted}
use Rattle.leap.proofs.Facts.{accepted_to}
use Rattle.labels.specs.declared.Reading.{Reading}
use Rattle.labels.specs.Labels.{Offsets}
use Rattle.labels.specs.Seconds.{day_count, micro_of_day, last_day}
use Rattle.labels.specs.Lengths.{day_micros}
use Rattle.labels.proofs.Admitted.{Admitted, admitted_to, admitted_from}
use Rattle.labels.proofs.Lengths.{day_range}
use Rattle.labels.proofs.Readings.{reading_on}
use Rattle.stamp.specs.declared.Scale.{Scale}
use Rattle.stamp.specs.Scales.{scale_of, offsets_of, most_second, instant_for}
use Rattle.stamp.specs.Back.{in_range}
use Rattle.stamp.specs.Days.{day_start, instant_after}
use Rattle.stamp.specs.Promise.{Reads}
use Rattle.stamp.proofs.Days.{instant_by_day, after_begin, next_begin, not_past}
use Rattle.stamp.proofs.Promise.{in_range_reads}
use Rattle.fraction.proofs.Fraction.{below_one, whole_most}
use Rattle.julian.specs.declared.JulianDate.{JulianDate}
use Rattle.julian.specs.Midnight.{day_number}
use Rattle.julian.specs.Dates.{nearest_in, same_day, day_read, micro_read}
use Rattle.julian.specs.Promise.{IsPair, Stands}
use Rattle.julian.proofs.Dates.{ReadOn, on_scale, day_years, read_same, read_next, read_less, read_since}

module _ (t : Table) (k : ℕ) (p : JulianDate) (fine : accepted t ≡ true) (i : IsPair p) where
  abbrev s : Scale
  s = scale_of k

  abbrev o : Offsets
  o = offsets_of t (scale_of k)

  abbrev d : ℕ
  d = day_number p.midnight

  -- no more than the day has
  few : nearest_in o p ≤ day_micros o d
  few = whole_most (day_micros o d) p.fraction (below_one p.fraction i.is_fraction_lem)

  -- the midnight of the pair, and what is read
  begins : ℤ
  begins = instant_after s (day_start o d) 0

  read_after : instant_after s (day_start o (day_read o p)) (micro_read o p) ≡ begins +ℤ pos (nearest_in o p)
  unfolding begins
  read_after =
      by_test (same_day o p)
      (λ e. let q = read_same o p e in ap₂ (λ (n u : ℕ). instant_after s (day_start o n) u) q.0 q.1 ∙ after_begin s (day_start o d) (nearest_in o p))
      (λ e.
      let q = read_next o p e in
      let whole : day_micros o d ≡ nearest_in o p = omega (arith, few, ltb-false (nearest_in o p) (day_micros o d) e) in
      ap₂ (λ (n u : ℕ). instant_after s (day_start o n) u) q.0 q.1 ∙ next_begin t (accepted_to t fine) s d ∙ ap (λ (n : ℕ). instant_after s (day_start o d) 0 +ℤ pos n) whole)

  -- the instant of a reading, by its day and its microsecond
  by_day : (r : Reading) → Admitted o (most_second s) r → (n u : ℕ) → day_count r.label ≡ n → micro_of_day r ≡ u → instant_for t s r ≡ instant_after s (day_start o n) u
  by_day r a n u e f = instant_by_day t s r a.exists.day_low a.exists.day_high ∙ ap₂ (λ (n u : ℕ). instant_after s (day_start o n) u) e f

  -- a microsecond of a day has a reading, which stands for its instant
  reads_on : (n u : ℕ) (q : (r : Reading) × Admitted o 60 r × (day_count r.label ≡ n) × (micro_of_day r ≡ u)) → Reads t s q.0 (instant_after s (day_start o n) u)
  reads_on n u q =
      let a = on_scale t fine s q.0 q.1 in
      record { is_admitted = admitted_from o (most_second s) q.0 a; instant_is = by_day q.0 a n u q.2 q.3 }

  module _ (x : ℤ) where
    pub stands_to : ReadOn t k p x → Stands t k p x
    unfolding begins
    stands_to g =
        let y = day_years p i.in_years_lem in
        let q = reading_on o d 0 y.0 y.1 (omega (arith, day_range o d)) in
        let a = admitted_to o (most_second s) g.reading g.reads.is_admitted in
        record {
          reading = g.reading;
          reads = g.reads;
          midnight = q.0;
          begins = begins;
          midnight_reads = reads_on d 0 q;
          its_day = q.2;
          its_beginning = q.3;
          after_it = sym g.reads.instant_is ∙ by_day g.reading a (day_read o p) (micro_read o p) g.day_is g.micro_is ∙ read_after;
        }

    pub stands_from : Stands t k p x → ReadOn t k p x
    unfolding begins
    stands_from g =
        let a = admitted_to o (most_second s) g.midnight g.midnight_reads.is_admitted in
        let begun : g.begins ≡ begins = sym g.midnight_reads.instant_is ∙ by_day g.midnight a d 0 g.its_day g.its_beginning in
        let there : instant_after s (day_start o (day_read o p)) (micro_read o p) ≡ x = read_after ∙ ap (λ (z : ℤ). z +ℤ pos (nearest_in o p)) (sym begun) ∙ sym g.after_it in
        let range : in_range t s x ≡ true = (in_range_reads t fine s x).1 (g.reading, g.reads) in
        let high = in_last_years there range in
        let q = reading_on o (day_read o p) (micro_read o p) (read_since o p i.in_years_lem) high (read_less o p) in
        let w = reads_on (day_read o p) (micro_read o p) q in
        record { reading = q.0; reads = record { is_admitted = w.is_admitted; instant_is = w.instant_is ∙ there }; day_is = q.2; micro_is = q.3 }
      where
        -- the midnight behind 9999 has no reading
        in_last_years : instant_after s (day_start o (day_read o p)) (micro_read o p) ≡ x → in_range t s x ≡ true → day_read o p ≤ last_day
        in_last_years e range =
            let y = day_years p i.in_years_lem in
            by_test (same_day o p)
            (λ b. omega (arith, (read_same o p b).0, y))
            (λ b.
            by_order d last_day
            (λ h. omega (arith, (read_next o p b).0))
            (λ h.
            let last : day_read o p ≡ last_day + 1 = omega (arith, (read_next o p b).0, y) in
            absurd (not_past t (accepted_to t fine) s (rw (sym (ap₂ (λ (n u : ℕ). instant_after s (day_start o n) u) last (read_next o p b).1) ∙ e) range))))
