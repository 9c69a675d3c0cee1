-- The promise of Julian dates is kept.
-- Assumes nothing.
use Rattle.std.proofs.Common.{◌≡◌, ℕ, Bool, true, false, leb, [], ◌∷◌, ℤ, pos, sym, refl, ap, ◌∙◌, subst, arith, le-leb, leb-true}
use lib.Ieee.{Float, fin, le, lt}
use Rattle.std.specs.Prelude.{Ok, Err}
use Rattle.answer.specs.declared.Refusal.TheVariants.{Ask as ASK, Table as TABLE, Number as NUMBER, Range as RANGE}
use Rattle.answer.specs.Refusals.{refusing}
use Rattle.leap.specs.declared.Table.{Table}
use Rattle.leap.specs.Leap.{accepted}
use Rattle.labels.specs.declared.Reading.{Reading}
use Rattle.labels.specs.Seconds.{day_count, micro_of_day, last_day}
use Rattle.labels.specs.Lengths.{day_micros}
use Rattle.labels.proofs.Admitted.{Admitted, admitted_to}
use Rattle.stamp.specs.Scales.{scale_of, known_scale, most_second}
use Rattle.stamp.specs.Stamps.{instant_results}
use Rattle.stamp.proofs.Promise.{at_instant}
use Rattle.fraction.specs.Fraction.{is_fraction, is_half, nearest_of}
use Rattle.julian.specs.declared.JulianDate.{JulianDate}
use Rattle.julian.specs.Midnight.{midnight_in_years, day_number}
use Rattle.julian.specs.Dates.{julian_results, day_read, micro_read, read_julian}
use Rattle.julian.specs.Promise.{Writes, ReadAs, ReadRefused, offsets_on, Near, Pairs}
use Rattle.julian.proofs.Midnight.{midnight_value}
use Rattle.julian.proofs.Dates.{at_pair, Given, write_given, write_from, given_by, day_parts, in_days, in_its_day, read_given, read_from, own_back}
use Rattle.julian.proofs.Stands.{stands_to, stands_from}
use Rattle.julian.proofs.Uniform.{pair_even, stands_even, even_stands}

near : (t : Table) (k : ℕ) (x : ℤ) (p : JulianDate) (r : Reading) → Given t k x p r → Near p (day_count r.label) (micro_of_day r) (day_micros (offsets_on t k) (day_count r.label))
near t k x p r g =
    let d = day_count r.label in
    let u = micro_of_day r in
    let a : Admitted (offsets_on t k) (most_second (scale_of k)) r = admitted_to (offsets_on t k) (most_second (scale_of k)) r g.reads.is_admitted in
    let less = in_its_day t k r a in
    let whole = day_parts (offsets_on t k) d in
    subst (λ (q : JulianDate). Near q d u (day_micros (offsets_on t k) d)) g.pair_is
    (record { midnight_exact = midnight_value d (omega (arith, in_days t k r a)); fraction_fine = whole.fraction u less; fraction_close = whole.close u less })

minus_zero : (t : Table) (k : ℕ) (m : Float) → read_julian t k (record { midnight = m; fraction = fin true 0 (pos 0) }) ≡ read_julian t k (record { midnight = m; fraction = fin false 0 (pos 0) })
unfolding read_julian day_read micro_read is_fraction nearest_of le lt
minus_zero t k m = refl

-- ---- the tests in their order: known scale, table, midnight, fraction, years, years again

six : (a b c d e f : Bool) (x : ℤ) → (instant_results (refusing Err ((a, ASK) ∷ (b, TABLE) ∷ (c, NUMBER) ∷ (d, NUMBER) ∷ (e, RANGE) ∷ (f, RANGE) ∷ []) (Ok x))).0 ≡ 6 → ⊥
six true true true true true true x h = omega arith
six true true true true true false x h = omega arith
six true true true true false f x h = omega arith
six true true true false e f x h = omega arith
six true true false d e f x h = omega arith
six true false c d e f x h = omega arith
six false b c d e f x h = omega arith

no_six : (t : Table) (k : ℕ) (p : JulianDate) → ReadRefused t k p 6 → ⊥
unfolding read_julian
no_six t k p = six (known_scale k) (accepted t) (is_half p.midnight) (is_fraction p.fraction) (midnight_in_years p.midnight) (leb (day_read (offsets_on t k) p) last_day) _

module _ (t : Table) where
  given : (k : ℕ) (x : ℤ) (p : JulianDate) → Writes t k x p → (r : Reading) × Given t k x p r
  given k x p w = write_given t k x p (at_pair _ p w)

  back : (k : ℕ) (x : ℤ) (p : JulianDate) → Writes t k x p → ReadAs t k p x
  back k x p w = let g = given k x p w in ap instant_results (own_back t k x p g.0 g.1)

  pub pairs : Pairs t
  pairs =
      record {
        written_exactly = λ k x p. (
          λ w. let g = given k x p w in (leb-true k 3 g.1.known, g.1.fine, (g.0, g.1.reads, sym g.1.pair_is)),
          λ g. ap julian_results (write_from t k (le-leb k 3 g.0) g.1 g.2.0 x g.2.1 ∙ ap Ok (sym g.2.2)),
        );
        written_near = λ k x p r w b. near t k x p r (given_by t k x p (at_pair _ p w) r b);
        read_exactly = λ k p x. (
          λ e. let g = read_given t k p x (at_instant _ x e) in (leb-true k 3 g.0, g.1, g.2, stands_to t k p g.1 g.2 x g.3),
          λ g. ap instant_results (read_from t k p x (le-leb k 3 g.0) g.1 g.2 (stands_from t k p g.1 g.2 x g.3)),
        );
        read_nearest = λ k p. (day_parts (offsets_on t k) (day_number p.midnight)).nearest p.fraction;
        no_six = no_six t;
        minus_zero = minus_zero t;
        comes_back = back;
        none_shared = λ k x y p w v. ap (λ a. a.1) (sym (back k x p w) ∙ back k y p v);
        uniform_written = λ k x p h. (
          λ w. let g = given k x p w in (leb-true k 3 g.1.known, g.1.fine, (g.0, g.1.reads, sym g.1.pair_is ∙ pair_even t k h x g.0 g.1.reads)),
          λ g. ap julian_results (write_from t k (le-leb k 3 g.0) g.1 g.2.0 x g.2.1 ∙ ap Ok (pair_even t k h x g.2.0 g.2.1 ∙ sym g.2.2)),
        );
        uniform_read = λ k p x h. (
          λ e.
              let g = read_given t k p x (at_instant _ x e) in
              let s = g.3 in
              (leb-true k 3 g.0, g.1, g.2, (s.reading, s.reads, stands_even t k h x s.reading s.reads p g.2.is_fraction_lem s.day_is s.micro_is)),
          λ g. ap instant_results (read_from t k p x (le-leb k 3 g.0) g.1 g.2 (even_stands t k h x g.3.0 g.3.1 p g.2.is_fraction_lem g.3.2)),
        );
      }
