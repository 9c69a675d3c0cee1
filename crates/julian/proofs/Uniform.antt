-- On the scales 1 to 3 a day has 86,400 seconds, so that pairs are written and read as if all days had.
-- Assumes nothing.
use Rattle.std.proofs.Common.{◌≡◌, ℕ, ◌+◌, ◌*◌, ◌/◌, ◌%◌, ◌<◌, ◌≤◌, true, ℤ, sym, ap, ◌∙◌, ap₂, arith, ltb-false}
use Rattle.laws.proofs.Cases.{by_test}
use Rattle.leap.specs.declared.Table.{Table}
use Rattle.labels.specs.declared.Reading.{Reading}
use Rattle.labels.specs.Labels.{Offsets}
use Rattle.labels.specs.Seconds.{day_count, second_of, micro_of_day, micro_of}
use Rattle.labels.specs.Lengths.{day_micros}
use Rattle.labels.proofs.Admitted.{admitted_to}
use Rattle.labels.proofs.Lengths.{uniform_day}
use Rattle.stamp.specs.Scales.{scale_of, offsets_of, most_second}
use Rattle.stamp.specs.Promise.{Reads}
use Rattle.stamp.proofs.Scales.{offsets_uniform}
use Rattle.fraction.specs.Fraction.{is_fraction, nearest_of}
use Rattle.fraction.proofs.Fraction.{below_one, whole_most}
use Rattle.julian.specs.declared.JulianDate.{JulianDate}
use Rattle.julian.specs.Midnight.{day_number}
use Rattle.julian.specs.Dates.{pair_at, pair_of, nearest_in, same_day, day_read, micro_read}
use Rattle.julian.specs.Promise.{even_day, even_pair, even_micro}
use Rattle.julian.proofs.Dates.{ReadOn, read_same, read_next, read_less, in_its_day}

module _ (t : Table) (k : ℕ) (h : 1 ≤ k) where
  abbrev o : Offsets
  o = offsets_of t (scale_of k)

  even_day_lem : (d : ℕ) → day_micros o d ≡ even_day
  even_day_lem d = ap (λ (f : Offsets). day_micros f d) (offsets_uniform t k h) ∙ ap (λ (n : ℕ). 1000000 * n) (uniform_day d)

  module _ (x : ℤ) (r : Reading) (b : Reads t (scale_of k) r x) where
    -- what the reading shows is its day and its microsecond
    shows : (micro_of r ≡ even_day * day_count r.label + micro_of_day r) × (micro_of_day r < even_day)
    unfolding second_of
    shows = (omega arith, omega (arith, in_its_day t k r (admitted_to o (most_second (scale_of k)) r b.is_admitted), even_day_lem (day_count r.label)))

    pub pair_even : pair_of (offsets_of t (scale_of k)) r ≡ even_pair (micro_of r)
    pair_even =
        let d : day_count r.label ≡ micro_of r / even_day = omega (arith, shows) in
        let u : micro_of_day r ≡ micro_of r % even_day = omega (arith, shows) in
        ap (pair_at (day_count r.label) (micro_of_day r)) (even_day_lem (day_count r.label)) ∙ ap₂ (λ (n v : ℕ). pair_at n v even_day) d u

    module _ (p : JulianDate) (f : is_fraction p.fraction ≡ true) where
      -- the day and the microsecond that are read make the one of before
      read_even : even_day * day_read o p + micro_read o p ≡ even_micro p
      read_even =
          let n : nearest_in o p ≡ nearest_of even_day p.fraction = ap (λ (w : ℕ). nearest_of w p.fraction) (even_day_lem (day_number p.midnight)) in
          by_test (same_day o p)
          (λ e. omega (arith, read_same o p e))
          (λ e. omega (arith, read_next o p e, ltb-false (nearest_in o p) (day_micros o (day_number p.midnight)) e, even_day_lem (day_number p.midnight), whole_most even_day p.fraction (below_one p.fraction f)))

      pub stands_even : day_count r.label ≡ day_read (offsets_of t (scale_of k)) p → micro_of_day r ≡ micro_read (offsets_of t (scale_of k)) p → micro_of r ≡ even_micro p
      stands_even d u = omega (arith, shows.0, read_even)

      pub even_stands : micro_of r ≡ even_micro p → ReadOn t k p x
      even_stands e =
          let less : micro_read o p < even_day = omega (arith, read_less o p, even_day_lem (day_read o p)) in
          let here : day_count r.label ≡ micro_of r / even_day = omega (arith, shows) in
          let there : day_read o p ≡ micro_of r / even_day = omega (arith, read_even) in
          let same = here ∙ sym there in
          record { reading = r; reads = b; day_is = same; micro_is = omega (arith, shows, read_even) }
