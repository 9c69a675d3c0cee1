-- The scope's midnights and the rows of days with a step are right; and the night desk's Julian row, for the statement of its rows.
-- Assumes nothing.
use Rattle.std.proofs.Common.{◌≡◌, ℕ, ◌+◌, ◌*◌, ◌≤◌, true, false, eqb, ℤ, pos, negsuc, ◌+ℤ◌, neg_ℤ, sym, refl, ap, ◌∙◌, subst, arith, le-ltb, leb-true}
use borrow.Author.Tests.{lt-leb}
use lib.Ieee.{fin, binary64, of_bits, of_int, div, add, le, lt, eq}
use Rattle.std.specs.Prelude.{Ok}
use Rattle.laws.proofs.Cases.{by_order}
use Rattle.laws.specs.Tests.{eq_z, all_below}
use Rattle.months.specs.Months.{leap_year, month_length, days_before}
use Rattle.leap.specs.declared.Table.{Table}
use Rattle.leap.specs.Leap.{one_apart, place_right, vouched_right, accepted, last_begun, offset_in, bulletin_c}
use Rattle.leap.proofs.BulletinC.{bulletin_accepted}
use Rattle.labels.specs.declared.Reading.{Reading}
use Rattle.labels.specs.Labels.{Offsets, at, last_minute, minute_in, month_of, real_year, real_month, real_day, real_clock, has_second}
use Rattle.labels.specs.Seconds.{second_of, day_count, micro_of_day, axis_at, last_day}
use Rattle.labels.specs.Lengths.{seconds_in, day_seconds, day_micros}
use Rattle.labels.proofs.Admitted.{admitted_to}
use Rattle.labels.proofs.Lengths.{label_falls, day_range}
use Rattle.stamp.specs.Scales.{scale_of, known_scale, offsets_of, most_second, to_instant}
use Rattle.stamp.specs.Promise.{Reads}
use Rattle.fraction.specs.Fraction.{fraction_of, is_fraction, is_half, nearest_of}
use Rattle.julian.specs.declared.JulianDate.{JulianDate}
use Rattle.julian.specs.Midnight.{midnight_of, midnight_in_years, day_number}
use Rattle.julian.specs.Dates.{pair_at, julian_results, nearest_in, day_read, read_julian}
use Rattle.julian.specs.Promise.{Writes, ReadAs, ReadRefused, offsets_on, IsPair}
use Rattle.julian.specs.Desk.{bits, leap_day, taken_out, Desk}
use Rattle.julian.proofs.Dates.{write_from, read_next}
use Rattle.julian.proofs.Promise.{pairs}

-- a day's length by its month, which computes
length_in : Offsets → ℕ → ℕ → ℕ
length_in o d m = 1000000 * seconds_in (eqb (d + 1) (days_before (m + 1))) (o m) (o (m + 1))

module _ (t : Table) (fine : accepted t ≡ true) (k : ℕ) (known : known_scale k ≡ true) where
  abbrev o : Offsets
  o = offsets_of t (scale_of k)

  -- that of a reading's day
  own_month : (r : Reading) (x : ℤ) → Reads t (scale_of k) r x → day_micros o (day_count r.label) ≡ length_in o (day_count r.label) (month_of r.label)
  unfolding length_in
  own_month r x b =
      let e = (admitted_to o (most_second (scale_of k)) r b.is_admitted).exists in
      ap (length_in o (day_count r.label)) (sym (label_falls r.label e.day_low e.day_high))

  row : (r : Reading) (x : ℤ) → Reads t (scale_of k) r x → Writes t k x (pair_at (day_count r.label) (micro_of_day r) (length_in o (day_count r.label) (month_of r.label)))
  row r x b = ap julian_results (write_from t k known fine r x b ∙ ap (λ (n : ℕ). Ok (pair_at (day_count r.label) (micro_of_day r) n)) (own_month r x b))

  -- read, by the reading r and the midnight b of the pair's day
  module _ (p : JulianDate) (i : IsPair p) (b : Reading) (y : ℤ) (begun : Reads t (scale_of k) b y) (day : day_count b.label ≡ day_number p.midnight) where
    pair_length : day_micros o (day_number p.midnight) ≡ length_in o (day_count b.label) (month_of b.label)
    pair_length = ap (day_micros o) (sym day) ∙ own_month b y begun

    read_row : micro_of_day b ≡ 0 → (r : Reading) (x : ℤ) → Reads t (scale_of k) r x → x ≡ y +ℤ pos (nearest_of (length_in o (day_count b.label) (month_of b.label)) p.fraction) → ReadAs t k p x
    read_row z r x reads after =
        ((pairs t).read_exactly k p x).1
        (leb-true k 3 known, fine, i, record { reading = r; reads = reads; midnight = b; begins = y; midnight_reads = begun; its_day = day; its_beginning = z; after_it = after ∙ ap (λ (n : ℕ). y +ℤ pos (nearest_of n p.fraction)) (sym pair_length) })

-- the largest double below 1 rounds to the whole of every day
largest : (n : ℕ) → 86399 ≤ n → n ≤ 86401 → nearest_of (1000000 * n) (of_bits binary64 0x3fef_ffff_ffff_ffff) ≡ 1000000 * n
unfolding nearest_of of_bits
largest n low high =
    by_order n 86400 (λ less. is 86399 refl (omega arith)) (λ more. by_order 86400 n (λ q. is 86401 refl (omega arith)) (λ q. is 86400 refl (omega arith)))
  where
    is : (m : ℕ) → nearest_of (1000000 * m) (of_bits binary64 0x3fef_ffff_ffff_ffff) ≡ 1000000 * m → m ≡ n → nearest_of (1000000 * n) (of_bits binary64 0x3fef_ffff_ffff_ffff) ≡ 1000000 * n
    is m e q = subst (λ (k : ℕ). nearest_of (1000000 * k) (of_bits binary64 0x3fef_ffff_ffff_ffff) ≡ 1000000 * k) q e

-- and that of the last day is RANGE
past_last : (p : JulianDate) → IsPair p → day_number p.midnight ≡ last_day → p.fraction ≡ of_bits binary64 0x3fef_ffff_ffff_ffff → ReadRefused bulletin_c 0 p 7
unfolding read_julian
past_last p i last f =
    let o = offsets_on bulletin_c 0 in
    let d = day_number p.midnight in
    let n = day_seconds o d in
    let whole : nearest_in o p ≡ day_micros o d = ap (nearest_of (day_micros o d)) f ∙ largest n (day_range o d).0 (day_range o d).1 in
    let q = read_next o p (le-ltb (nearest_in o p) (day_micros o d) (omega arith)) in
    rw (bulletin_accepted, i.is_midnight, i.is_fraction_lem, i.in_years_lem, lt-leb (day_read o p) last_day (omega (arith, q.0)))

-- read on 2016-12-31
on_leap_day : (f : ℕ) → is_fraction (leap_day f).fraction ≡ true → (r : Reading) (x : ℤ) → Reads bulletin_c (scale_of 0) r x → x ≡ pos 536414436000000 +ℤ pos (nearest_of 86401000000 (leap_day f).fraction) → ReadAs bulletin_c 0 (leap_day f) x
unfolding length_in leap_year month_length days_before last_begun offset_in last_minute minute_in real_year real_month real_day real_clock has_second second_of axis_at to_instant seconds_in is_half midnight_in_years day_number of_bits le lt eq
on_leap_day f i r x reads after =
    read_row bulletin_c bulletin_accepted 0 refl (leap_day f) (record { is_midnight = refl; is_fraction_lem = i; in_years_lem = refl }) (at 2016 12 31 0 0 0 0) (pos 536414436000000) (record { is_admitted = refl; instant_is = refl }) refl refl r x reads after

-- instant 0 on TAI: 2451544.5 and 0.5
pub julian_row : Writes bulletin_c 1 (pos 0) (record { midnight = fin false 4903089 (negsuc 0); fraction = fin false 1 (negsuc 0) })
unfolding length_in leap_year month_length days_before last_begun offset_in last_minute minute_in real_year real_month real_day real_clock has_second second_of axis_at to_instant seconds_in fraction_of midnight_of of_int div add
julian_row = row bulletin_c bulletin_accepted 1 refl (at 2000 1 1 12 0 0 0) (pos 0) (record { is_admitted = refl; instant_is = refl })

pub desk : Desk
unfolding length_in eq_z all_below one_apart place_right vouched_right accepted leap_year month_length days_before last_begun offset_in last_minute minute_in real_year real_month real_day real_clock has_second second_of axis_at to_instant seconds_in fraction_of nearest_of is_half is_fraction midnight_of midnight_in_years day_number of_bits of_int div add le lt eq
desk =
    record {
      first_midnight_lem = refl;
      last_midnight_lem = refl;
      noon = row bulletin_c bulletin_accepted 0 refl (at 2016 12 31 12 0 0 0) (pos 536457636000000) (record { is_admitted = refl; instant_is = refl });
      added = row bulletin_c bulletin_accepted 0 refl (at 2016 12 31 23 59 60 250000) (pos 536500836250000) (record { is_admitted = refl; instant_is = refl });
      last = row bulletin_c bulletin_accepted 0 refl (at 2016 12 31 23 59 60 999999) (pos 536500836999999) (record { is_admitted = refl; instant_is = refl });
      next = row bulletin_c bulletin_accepted 0 refl (at 2017 1 1 0 0 0 250000) (pos 536500837250000) (record { is_admitted = refl; instant_is = refl });
      tie = on_leap_day 0x3f80_0000_0000_0000 refl (at 2016 12 31 0 11 15 7813) (pos 536415111007813) (record { is_admitted = refl; instant_is = refl }) refl;
      no_tie = on_leap_day 0x3fef_8613_e657_d96f refl (at 2016 12 31 23 38 35 86212) (pos 536499551086212) (record { is_admitted = refl; instant_is = refl }) refl;
      whole_day = on_leap_day 0x3fef_ffff_ffff_ffff refl (at 2017 1 1 0 0 0 0) (pos 536500837000000) (record { is_admitted = refl; instant_is = refl }) refl;
      past_9999 = past_last (bits 0x4154_7f8a_e000_0000 0x3fef_ffff_ffff_ffff) (record { is_midnight = refl; is_fraction_lem = refl; in_years_lem = refl }) refl refl;
      shorter = read_row taken_out refl 0 refl (bits 0x4142_a08d_4000_0000 0x3f80_0000_0000_0000) (record { is_midnight = refl; is_fraction_lem = refl; in_years_lem = refl }) (at 1972 6 30 0 0 0 0) (neg_ℤ (pos 868017590000000)) (record { is_admitted = refl; instant_is = refl }) refl refl (at 1972 6 30 0 11 14 992188) (neg_ℤ (pos 868016915007812)) (record { is_admitted = refl; instant_is = refl }) refl;
    }
