-- Two-part Julian dates: which pair is written for an instant and which instant a pair is read as, exactly, both ways; 13 and 7 are said with the order of every call's tests.
-- `day_count` and `micro_of_day` are the day of a reading and the microsecond of that day, and `day_micros` how many the day has: 23:59:60 is of the day that it ends.
-- Assumes nothing.
use Rattle.std.specs.Prelude.{◌≡◌, ℕ, ◌+◌, ◌*◌, ◌/◌, ◌%◌, ◌≤◌, true, false, ◌↔◌, ℤ, pos, ◌+ℤ◌, Float}
use Rattle.std.specs.Float.{fin}
use Rattle.std.specs.Float.Ieee.Exact.{HasValue}
use Rattle.leap.specs.declared.Table.{Table}
use Rattle.leap.specs.Leap.{accepted}
use Rattle.labels.specs.declared.Reading.{Reading}
use Rattle.labels.specs.Labels.{Offsets}
use Rattle.labels.specs.Seconds.{day_count, micro_of_day, micro_of}
use Rattle.labels.specs.Lengths.{day_micros}
use Rattle.stamp.specs.Scales.{scale_of, offsets_of}
use Rattle.stamp.specs.Stamps.{instant_results}
use Rattle.stamp.specs.Promise.{Reads}
use Rattle.fraction.specs.Fraction.{is_fraction, is_half, nearest_of, Close, Nearest}
use Rattle.julian.specs.declared.JulianDate.{JulianDate}
use Rattle.julian.specs.Midnight.{midnight_in_years, day_number}
use Rattle.julian.specs.Dates.{pair_at, pair_of, write_julian, julian_results, nearest_in, read_julian}

-- `write_julian` gives the pair p for the instant x on scale number k, and `read_julian` the instant x for p
abbrev pub Writes : Table → ℕ → ℤ → JulianDate → Type 0
Writes t k x p = julian_results (write_julian t x k) ≡ (0, p)

abbrev pub ReadAs : Table → ℕ → JulianDate → ℤ → Type 0
ReadAs t k p x = instant_results (read_julian t k p) ≡ (0, x)

-- `read_julian` refuses p with the number n
abbrev pub ReadRefused : Table → ℕ → JulianDate → ℕ → Type 0
ReadRefused t k p n = (instant_results (read_julian t k p)).0 ≡ n

abbrev pub offsets_on : Table → ℕ → Offsets
offsets_on t k = offsets_of t (scale_of k)

-- the pair of microsecond u of day d, which has so many: the midnight is exactly its day and a half; the fraction is at least 0, below 1, and within one part in 2 ^ 54 of the exact one
pub record Near (p : JulianDate) (d u length : ℕ) : Type 0 where
  pub midnight_exact : HasValue p.midnight false (2 * (1721059 + d) + 1) 2
  pub fraction_fine : is_fraction p.fraction ≡ true
  pub fraction_close : Close length p.fraction u

-- the pair is a midnight from 1972 to 9999 and a fraction
pub record IsPair (p : JulianDate) : Type 0 where
  pub is_midnight : is_half p.midnight ≡ true
  pub is_fraction_lem : is_fraction p.fraction ≡ true
  pub in_years_lem : midnight_in_years p.midnight ≡ true

-- the instant x has a reading, and lies as many microseconds after the pair's midnight as the fraction is nearest to
pub record Stands (t : Table) (k : ℕ) (p : JulianDate) (x : ℤ) : Type 0 where
  pub reading : Reading
  pub reads : Reads t (scale_of k) reading x
  pub midnight : Reading
  pub begins : ℤ
  pub midnight_reads : Reads t (scale_of k) midnight begins
  pub its_day : day_count midnight.label ≡ day_number p.midnight
  pub its_beginning : micro_of_day midnight ≡ 0
  pub after_it : x ≡ begins +ℤ pos (nearest_in (offsets_on t k) p)

-- ---- where every day has 86,400 seconds: the microsecond u from year 0 has this pair, and p is read as this microsecond

abbrev pub even_day : ℕ
even_day = 86400000000

abbrev pub even_pair : ℕ → JulianDate
even_pair u = pair_at (u / even_day) (u % even_day) even_day

abbrev pub even_micro : JulianDate → ℕ
even_micro p = even_day * day_number p.midnight + nearest_of even_day p.fraction

-- under one table
pub record Pairs (t : Table) : Type 0 where
  -- a pair is written exactly when a reading stands for the instant, and it is that of the reading's day and of its microsecond over the day's own length
  pub written_exactly : (k : ℕ) (x : ℤ) (p : JulianDate) → Writes t k x p ↔ ((k ≤ 3) × (accepted t ≡ true) × ((r : Reading) × Reads t (scale_of k) r x × (p ≡ pair_of (offsets_on t k) r)))
  pub written_near : (k : ℕ) (x : ℤ) (p : JulianDate) (r : Reading) → Writes t k x p → Reads t (scale_of k) r x → Near p (day_count r.label) (micro_of_day r) (day_micros (offsets_on t k) (day_count r.label))
  -- a pair is read exactly when it is one and an instant that has a reading lies so many microseconds after its midnight
  pub read_exactly : (k : ℕ) (p : JulianDate) (x : ℤ) → ReadAs t k p x ↔ ((k ≤ 3) × (accepted t ≡ true) × IsPair p × Stands t k p x)
  -- so many are those of the midnight's own day that are nearest to the double's exact value, a tie to the later
  pub read_nearest : (k : ℕ) (p : JulianDate) → Nearest (day_micros (offsets_on t k) (day_number p.midnight)) p.fraction (nearest_in (offsets_on t k) p)
  -- no pair is refused with NOSECOND, 6
  pub no_six : (k : ℕ) (p : JulianDate) → ReadRefused t k p 6 → ⊥
  -- minus zero is read as zero
  pub minus_zero : (k : ℕ) (m : Float) → read_julian t k (record { midnight = m; fraction = fin true 0 (pos 0) }) ≡ read_julian t k (record { midnight = m; fraction = fin false 0 (pos 0) })
  -- on every scale every instant comes back exactly, and no two share a pair
  pub comes_back : (k : ℕ) (x : ℤ) (p : JulianDate) → Writes t k x p → ReadAs t k p x
  pub none_shared : (k : ℕ) (x y : ℤ) (p : JulianDate) → Writes t k x p → Writes t k y p → x ≡ y
  -- on the scales 1 to 3 both are as they were
  pub uniform_written : (k : ℕ) (x : ℤ) (p : JulianDate) → 1 ≤ k → Writes t k x p ↔ ((k ≤ 3) × (accepted t ≡ true) × ((r : Reading) × Reads t (scale_of k) r x × (p ≡ even_pair (micro_of r))))
  pub uniform_read : (k : ℕ) (p : JulianDate) (x : ℤ) → 1 ≤ k → ReadAs t k p x ↔ ((k ≤ 3) × (accepted t ≡ true) × IsPair p × ((r : Reading) × Reads t (scale_of k) r x × (micro_of r ≡ even_micro p)))
