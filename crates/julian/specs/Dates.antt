-- The pair of a reading, the microseconds that a pair is read as, and the calls. The promise speaks of `pair_of` and `nearest_in`; what a call does with them need not be believed:
-- `Pairs` of Promise says exactly when each answer is given.
-- Assumes nothing.
use Rattle.std.specs.Prelude.{ℕ, ◌+◌, Bool, false, cond, List, [], ◌∷◌, ◌++◌, ℤ, pos, nat_le, nat_lt, Result, Ok, Err}
use Rattle.std.specs.Float.{fin}
use Rattle.answer.specs.declared.Refusal.{Refusal}
use Rattle.answer.specs.declared.Refusal.TheVariants.{Number as NUMBER, Range as RANGE}
use Rattle.answer.specs.Refusals.{number, refusing}
use Rattle.leap.specs.declared.Table.{Table}
use Rattle.labels.specs.declared.Reading.{Reading}
use Rattle.labels.specs.Labels.{Offsets}
use Rattle.labels.specs.Seconds.{day_count, micro_of_day, last_day}
use Rattle.labels.specs.Lengths.{day_micros}
use Rattle.stamp.specs.declared.Scale.{Scale}
use Rattle.stamp.specs.Scales.{scale_of, scale_tests, offsets_of}
use Rattle.stamp.specs.Back.{in_range, stamp_at}
use Rattle.stamp.specs.Days.{day_start, instant_after}
use Rattle.fraction.specs.Fraction.{fraction_of, is_fraction, is_half, nearest_of}
use Rattle.julian.specs.declared.JulianDate.{JulianDate}
use Rattle.julian.specs.Midnight.{midnight_of, midnight_in_years, day_number}

-- ---- written

-- the pair of microsecond u of day d, which has so many
abbrev pub pair_at : ℕ → ℕ → ℕ → JulianDate
pair_at d u length = record { midnight = midnight_of d; fraction = fraction_of length u }

-- of a reading: the midnight of its day, and the microsecond of the day over that day's own length
abbrev pub pair_of : Offsets → Reading → JulianDate
pair_of o r = pair_at (day_count r.label) (micro_of_day r) (day_micros o (day_count r.label))

-- `write_julian`, without its mark; `stamp_at` is the way back, which need not be believed
unfoldable pub write_julian : Table → ℤ → ℕ → Result JulianDate Refusal
write_julian t x k =
    refusing Err
    (scale_tests t k ++ (in_range t (scale_of k) x, RANGE) ∷ [])
    (Ok (pair_of (offsets_of t (scale_of k)) (stamp_at t (scale_of k) x).reading))

-- an answer in the scope's numbers: that of the refusal, 0 on success, and the pair, both zero on a refusal
abbrev pub julian_results : Result JulianDate Refusal → ℕ × JulianDate
julian_results (Ok p) = (0, p)
julian_results (Err why) = (number why, record { midnight = fin false 0 (pos 0); fraction = fin false 0 (pos 0) })

-- ---- read

-- what is asked of the pair itself, in this order
abbrev pub pair_tests : JulianDate → List (Bool × Refusal)
pair_tests p = (is_half p.midnight, NUMBER) ∷ (is_fraction p.fraction, NUMBER) ∷ (midnight_in_years p.midnight, RANGE) ∷ []

-- the microseconds that the fraction is nearest to, of that day's own length
abbrev pub nearest_in : Offsets → JulianDate → ℕ
nearest_in o p = nearest_of (day_micros o (day_number p.midnight)) p.fraction

-- fewer than the day has are of that day, as many are the next midnight
abbrev pub same_day : Offsets → JulianDate → Bool
same_day o p = nat_lt (nearest_in o p) (day_micros o (day_number p.midnight))

-- the day that is read, and the microsecond of it
unfoldable pub day_read : Offsets → JulianDate → ℕ
day_read o p = cond (same_day o p) (day_number p.midnight) (day_number p.midnight + 1)

unfoldable pub micro_read : Offsets → JulianDate → ℕ
micro_read o p = cond (same_day o p) (nearest_in o p) 0

-- all that is asked: RANGE of the midnight, and again after rounding
abbrev pub read_tests : Offsets → JulianDate → List (Bool × Refusal)
read_tests o p = pair_tests p ++ (nat_le (day_read o p) last_day, RANGE) ∷ []

abbrev pub read_in : Table → Scale → JulianDate → Result ℤ Refusal
read_in t s p =
    let o = offsets_of t s in
    refusing Err (read_tests o p) (Ok (instant_after s (day_start o (day_read o p)) (micro_read o p)))

-- `read_julian`, without its mark
unfoldable pub read_julian : Table → ℕ → JulianDate → Result ℤ Refusal
read_julian t k p = refusing Err (scale_tests t k) (read_in t (scale_of k) p)
