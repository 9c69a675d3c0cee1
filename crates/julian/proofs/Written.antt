-- The pair that is written, from what `stamp` shows.
-- Assumes nothing.
use Rattle.std.specs.Prelude.{Result, Ok, Err}
use Rattle.stamp.specs.declared.DayTime.{DayTime}
use Rattle.julian.specs.declared.JulianDate.{JulianDate}
use Rattle.answer.specs.declared.Refusal.{Refusal}
use Rattle.std.proofs.Common.{◌≡◌, ℕ, ◌*◌, [], ◌∷◌, ◌++◌, ℤ}
use Rattle.answer.specs.declared.Refusal.TheVariants.{Range as RANGE}
use Rattle.answer.proofs.Orders.{refusing_map}
use Rattle.leap.specs.declared.Table.{Table}
use Rattle.stamp.specs.Scales.{scale_of, scale_tests, offsets_of}
use Rattle.stamp.specs.Back.{in_range, stamp_at}
use Rattle.stamp.specs.Days.{day_time, shown_of}
use Rattle.julian.specs.Dates.{pair_at, write_julian}

-- the pair of what a scale shows
abbrev pub dated : Result DayTime Refusal → Result JulianDate Refusal
dated (Ok d) = Ok (pair_at d.day d.micro (1000000 * d.seconds))
dated (Err why) = Err why

pub written : (t : Table) (x : ℤ) (k : ℕ) → dated (shown_of t x k) ≡ write_julian t x k
unfolding shown_of write_julian
written t x k = refusing_map dated Err (scale_tests t k ++ (in_range t (scale_of k) x, RANGE) ∷ []) (Ok (day_time (offsets_of t (scale_of k)) (stamp_at t (scale_of k) x).reading))
