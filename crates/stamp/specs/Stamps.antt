-- The calls that answer the instant of a stamp and the stamp of an instant. What comes from Back may be skipped: exactly when each is given is `Converts` of Promise.
-- Assumes nothing.
use Rattle.answer.specs.declared.Refusal.{Refusal}
use Rattle.std.specs.Prelude.{[], ◌∷◌, ◌++◌, ℕ, ℤ, pos, Result, Ok, Err}
use Rattle.answer.specs.declared.Refusal.TheVariants.{Range as RANGE}
use Rattle.answer.specs.Refusals.{number, refusing}
use Rattle.leap.specs.declared.Table.{Table}
use Rattle.labels.specs.declared.Reading.{Reading}
use Rattle.labels.specs.Labels.{no_label, whole, label_tests}
use Rattle.stamp.specs.declared.Scale.{Scale}
use Rattle.stamp.specs.declared.Scale.TheVariants.{Utc}
use Rattle.stamp.specs.declared.Stamp.{Stamp}
use Rattle.stamp.specs.Scales.{scale_of, scale_tests, offsets_of, most_second, instant_for}
use Rattle.stamp.specs.Back.{in_range, stamp_at}

-- ---- the instant of a stamp

abbrev pub instant_in : Table → Scale → Reading → Result ℤ Refusal
instant_in t s r = refusing Err (label_tests (offsets_of t s) (most_second s) r) (Ok (instant_for t s r))

-- `instant_of`, without its mark
unfoldable pub instant_of : Table → ℕ → Reading → Result ℤ Refusal
instant_of t k r = refusing Err (scale_tests t k) (instant_in t (scale_of k) r)

-- an answer in the scope's numbers: that of the refusal, 0 on success, and the instant, zero on a refusal
abbrev pub instant_results : Result ℤ Refusal → ℕ × ℤ
instant_results (Ok x) = (0, x)
instant_results (Err why) = (number why, pos 0)

-- ---- the stamp of an instant

-- `stamp_of`, without its mark
unfoldable pub stamp_of : Table → ℤ → ℕ → Result Stamp Refusal
stamp_of t x k = refusing Err (scale_tests t k ++ (in_range t (scale_of k) x, RANGE) ∷ []) (Ok (stamp_at t (scale_of k) x))

-- every number of it zero
abbrev pub no_stamp : Stamp
no_stamp = record { scale = Utc; reading = whole no_label }

-- an answer in the scope's numbers: that of the refusal, 0 on success, and the stamp, all zero on a refusal
abbrev pub stamp_results : Result Stamp Refusal → ℕ × Stamp
stamp_results (Ok z) = (0, z)
stamp_results (Err why) = (number why, no_stamp)
