-- The scales. Each is two things: a calendar rule, and a map between its own axis and instants.
-- Assumes nothing.
use Rattle.std.specs.Prelude.{Bool, cond, List, [], ◌∷◌, ℕ, eqb, leb, ℤ, pos, negsuc, ◌+ℤ◌, ◌-ℤ◌, Result, Ok, Err}
use Rattle.answer.specs.declared.Refusal.{Refusal}
use Rattle.answer.specs.declared.Refusal.TheVariants.{Ask as ASK, Table as TABLE}
use Rattle.answer.specs.Refusals.{refusing}
use Rattle.leap.specs.declared.Table.{Table}
use Rattle.leap.specs.Leap.{accepted, offset_at}
use Rattle.labels.specs.declared.Reading.{Reading}
use Rattle.labels.specs.Labels.{Offsets, uniform}
use Rattle.labels.specs.Seconds.{axis_of}
use Rattle.stamp.specs.declared.Scale.{Scale}
use Rattle.stamp.specs.declared.Scale.TheVariants.{Utc, Tai, Tdt, Gps}

-- ---- their numbers

abbrev pub scale_of : ℕ → Scale
scale_of k = cond (eqb k 0) Utc (cond (eqb k 1) Tai (cond (eqb k 2) Tdt Gps))

-- it is the number of a scale
abbrev pub known_scale : ℕ → Bool
known_scale k = leb k 3

-- 0 UTC, 1 TAI, 2 TDT, 3 GPS
abbrev pub scale_number : Scale → ℕ
scale_number Utc = 0
scale_number Tai = 1
scale_number Tdt = 2
scale_number Gps = 3

-- the scale of a number, if it is one of a scale
abbrev pub scale_known : ℕ → Result Scale Refusal
scale_known k = refusing Err ((known_scale k, ASK) ∷ []) (Ok (scale_of k))

-- what a call with a table and a scale asks first
abbrev pub scale_tests : Table → ℕ → List (Bool × Refusal)
scale_tests t k = (known_scale k, ASK) ∷ (accepted t, TABLE) ∷ []

-- `asked`
unfoldable pub asked : Table → ℕ → Result Scale Refusal
asked t k = refusing Err (scale_tests t k) (Ok (scale_of k))

-- ---- the calendar rule

-- by those of UTC, so that nothing else of a table counts
abbrev pub offsets_by : Offsets → Scale → Offsets
offsets_by o Utc = o
offsets_by o Tai = uniform
offsets_by o Tdt = uniform
offsets_by o Gps = uniform

abbrev pub offsets_of : Table → Scale → Offsets
offsets_of t = offsets_by (offset_at t)

abbrev pub most_second : Scale → ℕ
most_second Utc = 60
most_second Tai = 59
most_second Tdt = 59
most_second Gps = 59

-- ---- the map

-- a uniform scale less TAI, in microseconds: its own fixed offset
abbrev pub fixed : Scale → ℤ
fixed Utc = pos 0
fixed Tai = pos 0
fixed Tdt = pos 32184000
fixed Gps = negsuc 18999999

-- instants are counted from 2000-01-01 12:00:00, which is microsecond 63,113,947,200,000,000 of TAI's axis
unfoldable pub to_instant : Scale → ℤ → ℤ
to_instant s a = (a -ℤ pos 63113947200000000) -ℤ fixed s

-- the instant that a reading stands for
abbrev pub instant_for : Table → Scale → Reading → ℤ
instant_for t s r = to_instant s (axis_of (offsets_of t s) r)

-- the way back
unfoldable pub to_axis : Scale → ℤ → ℤ
to_axis s x = (x +ℤ fixed s) +ℤ pos 63113947200000000
