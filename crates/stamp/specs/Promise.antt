-- What is promised of stamps and instants: what each is given, and exactly when, both ways. It is said by the way from a reading to its instant alone, so
-- the way back, which text and Julian dates build on, is fixed by it and need not be believed.
-- Assumes nothing.
use Rattle.std.specs.Prelude.{◌≡◌, ◌↔◌, true, ℕ, ◌≤◌, ℤ}
use Rattle.leap.specs.declared.Table.{Table}
use Rattle.leap.specs.Leap.{accepted}
use Rattle.labels.specs.declared.Reading.{Reading}
use Rattle.labels.specs.Labels.{admitted}
use Rattle.stamp.specs.declared.Scale.{Scale}
use Rattle.stamp.specs.declared.Stamp.{Stamp}
use Rattle.stamp.specs.Scales.{scale_of, offsets_of, most_second, instant_for}
use Rattle.stamp.specs.Stamps.{instant_of, instant_results, stamp_of, stamp_results}

-- on scale s the reading r, admitted, stands for the instant x
pub record Reads (t : Table) (s : Scale) (r : Reading) (x : ℤ) : Type 0 where
  pub is_admitted : admitted (offsets_of t s) (most_second s) r ≡ true
  pub instant_is : instant_for t s r ≡ x

abbrev pub stamp : Scale → Reading → Stamp
stamp s r = record { scale = s; reading = r }

-- `instant_of` gives the instant x for the reading r on scale number k, and `stamp_of` the stamp z for x
abbrev pub GivesInstant : Table → ℕ → Reading → ℤ → Type 0
GivesInstant t k r x = instant_results (instant_of t k r) ≡ (0, x)

abbrev pub GivesStamp : Table → ℕ → ℤ → Stamp → Type 0
GivesStamp t k x z = stamp_results (stamp_of t x k) ≡ (0, z)

-- for each table and scale number
pub record Converts (t : Table) (k : ℕ) : Type 0 where
  -- a reading is given the instant x exactly when the scale is known, the table as described, and the reading admitted and standing for x
  pub instant_exactly : (r : Reading) (x : ℤ) → GivesInstant t k r x ↔ ((k ≤ 3) × (accepted t ≡ true) × Reads t (scale_of k) r x)
  -- an instant is given the stamp z exactly when z is of that scale and its reading stands for the instant
  pub stamp_exactly : (x : ℤ) (z : Stamp) → GivesStamp t k x z ↔ ((k ≤ 3) × (accepted t ≡ true) × (z.scale ≡ scale_of k) × Reads t (scale_of k) z.reading x)
  -- RANGE, 7, is given exactly when no reading stands for the instant
  pub out_of_range : (x : ℤ) → ((stamp_results (stamp_of t x k)).0 ≡ 7) ↔ ((k ≤ 3) × (accepted t ≡ true) × ((r : Reading) → Reads t (scale_of k) r x → ⊥))
