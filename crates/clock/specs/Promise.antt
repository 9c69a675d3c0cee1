-- Demand 3, of the clock by itself: what is promised of each tick and over all ticks, under every accepted table. That its labels are those of the
-- conversions is said where both are known.
-- Assumes nothing.
use Rattle.std.specs.Prelude.{◌≡◌, ◌⊎◌, Bool, true, ℕ, ◌+◌, ◌*◌, ◌≤◌, ◌<◌, pos, ◌+ℤ◌}
use Rattle.leap.specs.declared.Table.{Table}
use Rattle.leap.specs.Leap.{accepted, offset_at}
use Rattle.leap.specs.Steps.{StepUp, StepDown}
use Rattle.labels.specs.declared.Label.{Label}
use Rattle.labels.specs.Labels.{label, whole, no_label, Before}
use Rattle.labels.specs.Seconds.{axis_of}
use Rattle.labels.specs.Promise.{has_label, Days}
use Rattle.clock.specs.Clock.{tick, tick_results, after}

abbrev pub first_label : Label
first_label = label 1972 1 1 0 0 0

abbrev pub last_label : Label
last_label = label 9999 12 31 23 59 59

-- UTC under the table has the label, from 1972-01-01 00:00:00 to the end of 9999
abbrev pub admits : Table → Label → Bool
admits t l = has_label (offset_at t) l

-- l' is the next admitted label after l
pub record Follows (t : Table) (l l' : Label) : Type 0 where
  pub is_admitted : admits t l' ≡ true
  pub is_later : Before l l'
  pub none_between : (k : Label) → admits t k ≡ true → Before l k → Before k l' → ⊥

-- the clock shows the label l after n ticks
abbrev pub Shows : Table → ℕ → Label → Type 0
Shows t n l = tick_results (after t n) ≡ (0, l)

-- RANGE, 7, with no label
abbrev pub ended : ℕ × Label
ended = (7, no_label)

-- the clock goes on for `count` ticks to the last second of 9999; past it RANGE comes and stays
pub record Ends (t : Table) (count : ℕ) : Type 0 where
  pub goes_on : (n : ℕ) → n ≤ count → (l : Label) × Shows t n l
  pub ends_with : Shows t count last_label
  pub stays_refused : (n : ℕ) → count < n → tick_results (after t n) ≡ ended

-- "With a +1 entry the day before has a second 23:59:60. With a -1 entry the day before has no 23:59:59. All other UTC days have 86,400 seconds."
-- Month m ends with the day before an entry of month m + 1.
abbrev pub DaysByEntries : Table → Type 0
DaysByEntries t = Days (offset_at t) (λ m. StepUp t (m + 1)) (λ m. StepDown t (m + 1))

-- under one table
pub record Ticking (t : Table) : Type 0 where
  -- which seconds are admitted
  pub days_by_entries : DaysByEntries t
  pub starts_in_1972 : Shows t 0 first_label
  -- a tick of an admitted label gives the next admitted one, and RANGE after the last second of 9999
  pub ticks_to_the_next : (l : Label) → admits t l ≡ true → ((l' : Label) × ((tick_results (tick t l) ≡ (0, l')) × Follows t l l')) ⊎ ((l ≡ last_label) × (tick_results (tick t l) ≡ ended))
  -- every admitted second once
  pub shows_every_second : (l : Label) → admits t l ≡ true → (n : ℕ) × Shows t n l
  pub shows_it_once : (j k : ℕ) (l : Label) → Shows t j l → Shows t k l → j ≡ k
  -- in calendar order, and no other
  pub in_calendar_order : (j k : ℕ) (l l' : Label) → j < k → Shows t j l → Shows t k l' → Before l l'
  pub shows_no_other : (n : ℕ) (l : Label) → Shows t n l → admits t l ≡ true
  -- n seconds after the first label, on UTC's axis
  pub keeps_the_seconds : (n : ℕ) (l : Label) → Shows t n l → axis_of (offset_at t) (whole l) ≡ axis_of (offset_at t) (whole first_label) +ℤ pos (1000000 * n)
  pub ends : (count : ℕ) × Ends t count

abbrev pub AllTick : Type 0
AllTick = (t : Table) → accepted t ≡ true → Ticking t
