-- Demand 3. "For any accepted table a plain clock that ticks by the rule from 1972-01-01 00:00:00 UTC shows every admitted second once, in calendar
-- order, and no other; its label after n ticks is the one the direct conversion gives for n seconds after the start, and converts back."
-- What is said of the clock alone is `Ticking`, in crates/clock/specs/Promise.antt; the clock does not know the conversions, and here the two are joined.
-- Assumes nothing.
use Rattle.std.specs.Prelude.{◌≡◌, true, ℕ, ◌*◌, ℤ, pos, neg_ℤ, ◌+ℤ◌}
use Rattle.leap.specs.declared.Table.{Table}
use Rattle.leap.specs.Leap.{accepted}
use Rattle.labels.specs.declared.Label.{Label}
use Rattle.labels.specs.Labels.{whole}
use Rattle.stamp.specs.declared.Scale.TheVariants.{Utc}
use Rattle.stamp.specs.Promise.{stamp, GivesInstant, GivesStamp}
use Rattle.clock.specs.Promise.{Shows, Ticking}

-- the instant n seconds after 1972-01-01 00:00:00 UTC
abbrev pub seconds_on : ℕ → ℤ
seconds_on n = neg_ℤ (pos 883655990000000) +ℤ pos (1000000 * n)

-- under one table
pub record InStep (t : Table) : Type 0 where
  -- every admitted second once, in calendar order, and no other
  pub ticking : Ticking t
  -- the direct conversion's label for n seconds after the start, and back
  pub is_converted : (n : ℕ) (l : Label) → Shows t n l → GivesStamp t 0 (seconds_on n) (stamp Utc (whole l))
  pub converts_back : (n : ℕ) (l : Label) → Shows t n l → GivesInstant t 0 (whole l) (seconds_on n)

abbrev pub Demand3 : Type 0
Demand3 = (t : Table) → accepted t ≡ true → InStep t
