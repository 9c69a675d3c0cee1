-- Two-part Julian dates: which pair an instant has and which instant a pair is read as, exactly when, under every table; and the parts of a whole, which the
-- fractions of each day are. The statements stand in crates/julian/specs/Promise.antt and crates/fraction/specs/Promise.antt.
-- Assumes nothing.
use Rattle.std.specs.Prelude.{ℕ, ◌^◌, ◌≤◌}
use Rattle.leap.specs.declared.Table.{Table}
use Rattle.fraction.specs.Promise.{Parts}
use Rattle.julian.specs.Promise.{Pairs}

abbrev pub JulianDates : Type 0
JulianDates = (t : Table) → Pairs t

abbrev pub PartsOfAWhole : Type 0
PartsOfAWhole = (whole : ℕ) → whole ≤ 2 ^ 52 → Parts whole
