-- Julian dates, as the crates `julian` and `fraction` prove them.
-- Assumes nothing.
use Rattle.fraction.proofs.Promise.{parts}
use Rattle.julian.proofs.Promise.{pairs}
use Rattle.promises.specs.Julian.{JulianDates, PartsOfAWhole}

pub julian_dates : JulianDates
julian_dates = pairs

pub parts_of_a_whole : PartsOfAWhole
parts_of_a_whole = parts
