-- The promise of parts is kept, for every whole up to 2 ^ 52.
-- Assumes nothing.
use Rattle.std.proofs.Common.{ℕ, ◌^◌, ◌≤◌}
use Rattle.fraction.specs.Promise.{Parts}
use Rattle.fraction.proofs.Fraction.{is_nearest}
use Rattle.fraction.proofs.Division.{close, comes_back, fraction_fine}

pub parts : (whole : ℕ) → whole ≤ 2 ^ 52 → Parts whole
parts whole most = record { fraction = fraction_fine whole most; close = close whole most; comes_back = comes_back whole most; nearest = is_nearest whole }
