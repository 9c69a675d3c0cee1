-- What is promised of the parts of a whole. `parts` of proofs/Promise.antt keeps it for every whole up to 2 ^ 52.
-- Assumes nothing.
use Rattle.std.specs.Prelude.{◌≡◌, ℕ, ◌<◌, true, Float}
use Rattle.fraction.specs.Fraction.{fraction_of, is_fraction, nearest_of, Close, Nearest}

pub record Parts (whole : ℕ) : Type 0 where
  -- a part is written as a number at least 0 and below 1
  pub fraction : (part : ℕ) → part < whole → is_fraction (fraction_of whole part) ≡ true
  -- within one part in 2 ^ 54 of the exact one
  pub close : (part : ℕ) → part < whole → Close whole (fraction_of whole part) part
  -- and comes back exactly
  pub comes_back : (part : ℕ) → part < whole → nearest_of whole (fraction_of whole part) ≡ part
  -- whatever double is read, written here or not
  pub nearest : (x : Float) → Nearest whole x (nearest_of whole x)
