-- The worked wholes and doubles are right.
-- Assumes nothing.
use Rattle.std.proofs.Common.{refl}
use lib.Ieee.{of_bits, of_int, div, le, lt, eq}
use Rattle.fraction.specs.Fraction.{fraction_of, is_fraction, is_half, nearest_of, size_below_one, nearest_at}
use Rattle.fraction.specs.Desk.{Desk}

pub desk : Desk
unfolding fraction_of is_fraction is_half nearest_of size_below_one nearest_at of_bits of_int div le lt eq
desk =
    record {
      day = refl;
      longer = refl;
      shorter = refl;
      nanos = refl;
      day_tie = refl;
      longer_tie = refl;
      shorter_tie = refl;
      day_no_tie = refl;
      longer_no_tie = refl;
      whole = refl;
      nothing = refl;
      minus = refl;
      one = refl;
      infinite = refl;
      no_number = refl;
      factor_large = refl;
      shift_large = refl;
      decimal = refl;
      no_part = refl;
      minus_zero_is = refl;
      minus_zero = refl;
      below_zero = refl;
      fraction_one = refl;
      fraction_nan = refl;
      fraction_infinite = refl;
      minus_half = refl;
      noon = refl;
      large = refl;
      quarter = refl;
      nothing_half = refl;
      too_large = refl;
      half_infinite = refl;
      half_nan = refl;
    }
