-- Wholes as a factor and a shift, and doubles that are easily read otherwise.
-- Assumes nothing.
use Rattle.std.specs.Prelude.{◌≡◌, ◌+◌, ◌*◌, ◌^◌, true, false, pos, negsuc, from_bits}
use Rattle.std.specs.Float.{nan, inf, fin, binary64}
use Rattle.fraction.specs.Fraction.{fraction_of, is_fraction, is_half, nearest_of, nearest_at}

pub record Desk : Type 0 where
  -- the microseconds of a day, of one a second longer and of one a second shorter, and the nanoseconds of a second
  pub day : 15625 * 86400 * 2 ^ 6 ≡ 86400000000
  pub longer : 15625 * 86401 * 2 ^ 6 ≡ 86401000000
  pub shorter : 15625 * 86399 * 2 ^ 6 ≡ 86399000000
  pub nanos : 1953125 * 2 ^ 9 ≡ 1000000000
  -- ties, to the larger: 1 / 16384 of a day is 5,273,437.5 microseconds, and 1 / 128 of the others ends in .5 too
  pub day_tie : nearest_at (15625 * 86400) 6 (fin false 1 (negsuc 13)) ≡ 5273438
  pub longer_tie : nearest_at (15625 * 86401) 6 (fin false 1 (negsuc 6)) ≡ 675007813
  pub shorter_tie : nearest_at (15625 * 86399) 6 (fin false 1 (negsuc 6)) ≡ 674992188
  -- just below a tie: the product in doubles would round up
  pub day_no_tie : nearest_at (15625 * 86400) 6 (from_bits binary64 0x3fcb_26c2_e8ae_e24f) ≡ 18327202812
  pub longer_no_tie : nearest_at (15625 * 86401) 6 (from_bits binary64 0x3fef_8613_e657_d96f) ≡ 85115086212
  -- the largest double below 1 is nearest to the whole, and the smallest to nothing
  pub whole : nearest_at 1953125 9 (from_bits binary64 0x3fef_ffff_ffff_ffff) ≡ 1000000000
  pub nothing : nearest_at 1953125 9 (fin false 1 (negsuc 1073)) ≡ 0
  -- a negative double is read by its size
  pub minus : nearest_at 1953125 9 (fin true 1 (negsuc 0)) ≡ 500000000
  -- 1, infinities and NaN are not read, and neither is a larger factor or shift
  pub one : nearest_at 1953125 9 (fin false 1 (pos 0)) ≡ 0
  pub infinite : nearest_at 1953125 9 (inf true) ≡ 0
  pub no_number : nearest_at 1953125 9 nan ≡ 0
  pub factor_large : nearest_at (2 ^ 37) 9 (fin false 1 (negsuc 0)) ≡ 0
  pub shift_large : nearest_at 1953125 27 (fin false 1 (negsuc 0)) ≡ 0
  -- a decimal of nine digits comes back, and no part is +0.0
  pub decimal : nearest_of 1000000000 (fraction_of 1000000000 123456789) ≡ 123456789
  pub no_part : fraction_of 86400000000 0 ≡ fin false 0 (pos 0)
  -- minus zero, the sign's bit alone, is a fraction; minus the smallest double and 1 are none
  pub minus_zero_is : from_bits binary64 0x8000_0000_0000_0000 ≡ fin true 0 (pos 0)
  pub minus_zero : is_fraction (fin true 0 (pos 0)) ≡ true
  pub below_zero : is_fraction (fin true 1 (negsuc 1073)) ≡ false
  pub fraction_one : is_fraction (fin false 1 (pos 0)) ≡ false
  pub fraction_nan : is_fraction nan ≡ false
  pub fraction_infinite : is_fraction (inf false) ≡ false
  -- -0.5 and 2^51 + 0.5 are halves; 2451545.0, 2451544.25, minus zero, 2^52, infinities and NaN are none
  pub minus_half : is_half (fin true 1 (negsuc 0)) ≡ true
  pub noon : is_half (fin false 2451545 (pos 0)) ≡ false
  pub large : is_half (fin false (2 ^ 52 + 1) (negsuc 0)) ≡ true
  pub quarter : is_half (fin false 9806177 (negsuc 1)) ≡ false
  pub nothing_half : is_half (fin true 0 (pos 0)) ≡ false
  pub too_large : is_half (fin false 1 (pos 52)) ≡ false
  pub half_infinite : is_half (inf true) ≡ false
  pub half_nan : is_half nan ≡ false
