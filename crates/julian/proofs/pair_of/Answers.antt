-- `julian::pair_of` meets its contract: the code has 0.5 by its bit pattern.
use Rattle.std.proofs.Common.{◌≡◌, false, negsuc, refl}
use lib.Ieee.{fin, binary64, of_bits}
use Rattle.julian.specs.Midnight.{midnight_of}
use Rattle.julian.proofs.pair_of.Goals as goal

half_pattern : of_bits binary64 0x3fe0_0000_0000_0000 ≡ fin false 1 (negsuc 0)
unfolding of_bits
half_pattern = refl

pub returns : goal.returns
unfolding midnight_of
returns c = cc half_pattern
