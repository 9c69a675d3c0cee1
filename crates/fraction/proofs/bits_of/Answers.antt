-- A number's bits are read back as the number.
use Rattle.std.proofs.Common.{T, sym, subst}
use lib.Ieee.{binary64}
use lib.Ieee.Bits.{of_bits-to_bits}
use Rattle.fraction.proofs.bits_of.Goals as goal

pub returns-else-is_nan : goal.returns-else-is_nan
returns-else-is_nan c = of_bits-to_bits binary64 c.args.x (subst T (sym c.well_formed.0.1) tt)
