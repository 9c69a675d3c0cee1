-- The sign, and whether there is a second digit.
use native.Mathlib.Omega.{arith}
use lib.IntN.{pos, negsuc}
use mir.Facts.{to_z-of_z}
use Rattle.laws.proofs.Difference.{lt_z_true, lt_z_false}
use Rattle.laws.proofs.Machine.{one_side}
use Rattle.cards.proofs.Storing.{width_is}
use Rattle.cards.proofs.signed_width.Goals as goal

pub returns-then-z-ltminus9 : goal.returns-then-z-ltminus9
returns-then-z-ltminus9 c = let z = c.args.z in
    omega (arith, width_is z c.requires, one_side z, lt_z_true z (negsuc 8) (rw (to_z-of_z c.ranges.z) at c.if-z-ltminus9.true))

pub returns-then-z-lt0 : goal.returns-then-z-lt0
returns-then-z-lt0 c = let z = c.args.z in
    omega (arith, width_is z c.requires, one_side z, lt_z_false z (negsuc 8) (rw (to_z-of_z c.ranges.z) at c.if-z-ltminus9.false), lt_z_true z (pos 0) (rw (to_z-of_z c.ranges.z) at c.if-z-lt0.true))

pub returns-then-z-lt10 : goal.returns-then-z-lt10
returns-then-z-lt10 c = let z = c.args.z in
    omega (arith, width_is z c.requires, one_side z, lt_z_false z (pos 0) (rw (to_z-of_z c.ranges.z) at c.if-z-lt0.false), lt_z_true z (pos 10) (rw (to_z-of_z c.ranges.z) at c.if-z-lt10.true))

pub returns-else-z-lt10 : goal.returns-else-z-lt10
returns-else-z-lt10 c = let z = c.args.z in
    omega (arith, c.requires, width_is z c.requires, one_side z, lt_z_false z (pos 10) (rw (to_z-of_z c.ranges.z) at c.if-z-lt10.false))
