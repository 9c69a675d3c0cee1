-- The test of the offset's bits is the test of the offset.
use mathlib.Core.Path.{ap}
use mathlib.Core.Bool.{◌&&◌}
use lib.Dec.{eqb}
use lib.IntN.{pos}
use borrow.Author.Rules.{rules}
use Rattle.laws.proofs.Machine.{bits_test}
use Rattle.leap.proofs.unused_right.Goals as goal

pub returns : goal.returns
returns c = ap (◌&&◌ (eqb c.args.month 0)) (bits_test {b = pos 0} c.ranges.offset (record { sfits = search rules }))
