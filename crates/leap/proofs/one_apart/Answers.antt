-- One above, either way round.
use mathlib.Core.Path.{ap₂}
use mathlib.Core.Bool.{◌||◌}
use lib.IntN.{suc_ℤ}
use Rattle.laws.specs.Tests.{eq_z}
use Rattle.laws.proofs.Machine.{read2}
use Rattle.leap.specs.Leap.{one_apart}
use Rattle.leap.proofs.one_apart.Goals as goal

pub returns : goal.returns
unfolding one_apart
returns c =
    let f = c.ranges in
    ap₂ ◌||◌ (read2 (λ x y. eq_z y (suc_ℤ x)) f.a f.b c.one_above.ensures) (read2 (λ x y. eq_z y (suc_ℤ x)) f.b f.a c.one_above-2.ensures)
