-- The last of all the places, as many as the number has digits.
use Prim.Native.Nat.{◌-◌}
use mathlib.Core.Path.{ap, ◌∙◌}
use native.Mathlib.Omega.{arith}
use lib.ListN.{length, drop}
use Rattle.digits.proofs.Decimals.{last_are}
use Rattle.digits.proofs.unsigned_text.Goals as goal

pub returns : goal.returns
returns c =
    let w = c.width.ensures in
    let p = c.all_places-bytes.ensures in
    record { behind = ap (drop (21 - c.width.result)) p ∙ last_are c.args.n w.0 w.2; whole = ap length p; low = omega arith; high = omega arith }
