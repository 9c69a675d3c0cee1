-- Nothing, or how many more.
use mathlib.Core.Path.{refl}
use Prim.Native.Nat.{◌<◌}
use native.Mathlib.Omega.{arith}
use Rattle.laws.proofs.Branches.{if_less, if_not_less}
use Rattle.phrases.proofs.Puts.{puts_as, then}
use Rattle.wording.proofs.put_more.Goals as goal

pub returns-then-bad-le20 : goal.returns-then-bad-le20
returns-then-bad-le20 c =
    puts_as (if_not_less _ c.if-bad-le20.true refl) c.put.ensures

pub returns : goal.returns
returns c =
    let h : 20 < c.args.bad = omega arith in
    puts_as (if_less _ h refl) (then c.put-a.ensures (then c.put_unsigned-b.ensures c.put-2.ensures))
