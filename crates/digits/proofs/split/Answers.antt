-- So many pieces of 1000000000 * 2 ^ k, and what is left.
use Rattle.std.proofs.Common.{◌-◌, ◌<◌, arith}
use Rattle.digits.proofs.Taking.{shifted, double, halves, one_off}
use Rattle.digits.proofs.split.Goals as goal

pub loop-k-preserved-then-part-rest : goal.loop-k-preserved-then-part-rest
loop-k-preserved-then-part-rest c =
    let l = c.loop-k in
    let p : 0 < l.k = omega arith in
    let s = shifted (l.k - 1) (omega arith) in
    rw s
    (one_off c.args.n l.above l.k l.rest p l.invariant.0 (omega (arith, s, c.if-part-rest.true)), omega (arith, l.invariant.1, double l.k p))

pub loop-k-preserved : goal.loop-k-preserved
loop-k-preserved c =
    let l = c.loop-k in
    (halves c.args.n l.above l.k l.rest (omega arith) l.invariant.0, omega (arith, shifted (l.k - 1) (omega arith), c.if-part-rest.false))
