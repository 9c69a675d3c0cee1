-- What is stored and what is still to be read are all the pairs.
use Rattle.std.proofs.Common.{◌+◌, ◌*◌, arith}
use Rattle.lines.proofs.Pairs.{read_none, read_more, read_done, pair_good, pair_end}
use Rattle.lines.proofs.unhex.Goals as goal

pub loop-i-init : goal.loop-i-init
loop-i-init c = read_none _ _

pub loop-i-preserved : goal.loop-i-preserved
loop-i-preserved c =
    let word = c.args.word.now in
    let l = c.loop-i in
    let a = c.hex_digit.ensures.0 in
    let b = c.hex_digit-in-loop-i.ensures.0 in
    read_more word c.args.out.now l.out l.i l.invariant c.requires.room _ (omega arith)
    (pair_good word l.i (omega arith) a b (omega (arith, a, c.requires.digits (l.i * 2) (omega arith))) (omega (arith, b, c.requires.digits (l.i * 2 + 1) (omega arith))))

pub returns : goal.returns
returns c =
    let word = c.args.word.now in
    let l = c.loop-i in
    let r = read_done word c.args.out.now l.out l.i l.invariant c.requires.room (pair_end word l.i (omega arith)) in
    (omega (arith, r.0), r.1)
