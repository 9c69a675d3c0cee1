-- Name by name.
use Rattle.digits.specs.Bytes.{ascii}
use Rattle.stampwords.specs.Stamps.{clock_named}
use Rattle.phrases.proofs.Parts.{same_told}
use Rattle.stampwords.proofs.clock_named.Goals as goal

pub returns-then-same : goal.returns-then-same
unfolding clock_named
returns-then-same c =
    let s = c.args.name.now in
    rw (same_told s (ascii "UTC") c.same.ensures c.if-same.true)

pub returns-then-same-2 : goal.returns-then-same-2
unfolding clock_named
returns-then-same-2 c =
    let s = c.args.name.now in
    rw (same_told s (ascii "UTC") c.same.ensures c.if-same.false, same_told s (ascii "TAI") c.same-2.ensures c.if-same-2.true)

pub returns-then-same-3 : goal.returns-then-same-3
unfolding clock_named
returns-then-same-3 c =
    let s = c.args.name.now in
    rw (same_told s (ascii "UTC") c.same.ensures c.if-same.false, same_told s (ascii "TAI") c.same-2.ensures c.if-same-2.false, same_told s (ascii "TDT") c.same-3.ensures c.if-same-3.true)

pub returns-then-same-4 : goal.returns-then-same-4
unfolding clock_named
returns-then-same-4 c =
    let s = c.args.name.now in
    rw (same_told s (ascii "UTC") c.same.ensures c.if-same.false, same_told s (ascii "TAI") c.same-2.ensures c.if-same-2.false, same_told s (ascii "TDT") c.same-3.ensures c.if-same-3.false, same_told s (ascii "GPS") c.same-4.ensures c.if-same-4.true)

pub returns : goal.returns
unfolding clock_named
returns c =
    let s = c.args.name.now in
    rw (same_told s (ascii "UTC") c.same.ensures c.if-same.false, same_told s (ascii "TAI") c.same-2.ensures c.if-same-2.false, same_told s (ascii "TDT") c.same-3.ensures c.if-same-3.false, same_told s (ascii "GPS") c.same-4.ensures c.if-same-4.false)
