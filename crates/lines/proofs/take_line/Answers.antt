-- The piece ends in the chunk, at a line end or at the chunk's.
use Rattle.std.proofs.Common.{◌≡◌, true, false, nat_lt, length, arith}
use borrow.Author.Tests.{lt-ltb, le-ltb}
use Rattle.lines.proofs.Cuts.{taken_whole, taken_part}
use Rattle.lines.proofs.take_line.Goals as goal

pub returns-then-ended-clause-value : goal.returns-then-ended-clause-value
returns-then-ended-clause-value c =
    let a = c.args in
    let u = c.until-end.ensures in
    let k = taken_whole a.chunk.now a.from c.front-first.ensures.value u.value (u.upper_bound.0 (omega arith)) a.line.now a.held c.hold-len.ensures (omega arith) in
    let e : nat_lt c.until-end.result (length a.chunk.now) ≡ true = lt-ltb _ _ (omega arith) in
    rw e k.0

pub returns-else-ended-clause-value : goal.returns-else-ended-clause-value
returns-else-ended-clause-value c =
    let a = c.args in
    let u = c.until-end.ensures in
    let k = taken_part a.chunk.now a.from c.front-first.ensures.value u.value (u.upper_bound.0 (omega arith)) a.line.now a.held c.hold-len.ensures (omega arith) in
    let e : nat_lt c.until-end.result (length a.chunk.now) ≡ false = le-ltb _ _ (omega arith) in
    rw e k.0
