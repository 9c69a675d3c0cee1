-- What the digits passed give, and those to come, is the whole; sixteen digits fit.
use Rattle.std.proofs.Common.{sym, ◌∙◌, arith}
use lib.Dec.{lit<}
use Rattle.fields.proofs.Words.{nibbled_more, nibbled_bad, nibbled_end, pattern_short, pattern_of_lem, below, more_digits}
use Rattle.fields.proofs.bits_of.Goals as goal

pub returns-then-word-ne16 : goal.returns-then-word-ne16
returns-then-word-ne16 c = pattern_short c.args.word.now c.if-word-ne16.true

pub loop-b-init : goal.loop-b-init
loop-b-init c = (lit< tt, pattern_of_lem c.args.word.now c.if-word-ne16.false)

pub returns-then-d-gt15 : goal.returns-then-d-gt15
returns-then-d-gt15 c =
    let l = c.loop-b in
    sym (nibbled_bad l.n l.b-index c.hex_digit-d.result c.args.word.now (omega arith) c.hex_digit-d.ensures.0 (omega arith)) ∙ l.invariant.1

pub overflow_mul-n : goal.overflow_mul-n
overflow_mul-n c = let b = below c.loop-b.n c.loop-b.b-index c.loop-b.invariant.0 (omega arith) in record { fits = omega arith }

pub overflow_add-n : goal.overflow_add-n
overflow_add-n c =
    let b = below c.loop-b.n c.loop-b.b-index c.loop-b.invariant.0 (omega arith) in record { fits = omega (arith, c.from.ensures) }

pub loop-b-preserved : goal.loop-b-preserved
loop-b-preserved c =
    let l = c.loop-b in
    let w = c.args.word.now in
    let e = c.from.ensures ∙ c.hex_digit-d.ensures.0 in (
      more_digits l.n l.b-index c.from.result l.invariant.0 (omega (arith, c.from.ensures)),
      sym (nibbled_more l.n l.b-index c.from.result w (omega arith) e (omega (arith, c.from.ensures))) ∙ l.invariant.1,
    )

pub returns : goal.returns
returns c = sym (nibbled_end c.loop-b.n c.loop-b.b-index c.args.word.now (omega arith)) ∙ c.loop-b.invariant.1
