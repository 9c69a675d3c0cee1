-- Past the end, no blank, or up to the next blank.
use Rattle.std.proofs.Common.{arith}
use Rattle.fields.proofs.Words.{word_none, word_past, word_some}
use Rattle.fields.proofs.next_word.Goals as goal
use Rattle.fields.proofs.next_word.Goals.{then-line-at-via-then-line-at, then-line-at-via-else-line-at+then-line-at-ne32}

pub returns-then-line-at : goal.returns-then-line-at
returns-then-line-at c =
    elim c.then-line-at.branch [
      | then-line-at-via-then-line-at w ↦ word_past c.args.line.now c.args.at (omega (arith, w.if-line-at))
      | then-line-at-via-else-line-at+then-line-at-ne32 w ↦ word_none c.args.line.now c.args.at w.if-line-at-ne32.true
    ]

pub returns : goal.returns
returns c = word_some c.args.line.now c.args.at c.if-line-at-ne32.false c.until-end.ensures.value
