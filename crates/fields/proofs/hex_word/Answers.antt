-- By the word's first byte.
use Rattle.std.proofs.Common.{◌∙◌, length, sym, arith}
use Rattle.fields.proofs.Words.{hex_empty, hex_dash, hex_dashed, word_plain}
use Rattle.fields.proofs.hex_word.Goals as goal

pub returns-in_default : goal.returns-in_default
returns-in_default c = hex_empty c.args.out.now c.args.word.now (omega (arith, c.in_default.len_below))

pub returns-then-first-ne45 : goal.returns-then-first-ne45
returns-then-first-ne45 c =
    let h = c.hex.ensures in
    (h.0 ∙ word_plain (length c.args.out.now) c.args.word.now (λ e. omega (arith, e, c.in-len1-up.len_at_least)) c.if-first-ne45.true, h.1)

pub returns-then-is_empty : goal.returns-then-is_empty
returns-then-is_empty c =
    hex_dash c.args.out.now c.args.word.now (λ e. omega (arith, e, c.in-len1-up.len_at_least)) c.if-first-ne45.false (sym c.is_empty.ensures) c.if-is_empty.true

pub returns-else-is_empty : goal.returns-else-is_empty
returns-else-is_empty c =
    hex_dashed c.args.out.now c.args.word.now (λ e. omega (arith, e, c.in-len1-up.len_at_least)) c.if-first-ne45.false (sym c.is_empty.ensures) c.if-is_empty.false
