-- By the word's first byte.
use Rattle.std.proofs.Common.{◌∙◌, arith}
use Rattle.std.specs.Prelude.{None}
use Rattle.digits.specs.Decimals.{decimal_of}
use Rattle.fields.specs.Words.{natural_of}
use Rattle.fields.proofs.Words.{dash_empty, dash_minus, dash_plain}
use Rattle.fields.proofs.natural.Goals as goal

pub returns-in_default : goal.returns-in_default
unfolding natural_of
returns-in_default c = dash_empty None _ _ _ (omega (arith, c.in_default.len_below))

pub returns-then-first-eq45 : goal.returns-then-first-eq45
unfolding natural_of
returns-then-first-eq45 c =
    c.decimal.ensures ∙ dash_minus None (decimal_of 0) _ c.args.word.now (λ e. omega (arith, e, c.in-len1-up.len_at_least)) c.if-first-eq45.true

pub returns-else-first-eq45 : goal.returns-else-first-eq45
unfolding natural_of
returns-else-first-eq45 c =
    c.decimal-else-first-eq45.ensures ∙ dash_plain None _ (decimal_of c.args.most) c.args.word.now (λ e. omega (arith, e, c.in-len1-up.len_at_least)) c.if-first-eq45.false
