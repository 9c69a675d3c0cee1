-- By the word's first byte.
use Rattle.std.proofs.Common.{◌+◌, ◌-◌, ◌^◌, ◌∙◌, sym, ap, subst, arith}
use Rattle.std.specs.Prelude.{None}
use Rattle.digits.specs.Decimals.{decimal_of, Within}
use Rattle.digits.proofs.Decimals.{decimal_within}
use Rattle.fields.specs.Words.{negative, positive, integer_of}
use Rattle.fields.proofs.Words.{dash_empty, dash_minus, dash_plain, within_more}
use Rattle.fields.proofs.whole.Goals as goal

pub returns-in_default : goal.returns-in_default
unfolding integer_of
returns-in_default c = dash_empty None _ _ _ (omega (arith, c.in_default.len_below))

pub negative-requires : goal.negative-requires
negative-requires c =
    within_more (c.args.most + 1) (2 ^ 63) c.decimal.result (omega arith) (subst (Within (c.args.most + 1)) (sym c.decimal.ensures) (decimal_within (c.args.most + 1) _))

pub returns-then-first-eq45 : goal.returns-then-first-eq45
unfolding integer_of
returns-then-first-eq45 c =
    c.negative.ensures ∙ ap negative c.decimal.ensures
    ∙ dash_minus None (λ digits. negative (decimal_of (c.args.most + 1) digits)) _ c.args.word.now (λ e. omega (arith, e, c.in-len1-up.len_at_least)) c.if-first-eq45.true

pub positive-requires : goal.positive-requires
positive-requires c =
    let d = c.decimal-else-first-eq45 in
    within_more c.args.most (2 ^ 63 - 1) d.result (omega arith) (subst (Within c.args.most) (sym d.ensures) (decimal_within c.args.most _))

pub returns-else-first-eq45 : goal.returns-else-first-eq45
unfolding integer_of
returns-else-first-eq45 c =
    c.positive.ensures ∙ ap positive c.decimal-else-first-eq45.ensures
    ∙ dash_plain None _ (λ digits. positive (decimal_of c.args.most digits)) c.args.word.now (λ e. omega (arith, e, c.in-len1-up.len_at_least)) c.if-first-eq45.false
