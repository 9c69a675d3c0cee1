-- A digit more.
use mathlib.Core.Path.{sym, ◌∙◌}
use Rattle.columns.proofs.Fields.{reads_more}
use Rattle.columns.proofs.past_digits.Goals as goal

pub loop-i-preserved : goal.loop-i-preserved
loop-i-preserved c =
    reads_more c.loop-i.invariant c.loop-i-test.true (sym c.is_digit.ensures ∙ c.if-not-is_digit.false) c.digit_value.ensures.0 c.digit_value.ensures.1
