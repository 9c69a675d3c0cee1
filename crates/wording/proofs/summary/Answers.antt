-- Six texts, one behind another.
use mathlib.Core.Path.{ap}
use Rattle.digits.specs.Decimals.{decimal_text}
use Rattle.phrases.proofs.Puts.{puts_as, then}
use Rattle.wording.specs.Summary.{summary_text}
use Rattle.wording.proofs.summary.Goals as goal

pub returns : goal.returns
unfolding summary_text
returns c =
    then (puts_as (ap decimal_text c.saturating_sub.ensures) c.put_unsigned-a.ensures) (then c.put-b.ensures (then c.put_unsigned-c.ensures (then c.put-d.ensures (then c.put_bad-e.ensures c.put.ensures))))
