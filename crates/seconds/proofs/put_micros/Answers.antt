-- Three texts, one behind another.
use Rattle.digits.proofs.Bytes.{digits_from}
use Rattle.seconds.specs.Seconds.{micros_text}
use Rattle.phrases.proofs.Puts.{puts_as, then}
use Rattle.seconds.proofs.put_micros.Goals as goal

pub returns : goal.returns
unfolding micros_text
returns c =
    then c.put_unsigned-a.ensures (then c.put-b.ensures (puts_as (digits_from 3 c.digits-nine.ensures) c.put.ensures))
