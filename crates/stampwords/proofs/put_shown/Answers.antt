-- Four texts, one behind another.
use Rattle.phrases.proofs.Puts.{puts_as, then}
use Rattle.stampwords.proofs.put_shown.Goals as goal

pub returns : goal.returns
returns c =
    then (puts_as c.clock_name-name.ensures c.put-a.ensures) (then c.put-b.ensures (then c.put-c.ensures c.put_beyond.ensures))
