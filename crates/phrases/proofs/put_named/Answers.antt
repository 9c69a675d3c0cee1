-- Five texts, one behind another.
use Rattle.phrases.specs.Texts.{named_text}
use Rattle.phrases.proofs.Puts.{then}
use Rattle.phrases.proofs.put_named.Goals as goal

pub returns : goal.returns
unfolding named_text
returns c =
    then c.put_unsigned-a.ensures (then c.put-b.ensures (then c.put_line-c.ensures (then c.put-d.ensures c.put_line.ensures)))
