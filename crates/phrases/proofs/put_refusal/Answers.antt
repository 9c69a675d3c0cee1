-- Four texts, one behind another.
use Rattle.phrases.specs.Texts.{refusal_text}
use Rattle.phrases.proofs.Puts.{then}
use Rattle.phrases.proofs.put_refusal.Goals as goal

pub returns : goal.returns
unfolding refusal_text
returns c =
    then c.put-a.ensures (then c.put_named-b.ensures (then c.put-c.ensures c.put_quoted.ensures))
