-- Three texts, one behind another.
use Rattle.phrases.specs.Texts.{why_text}
use Rattle.phrases.proofs.Puts.{then}
use Rattle.phrases.proofs.put_why.Goals as goal

pub returns : goal.returns
unfolding why_text
returns c = then c.put_named-a.ensures (then c.put-b.ensures c.put_line.ensures)
