-- Three texts, one behind another.
use mathlib.Core.Path.{refl}
use Rattle.phrases.proofs.Puts.{then}
use Rattle.tablewords.proofs.refuse_at.Goals as goal

pub returns : goal.returns
returns c =
    record { puts = then c.refuse-said.ensures.puts (then c.put-a.ensures c.put_unsigned.ensures); good = refl }
