-- A line feed behind the reply.
use Rattle.phrases.proofs.Puts.{then}
use Rattle.wording.specs.Wording.{answered}
use Rattle.wording.proofs.answer.Goals as goal

pub returns : goal.returns
unfolding answered
returns c =
    let j = c.judged.ensures in
    record { says = record { puts = then j.says.puts c.put.ensures; good = j.says.good }; table = j.table }
