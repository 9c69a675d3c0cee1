-- What is given, and a comma.
use Rattle.phrases.proofs.Puts.{then}
use Rattle.stampwords.proofs.put_cell.Goals as goal

pub returns : goal.returns
returns c = then c.put_quoted-a.ensures c.put.ensures
