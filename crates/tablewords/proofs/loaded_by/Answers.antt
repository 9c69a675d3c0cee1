-- By the answer.
use mathlib.Core.Path.{sym, ap}
use Rattle.tablewords.specs.Loading.{loaded_by}
use Rattle.tablewords.proofs.Loading.{loads_as}
use Rattle.tablewords.proofs.loaded_by.Goals as goal

pub returns-in-Ok : goal.returns-in-Ok
returns-in-Ok c = loads_as (ap (loaded_by c.args.given.now) (sym c.in-Ok.is)) c.take_up.ensures

pub returns-in-Err : goal.returns-in-Err
returns-in-Err c = loads_as (ap (loaded_by c.args.given.now) (sym c.in-Err.is)) (record { says = c.refuse_at.ensures; table = c.empty.ensures })
