-- As much is appended as there is room for.
use native.Mathlib.Omega.{arith}
use Rattle.phrases.proofs.Puts.{put_cut}
use Rattle.phrases.proofs.put.Goals as goal

pub returns : goal.returns
returns c = put_cut c.args.out.now c.args.at c.args.text.now (omega arith) c.append.ensures
