-- The text stands behind what was put before.
use mathlib.Core.Path.{ap, ◌∙◌}
use mathlib.Core.List.{List, ◌++◌}
use Prim.Native.Nat.{ℕ}
use native.Mathlib.Omega.{arith}
use lib.ListN.{length}
use Rattle.pictures.proofs.Filled.{put_more}
use Rattle.pictures.proofs.Line.put.Goals as goal

pub returns : goal.returns
returns c =
    put_more c.self.inside.bytes c.self.inside.len c.args.text.now (omega arith) (omega (arith, ap length c.self.view_is)) c.append-self-inside.ensures ∙ ap (λ (l : List ℕ). l ++ c.args.text.now) c.self.view_is
