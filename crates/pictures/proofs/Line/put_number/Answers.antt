-- The last digits are those of fewer places.
use mathlib.Core.Path.{ap, ◌∙◌}
use mathlib.Core.List.{List, ◌++◌}
use Prim.Native.Nat.{ℕ, ◌-◌}
use lib.ListN.{take, drop}
use Rattle.pictures.proofs.Filled.{number_end}
use Rattle.pictures.proofs.Line.put_number.Goals as goal

pub returns : goal.returns
returns g c =
    let last = ap (λ (l : List ℕ). take (9 - (9 - g.row.W)) (drop (9 - g.row.W) l)) c.digits-nine.ensures ∙ number_end g.row.W c.args.n c.requires.few in
    c.put.ensures ∙ ap (λ (l : List ℕ). c.args.self.now ++ l) last
