-- The bytes so far are put as they are shown.
use mathlib.Core.Path.{sym, ap, ◌∙◌}
use mathlib.Core.List.{[], ◌∷◌, ◌++◌}
use Prim.Native.Nat.{ℕ}
use native.Mathlib.Omega.{arith}
use lib.ListN.{take}
use lib.Seq.{take_all}
use Rattle.phrases.specs.Parts.{quoted}
use Rattle.phrases.proofs.Puts.{puts_none, puts_as, then}
use Rattle.phrases.proofs.Parts.{quoted_more}
use Rattle.phrases.proofs.put_quoted.Goals as goal

pub loop-b-init : goal.loop-b-init
unfolding quoted
loop-b-init c = puts_none _ _ c.put-next.ensures.counts.0

pub loop-b-preserved : goal.loop-b-preserved
loop-b-preserved c =
    let g = c.args.given.now in
    puts_as (ap (λ (b : ℕ). quoted (take c.loop-b.b-index g) ++ (b ∷ [])) c.shown_byte.ensures ∙ sym (quoted_more g c.loop-b.b-index (omega arith))) (then c.loop-b.invariant c.put-next-in-loop-b.ensures)

pub returns : goal.returns
returns c =
    puts_as (ap quoted (take_all c.loop-b.b-index c.args.given.now (omega arith))) (then c.put-next.ensures c.loop-b.invariant)
