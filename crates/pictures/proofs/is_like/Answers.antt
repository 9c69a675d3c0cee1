use mathlib.Core.Path.{◌≡◌, ap}
use mathlib.Core.Logic.{⊎_elim}
use native.Mathlib.Omega.{arith}
use lib.ListN.{length}
use Rattle.pictures.proofs.Patterns.{like_more, like_none}
use Rattle.pictures.proofs.is_like.Goals as goal

pub loop-c-preserved : goal.loop-c-preserved
loop-c-preserved c =
    let s = c.in-Some.ensures.steps in
    (omega (arith, ap length s.0, ap length s.1), rw c.as_shown-fine.ensures (like_more c.loop-c.fine s.0 s.1 c.loop-c.invariant.1))

pub returns : goal.returns
returns c =
    let a = c.loop-c.c-iterator.a.rest.now in
    let b = c.loop-c.c-iterator.b.rest.now in
    let both : (length a ≡ 0) × (length b ≡ 0) = ⊎_elim (λ q. (q.1.0, omega (arith, q.1.0))) (λ q. (omega (arith, q.1.0), q.1.0)) c.in-None.ensures.steps in
    like_none c.loop-c.fine a b both.0 both.1 c.loop-c.invariant.1
