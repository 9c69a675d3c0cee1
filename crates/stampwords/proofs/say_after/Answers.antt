-- One second on, on its own clock.
use mathlib.Core.Path.{ap}
use Prim.Native.Nat.{ℕ}
use Rattle.seconds.specs.declared.Move.TheVariants.{On}
use Rattle.phrases.proofs.Replies.{says_as}
use Rattle.stampwords.specs.Moves.{moved_reply}
use Rattle.stampwords.proofs.say_after.Goals as goal

pub returns : goal.returns
returns c =
    let a = c.args in
    says_as (ap (λ (n : ℕ). moved_reply a.t.now a.line.now a.given.now (On 1000000) n 0) c.clock_of.ensures) c.say_moved.ensures
