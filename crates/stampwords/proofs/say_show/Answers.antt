-- Not moved, on the clock that is named.
use mathlib.Core.Path.{ap}
use Prim.Native.Nat.{ℕ}
use Rattle.seconds.specs.declared.Move.TheVariants.{On}
use Rattle.phrases.proofs.Replies.{says_as}
use Rattle.stampwords.specs.Moves.{moved_reply}
use Rattle.stampwords.proofs.say_show.Goals as goal

pub returns : goal.returns
returns c =
    let a = c.args in
    says_as (ap (λ (n : ℕ). moved_reply a.t.now a.line.now a.given.now (On 0) n 6) c.clock_named.ensures) c.say_moved.ensures
