-- Number and sentence are those of the refusal.
use mathlib.Core.Path.{ap}
use Prim.Native.Nat.{ℕ}
use Rattle.phrases.specs.Replies.{refusing_as}
use Rattle.phrases.proofs.Replies.{says_as}
use Rattle.phrases.proofs.refuse.Goals as goal

pub returns : goal.returns
returns c =
    says_as (ap (λ (k : ℕ). refusing_as k k c.args.given.now) c.from-n.ensures) c.refuse_as.ensures
