-- Too long a line is refused.
use mathlib.Core.Path.{refl, ap}
use mathlib.Core.List.{List}
use Prim.Native.Nat.{ℕ}
use borrow.Author.Tests.{le-leb, lt-leb}
use lib.ListN.{length}
use Rattle.laws.proofs.Branches.{cond_yes, cond_rest}
use Rattle.phrases.specs.Texts.{long_line}
use Rattle.phrases.specs.Replies.{refusing_as}
use Rattle.tablewords.specs.Loading.{leaving}
use Rattle.tablewords.proofs.Loading.{loads_as}
use Rattle.wording.specs.Wording.{judged}
use Rattle.wording.proofs.Wording.{head_is}
use Rattle.wording.proofs.judged.Goals as goal

pub returns-then-line-gt1024 : goal.returns-then-line-gt1024
unfolding judged
returns-then-line-gt1024 c =
    let s = c.args.line.now in
    loads_as (cond_rest _ (lt-leb (length s) 1024 c.if-line-gt1024.true) (ap (λ (g : List ℕ). leaving c.args.t.now (refusing_as 8 long_line g)) (head_is 40 s c.front-k.ensures.value)))
    (record { says = c.refuse_request.ensures; table = refl })

pub returns : goal.returns
unfolding judged
returns c =
    loads_as (cond_yes _ (le-leb (length c.args.line.now) 1024 c.if-line-gt1024.false) refl) c.asked.ensures
