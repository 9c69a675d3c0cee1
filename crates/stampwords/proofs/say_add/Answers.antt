-- Moved, or no number of seconds.
use mathlib.Core.Path.{sym, ap, ◌∙◌}
use Prim.Native.Nat.{ℕ}
use Rattle.phrases.proofs.Replies.{says_as}
use Rattle.stampwords.specs.Moves.{moved_reply, add_answer, add_reply}
use Rattle.stampwords.proofs.say_add.Goals as goal

pub returns-in-Some : goal.returns-in-Some
unfolding add_reply
returns-in-Some c =
    let a = c.args in
    says_as
    (ap (λ (j : ℕ). moved_reply a.t.now a.line.now a.given.now c.in-Some.m j 6) c.clock_of.ensures
    ∙ ap (add_answer a.t.now a.line.now a.by.now a.given.now) (sym c.in-Some.is ∙ c.move_given.ensures.0))
    c.say_moved.ensures

pub returns-in-None : goal.returns-in-None
unfolding add_reply
returns-in-None c =
    let a = c.args in
    says_as (ap (add_answer a.t.now a.line.now a.by.now a.given.now) (sym c.in-None.is ∙ c.move_given.ensures.0)) c.refuse_request.ensures
