-- The seconds, or the refusal of the stamp at fault.
use mathlib.Core.Path.{refl, sym, ap, ◌∙◌}
use Rattle.phrases.proofs.Replies.{says_as}
use Rattle.stampwords.specs.Spans.{between_answer, between_reply}
use Rattle.stampwords.proofs.say_between.Goals as goal

pub returns-in-Ok : goal.returns-in-Ok
unfolding between_reply
returns-in-Ok c =
    let a = c.args in
    says_as (ap (between_answer a.a.now a.b.now) (sym c.in-Ok.is ∙ c.span_between.ensures)) (record { puts = c.put_between.ensures; good = refl })

pub returns-in-Err : goal.returns-in-Err
unfolding between_reply
returns-in-Err c =
    let a = c.args in
    says_as (ap (between_answer a.a.now a.b.now) (sym c.in-Err.is ∙ c.span_between.ensures)) c.say_misread.ensures
