-- The name is judged, then the two stamps.
use mathlib.Core.Path.{refl, sym, ap, ◌∙◌}
use Rattle.laws.proofs.Branches.{cond_yes, cond_rest}
use Rattle.phrases.proofs.Replies.{says_as}
use Rattle.stampwords.specs.Spans.{pass_answer, pass_reply}
use Rattle.stampwords.proofs.say_pass.Goals as goal

pub returns-then-not-real_name : goal.returns-then-not-real_name
unfolding pass_reply
returns-then-not-real_name c =
    says_as (cond_rest _ (sym c.real_name.ensures ∙ c.if-not-real_name.true) refl) c.refuse_request.ensures

pub returns-in-Ok : goal.returns-in-Ok
unfolding pass_reply
returns-in-Ok c =
    let a = c.args in
    says_as (cond_yes _ (sym c.real_name.ensures ∙ c.if-not-real_name.false) (ap (pass_answer a.name.now a.a.now a.b.now) (sym c.in-Ok.is ∙ c.span_between.ensures))) (record { puts = c.put_row.ensures; good = refl })

pub returns-in-Err : goal.returns-in-Err
unfolding pass_reply
returns-in-Err c =
    let a = c.args in
    says_as (cond_yes _ (sym c.real_name.ensures ∙ c.if-not-real_name.false) (ap (pass_answer a.name.now a.a.now a.b.now) (sym c.in-Err.is ∙ c.span_between.ensures))) c.say_misread.ensures
