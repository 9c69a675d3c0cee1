-- Request by request, of what stands behind its word.
use mathlib.Core.Path.{refl, sym, ap, ◌∙◌}
use Rattle.stampwords.specs.Moves.{after_reply}
use Rattle.phrases.proofs.Replies.{says_as}
use Rattle.wording.specs.Wording.{ask_between, ask_show, ask_add, ask_named, ask_why, reply_to}
use Rattle.wording.proofs.Wording.{tail_is}
use Rattle.wording.proofs.reply.Goals as goal

pub returns-in-Between : goal.returns-in-Between
returns-in-Between c =
    let a = c.args in
    says_as (ap (ask_between a.t.now) (tail_is 8 a.line.now c.front-eight.result c.front-eight.ensures.value) ∙ ap (reply_to a.t.now a.line.now) (sym c.in-Between.is ∙ c.request_of.ensures)) c.ask_between.ensures

pub returns-in-Show : goal.returns-in-Show
returns-in-Show c =
    let a = c.args in
    says_as (ap (ask_show a.t.now a.line.now) (tail_is 5 a.line.now c.front-five.result c.front-five.ensures.value) ∙ ap (reply_to a.t.now a.line.now) (sym c.in-Show.is ∙ c.request_of.ensures)) c.ask_show.ensures

pub returns-in-After : goal.returns-in-After
returns-in-After c =
    let a = c.args in
    says_as (ap (after_reply a.t.now a.line.now) (tail_is 6 a.line.now c.front-six.result c.front-six.ensures.value) ∙ ap (reply_to a.t.now a.line.now) (sym c.in-After.is ∙ c.request_of.ensures)) c.say_after.ensures

pub returns-in-Add : goal.returns-in-Add
returns-in-Add c =
    let a = c.args in
    says_as (ap (ask_add a.t.now a.line.now) (tail_is 4 a.line.now c.front-four.result c.front-four.ensures.value) ∙ ap (reply_to a.t.now a.line.now) (sym c.in-Add.is ∙ c.request_of.ensures)) c.ask_add.ensures

pub returns-in-Pass : goal.returns-in-Pass
returns-in-Pass c =
    let a = c.args in
    says_as (ap (ask_named a.t.now) (tail_is 5 a.line.now c.front-five.result c.front-five.ensures.value) ∙ ap (reply_to a.t.now a.line.now) (sym c.in-Pass.is ∙ c.request_of.ensures)) c.ask_named.ensures

pub returns-in-Entries : goal.returns-in-Entries
returns-in-Entries c =
    let a = c.args in
    says_as (ap (reply_to a.t.now a.line.now) (sym c.in-Entries.is ∙ c.request_of.ensures)) (record { puts = c.put_entries.ensures; good = refl })

pub returns-in-Why : goal.returns-in-Why
returns-in-Why c =
    let a = c.args in
    says_as (ap (ask_why) (tail_is 4 a.line.now c.front-four.result c.front-four.ensures.value) ∙ ap (reply_to a.t.now a.line.now) (sym c.in-Why.is ∙ c.request_of.ensures)) c.ask_why.ensures

pub returns-in-Help : goal.returns-in-Help
returns-in-Help c =
    let a = c.args in
    says_as (ap (reply_to a.t.now a.line.now) (sym c.in-Help.is ∙ c.request_of.ensures)) (record { puts = c.put_help.ensures; good = refl })

pub returns-in-Nothing : goal.returns-in-Nothing
returns-in-Nothing c =
    let a = c.args in
    says_as (ap (reply_to a.t.now a.line.now) (sym c.in-Nothing.is ∙ c.request_of.ensures)) (record { puts = c.put.ensures; good = refl })

pub returns-in-Unknown : goal.returns-in-Unknown
returns-in-Unknown c =
    let a = c.args in
    says_as (ap (reply_to a.t.now a.line.now) (sym c.in-Unknown.is ∙ c.request_of.ensures)) c.refuse.ensures
