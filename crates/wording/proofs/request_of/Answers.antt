-- Word by word.
use mathlib.Core.Path.{refl, sym, ◌∙◌}
use Rattle.laws.proofs.Branches.{cond_yes, cond_rest}
use Rattle.wording.specs.Requests.{request_of}
use Rattle.wording.proofs.request_of.Goals as goal

pub returns-then-begins_with : goal.returns-then-begins_with
unfolding request_of
returns-then-begins_with c =
    cond_yes _ (sym c.begins_with.ensures ∙ c.if-begins_with.true) refl

pub returns-then-begins_with-2 : goal.returns-then-begins_with-2
unfolding request_of
returns-then-begins_with-2 c =
    cond_rest _ (sym c.begins_with.ensures ∙ c.if-begins_with.false)
    (cond_yes _ (sym c.begins_with-2.ensures ∙ c.if-begins_with-2.true) refl)

pub returns-then-begins_with-3 : goal.returns-then-begins_with-3
unfolding request_of
returns-then-begins_with-3 c =
    cond_rest _ (sym c.begins_with.ensures ∙ c.if-begins_with.false)
    (cond_rest _ (sym c.begins_with-2.ensures ∙ c.if-begins_with-2.false)
    (cond_yes _ (sym c.begins_with-3.ensures ∙ c.if-begins_with-3.true) refl))

pub returns-then-begins_with-4 : goal.returns-then-begins_with-4
unfolding request_of
returns-then-begins_with-4 c =
    cond_rest _ (sym c.begins_with.ensures ∙ c.if-begins_with.false)
    (cond_rest _ (sym c.begins_with-2.ensures ∙ c.if-begins_with-2.false)
    (cond_rest _ (sym c.begins_with-3.ensures ∙ c.if-begins_with-3.false)
    (cond_yes _ (sym c.begins_with-4.ensures ∙ c.if-begins_with-4.true) refl)))

pub returns-then-begins_with-5 : goal.returns-then-begins_with-5
unfolding request_of
returns-then-begins_with-5 c =
    cond_rest _ (sym c.begins_with.ensures ∙ c.if-begins_with.false)
    (cond_rest _ (sym c.begins_with-2.ensures ∙ c.if-begins_with-2.false)
    (cond_rest _ (sym c.begins_with-3.ensures ∙ c.if-begins_with-3.false)
    (cond_rest _ (sym c.begins_with-4.ensures ∙ c.if-begins_with-4.false)
    (cond_yes _ (sym c.begins_with-5.ensures ∙ c.if-begins_with-5.true) refl))))

pub returns : goal.returns
unfolding request_of
returns c =
    cond_rest _ (sym c.begins_with.ensures ∙ c.if-begins_with.false)
    (cond_rest _ (sym c.begins_with-2.ensures ∙ c.if-begins_with-2.false)
    (cond_rest _ (sym c.begins_with-3.ensures ∙ c.if-begins_with-3.false)
    (cond_rest _ (sym c.begins_with-4.ensures ∙ c.if-begins_with-4.false)
    (cond_rest _ (sym c.begins_with-5.ensures ∙ c.if-begins_with-5.false)
    (c.plain_request.ensures)))))
