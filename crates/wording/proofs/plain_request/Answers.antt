-- Word by word.
use mathlib.Core.Path.{refl, sym, ◌∙◌}
use mathlib.Core.List.{[]}
use Rattle.laws.proofs.Branches.{cond_yes, cond_rest}
use Rattle.digits.specs.Bytes.{ascii}
use Rattle.phrases.proofs.Parts.{same_told}
use Rattle.wording.specs.Requests.{plain_request}
use Rattle.wording.proofs.plain_request.Goals as goal

pub returns-then-begins_with : goal.returns-then-begins_with
unfolding plain_request
returns-then-begins_with c =
    cond_yes _ (sym c.begins_with.ensures ∙ c.if-begins_with.true) refl

pub returns-then-same : goal.returns-then-same
unfolding plain_request
returns-then-same c =
    let s = c.args.line.now in
    cond_rest _ (sym c.begins_with.ensures ∙ c.if-begins_with.false)
    (cond_yes _ (same_told s (ascii "table") c.same.ensures c.if-same.true) refl)

pub returns-then-same-2 : goal.returns-then-same-2
unfolding plain_request
returns-then-same-2 c =
    let s = c.args.line.now in
    cond_rest _ (sym c.begins_with.ensures ∙ c.if-begins_with.false)
    (cond_rest _ (same_told s (ascii "table") c.same.ensures c.if-same.false)
    (cond_yes _ (same_told s (ascii "help") c.same-2.ensures c.if-same-2.true) refl))

pub returns-then-same-3 : goal.returns-then-same-3
unfolding plain_request
returns-then-same-3 c =
    let s = c.args.line.now in
    cond_rest _ (sym c.begins_with.ensures ∙ c.if-begins_with.false)
    (cond_rest _ (same_told s (ascii "table") c.same.ensures c.if-same.false)
    (cond_rest _ (same_told s (ascii "help") c.same-2.ensures c.if-same-2.false)
    (cond_yes _ (same_told s ([]) c.same-3.ensures c.if-same-3.true) refl)))

pub returns : goal.returns
unfolding plain_request
returns c =
    let s = c.args.line.now in
    cond_rest _ (sym c.begins_with.ensures ∙ c.if-begins_with.false)
    (cond_rest _ (same_told s (ascii "table") c.same.ensures c.if-same.false)
    (cond_rest _ (same_told s (ascii "help") c.same-2.ensures c.if-same-2.false)
    (cond_rest _ (same_told s ([]) c.same-3.ensures c.if-same-3.false)
    (refl))))
