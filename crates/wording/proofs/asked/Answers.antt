-- A table is loaded or vouched for, or it stays.
use mathlib.Core.Path.{◌≡◌, refl, sym, ap, ◌∙◌}
use mathlib.Core.Bool.{false}
use mathlib.Core.List.{List}
use Prim.Native.Nat.{ℕ}
use Rattle.laws.proofs.Branches.{cond_yes, cond_rest}
use Rattle.digits.specs.Bytes.{ascii}
use Rattle.phrases.specs.Parts.{begins_with}
use Rattle.tablewords.specs.Loading.{load_block, load_kernel, load_cards, vouch}
use Rattle.tablewords.proofs.Loading.{loads_as}
use Rattle.wording.specs.Wording.{requested}
use Rattle.wording.proofs.Wording.{tail_is}
use Rattle.wording.proofs.asked.Goals as goal
use Rattle.wording.proofs.asked.Goals.{Else-begins_with, Else-begins_with-2, Else-begins_with-3}

-- what the line is not, at the tests behind
no_block : (c : goal.Else-begins_with) → begins_with (ascii "table block ") c.args.line.now ≡ false
no_block c = sym c.begins_with.ensures ∙ c.if-begins_with.false

no_kernel : (c : goal.Else-begins_with-2) → begins_with (ascii "table kernel ") c.args.line.now ≡ false
no_kernel c = sym c.begins_with-2.ensures ∙ c.if-begins_with-2.false

no_cards : (c : goal.Else-begins_with-3) → begins_with (ascii "table cards ") c.args.line.now ≡ false
no_cards c = sym c.begins_with-3.ensures ∙ c.if-begins_with-3.false

pub returns-then-begins_with : goal.returns-then-begins_with
unfolding requested
returns-then-begins_with c =
    let a = c.args in
    loads_as
    (cond_yes _ (sym c.begins_with.ensures ∙ c.if-begins_with.true) (ap load_block (tail_is 12 a.line.now c.front-from.result c.front-from.ensures.value)))
    c.load_block.ensures

pub returns-then-begins_with-2 : goal.returns-then-begins_with-2
unfolding requested
returns-then-begins_with-2 c =
    let a = c.args in
    loads_as
    (cond_rest _ (no_block (goal.at.returns-then-begins_with-2 c).Else-begins_with) (cond_yes _ (sym c.begins_with-2.ensures ∙ c.if-begins_with-2.true) (ap (λ (s : List ℕ). load_kernel s a.readable a.file.now) (tail_is 13 a.line.now c.front-from-then-begins_with-2.result c.front-from-then-begins_with-2.ensures.value))))
    c.load_kernel.ensures

pub returns-then-begins_with-3 : goal.returns-then-begins_with-3
unfolding requested
returns-then-begins_with-3 c =
    let a = c.args in
    loads_as
    (cond_rest _ (no_block (goal.at.returns-then-begins_with-3 c).Else-begins_with) (cond_rest _ (no_kernel (goal.at.returns-then-begins_with-3 c).Else-begins_with-2) (cond_yes _ (sym c.begins_with-3.ensures ∙ c.if-begins_with-3.true) (ap (λ (s : List ℕ). load_cards s a.readable a.file.now) (tail_is 12 a.line.now c.front-from-then-begins_with-3.result c.front-from-then-begins_with-3.ensures.value)))))
    c.load_cards.ensures

pub returns-then-begins_with-4 : goal.returns-then-begins_with-4
unfolding requested
returns-then-begins_with-4 c =
    let a = c.args in
    loads_as
    (cond_rest _ (no_block (goal.at.returns-then-begins_with-4 c).Else-begins_with) (cond_rest _ (no_kernel (goal.at.returns-then-begins_with-4 c).Else-begins_with-2) (cond_rest _ (no_cards (goal.at.returns-then-begins_with-4 c).Else-begins_with-3) (cond_yes _ (sym c.begins_with-4.ensures ∙ c.if-begins_with-4.true) (ap (vouch a.t.now) (tail_is 8 a.line.now c.front-from-then-begins_with-4.result c.front-from-then-begins_with-4.ensures.value))))))
    c.vouch.ensures

pub returns : goal.returns
unfolding requested
returns c =
    loads_as
    (cond_rest _ (no_block (goal.at.returns c).Else-begins_with) (cond_rest _ (no_kernel (goal.at.returns c).Else-begins_with-2) (cond_rest _ (no_cards (goal.at.returns c).Else-begins_with-3) (cond_rest _ (sym c.begins_with-4.ensures ∙ c.if-begins_with-4.false) refl))))
    (record { says = c.reply.ensures; table = refl })
