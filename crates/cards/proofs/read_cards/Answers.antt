-- `cards::read_cards` meets its contract: what is left to read, behind the cards so far, is the whole.
use mathlib.Core.Path.{sym, ◌∙◌}
use mir.Facts.{to_z-of_z}
use mir.Syntax.{w32}
use mir.Val.{SFits}
use borrow.Author.Rules.{rules}
use Rattle.digits.specs.Decimals.{signed}
use Rattle.lines.proofs.Lines.{part_is}
use Rattle.cards.proofs.Orders.{follows_is}
use Rattle.cards.proofs.Going.{going_none, was_bad, was_entry, no_more, on_end, on_passed, on_bad, on_order, on_entry}
use Rattle.cards.proofs.read_cards.Goals as goal

pub loop-from-init : goal.loop-from-init
loop-from-init c = rw c.new-deck.ensures (going_none c.args.s.now)

pub loop-from-preserved-then-goes_on : goal.loop-from-preserved-then-goes_on
loop-from-preserved-then-goes_on c =
    let e = c.until-end.ensures.value in
    let w = was_entry _ c.in-Some.month c.in-Some.offset (sym c.card_in.ensures ∙ c.in-Some.is) in
    let o = sym (c.goes_on.ensures ∙ follows_is (c.in-Some.month, signed w.negative w.size) c.loop-from.invariant.ordered) in
    let f : SFits w32 c.in-Some.offset = search rules in
    rw (c.add.ensures, to_z-of_z f) (on_entry c.loop-from.invariant c.loop-from-test.true e c.min-from.ensures (part_is 10 c.args.s.now c.loop-from.from e) (sym c.passed_over.ensures ∙ c.if-not-passed_over.true) w (o ∙ c.if-goes_on.true))

pub returns-in_default : goal.returns-in_default
returns-in_default c =
    let e = c.until-end.ensures.value in
    let w = was_entry _ c.in-Some.month c.in-Some.offset (sym c.card_in.ensures ∙ c.in-Some.is) in
    let o = sym (c.goes_on.ensures ∙ follows_is (c.in-Some.month, signed w.negative w.size) c.loop-from.invariant.ordered) in
    on_order c.loop-from.invariant c.loop-from-test.true e c.min-from.ensures (part_is 10 c.args.s.now c.loop-from.from e) (sym c.passed_over.ensures ∙ c.if-not-passed_over.true) w (o ∙ c.if-goes_on.false)

pub returns-in_default-2 : goal.returns-in_default-2
returns-in_default-2 c =
    let e = c.until-end.ensures.value in
    on_bad c.loop-from.invariant c.loop-from-test.true e c.min-from.ensures (part_is 10 c.args.s.now c.loop-from.from e) (sym c.passed_over.ensures ∙ c.if-not-passed_over.true) (was_bad _ (sym c.card_in.ensures ∙ c.in_default.is))

pub loop-from-preserved : goal.loop-from-preserved
loop-from-preserved c =
    let e = c.until-end.ensures.value in
    on_passed c.loop-from.invariant c.loop-from-test.true e c.min-from.ensures (part_is 10 c.args.s.now c.loop-from.from e) (sym c.passed_over.ensures ∙ c.if-not-passed_over.false)

pub judge-requires : goal.judge-requires
judge-requires c = no_more c.loop-from.invariant

pub returns : goal.returns
returns c = c.judge.ensures ∙ on_end c.loop-from.invariant c.loop-from-test.false
