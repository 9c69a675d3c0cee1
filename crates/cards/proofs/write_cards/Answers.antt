-- `cards::write_cards` meets its contract.
use mathlib.Core.Path.{◌≡◌, refl, sym, ◌∙◌}
use mathlib.Core.Bool.{true}
use Rattle.laws.proofs.Branches.{cond_yes, cond_rest}
use Rattle.leap.specs.Leap.{accepted}
use Rattle.leap.specs.Entries.{entries}
use Rattle.leap.proofs.Facts.{count_to, accepted_to}
use Rattle.cards.specs.Writing.{in_card_years}
use Rattle.cards.proofs.Years.{last_tells}
use Rattle.cards.proofs.write_cards.Goals as goal
use Rattle.cards.proofs.write_cards.Goals.{After-in_card_years}

-- the table that is written, and its years
module _ (c : After-in_card_years) where
  right : accepted c.args.t.now ≡ true
  right = sym c.is_accepted.ensures ∙ c.if-not-is_accepted.false

  years : c.in_card_years.result ≡ in_card_years (entries c.args.t.now)
  years = c.in_card_years.ensures ∙ last_tells (accepted_to c.args.t.now right)

pub in_card_years-requires : goal.in_card_years-requires
in_card_years-requires c = count_to c.args.t.now (sym c.is_accepted.ensures ∙ c.if-not-is_accepted.false)

pub returns-then-not-in_card_years : goal.returns-then-not-in_card_years
returns-then-not-in_card_years c =
    let y = (goal.at.returns-then-not-in_card_years c).After-in_card_years in
    let q = sym (years y) ∙ c.if-not-in_card_years.true in
    (cond_yes _ (right y) (cond_rest _ q refl), cond_yes _ (right y) (cond_rest _ q refl))

pub cards_of-requires : goal.cards_of-requires
cards_of-requires c =
    let y = (goal.at.cards_of-requires c).After-in_card_years in
    (right y, sym (years y) ∙ c.if-not-in_card_years.false)

pub returns : goal.returns
returns c =
    let y = (goal.at.returns c).After-in_card_years in
    let q = sym (years y) ∙ c.if-not-in_card_years.false in
    let w = rw c.cards_of.ensures at c.write.ensures in
    (cond_yes _ (right y) (cond_yes _ q w.0), cond_yes _ (right y) (cond_yes _ q w.1))
