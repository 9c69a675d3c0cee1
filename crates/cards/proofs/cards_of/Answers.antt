-- `cards::cards_of` meets its contract: what is stored, with what is still to come, is the cards.
use mathlib.Core.Path.{◌≡◌}
use borrow.Author.Rules.{rules}
use lib.IntN.{pos}
use mir.Syntax.{w32}
use mir.Val.{SFits}
use lib.ListN.{length, get_or}
use mir.Facts.{to_z-of_z}
use Rattle.leap.specs.Entries.{entry}
use Rattle.leap.proofs.Facts.{accepted_to}
use Rattle.leap.proofs.Offsets.{small}
use Rattle.digits.proofs.Bytes.{same_text}
use Rattle.cards.specs.Writing.{card_text}
use Rattle.cards.proofs.Years.{month_early}
use Rattle.cards.proofs.Storing.{stored_none, stored_more, stored_all}
use Rattle.cards.proofs.cards_of.Goals as goal

pub loop-k-init : goal.loop-k-init
loop-k-init c =
    let long : length c.args.bytes.now ≡ 5184 = search rules in
    stored_none (accepted_to c.args.t.now c.requires.0) c.requires.1 long

pub image-card-requires : goal.image-card-requires
image-card-requires c =
    let t = c.args.t.now in
    let f : SFits w32 (get_or t.offsets c.loop-k.k (pos 0)) = search rules in
    (month_early t c.loop-k.invariant.early c.loop-k.k c.loop-k-test.true, rw (to_z-of_z f) (small c.loop-k.invariant.right c.loop-k.k c.loop-k-test.true))

pub loop-k-preserved : goal.loop-k-preserved
loop-k-preserved c =
    let t = c.args.t.now in
    let f : SFits w32 (get_or t.offsets c.loop-k.k (pos 0)) = search rules in
    let shown : c.image-card.result ≡ card_text (entry t c.loop-k.k) = rw (to_z-of_z f) at c.image-card.ensures in
    stored_more c.loop-k.invariant c.loop-k-test.true (same_text _ _ c.append-len.result shown c.append-len.ensures) c.append-len-in-loop-k.ensures

pub returns : goal.returns
returns c = stored_all c.loop-k.invariant c.loop-k-test.false
