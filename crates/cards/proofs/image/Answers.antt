-- Five texts on a blank card.
use mathlib.Core.Path.{◌≡◌}
use native.Mathlib.Omega.{arith}
use lib.ListN.{length}
use mir.Syntax.{w64}
use Rattle.laws.proofs.Machine.{read1, widened}
use Rattle.digits.specs.Decimals.{signed_text}
use Rattle.digits.proofs.Short.{signed_short}
use Rattle.cards.proofs.Storing.{card_filled}
use Rattle.cards.proofs.image.Goals as goal
use Rattle.cards.proofs.image.Goals.{After-signed_width}

width : (c : goal.After-signed_width) → c.signed_width.result ≡ length (signed_text c.args.offset)
width c = read1 (λ z. length (signed_text z)) c.ranges.offset c.signed_width.ensures

pub overflow_sub-signed_width : goal.overflow_sub-signed_width
overflow_sub-signed_width c = omega (arith, width (goal.at.overflow_sub-signed_width c).After-signed_width, signed_short c.args.offset c.requires.1)

pub returns : goal.returns
returns c =
    rw (c.append-4.ensures.text, c.append-3.ensures.text, c.append-2.ensures.text, c.append.ensures.text, c.append_signed.ensures.text, width (goal.at.returns c).After-signed_width, widened w64 tt c.ranges.offset, c.date_text-date.ensures)
    (card_filled (c.args.month, c.args.offset) c.requires.1)
