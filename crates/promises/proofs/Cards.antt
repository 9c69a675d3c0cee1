-- Request A4, as the crates `columns` and `cards` prove it.
-- Assumes nothing.
use Rattle.columns.proofs.Promise.{columns}
use Rattle.cards.proofs.Promise.{cards}
use Rattle.promises.specs.Cards.{RequestA4}
use Rattle.promises.proofs.CardRows.{card_rows}

pub request_a4 : RequestA4
request_a4 = (columns, cards, card_rows)
