-- Request A4. "Read a file of such cards, blank and comment records skipped, into a table. .. Write tables too, oldest first. .. What is written reads back, without
-- a vouched month. Refusals: reading, 15 CARD for the first line that breaks these rules, placed at its first byte, then 11; writing, 11, then 7 for a year the card cannot hold, then 1."
-- The statement stands beside the reader and the writer, in crates/cards/specs/Promise.antt; what a card is, in crates/cards/specs/Card.antt; lines and plain
-- decimals, in crates/columns/specs; rows that are computed, in CardRows.antt.
-- Assumes nothing.
use Rattle.columns.specs.Promise.{Columns}
use Rattle.cards.specs.Promise.{Cards}
use Rattle.promises.specs.CardRows.{CardRows}

abbrev pub RequestA4 : Type 0
RequestA4 = Columns × Cards × CardRows
