-- The night desk's rows, each once, in the scope's order: what the definitions give, in the scope's numbers. A table is named by the bytes of its block.
-- Seconds are TAI past J2000; the instant itself is in microseconds.
-- Assumes nothing.
use Rattle.std.specs.Prelude.{◌≡◌, false, List, [], ◌∷◌, ℕ, ◌*◌, ◌≤◌, ℤ, pos, negsuc, neg_ℤ, Float, length}
use Prim.Native.String.{String}
use Rattle.std.specs.Float.{fin}
use Rattle.laws.specs.Placed.{over}
use Rattle.laws.specs.Tests.{All}
use Rattle.answer.specs.Buffers.{written_results}
use Rattle.digits.specs.Bytes.{ascii}
use Rattle.leap.specs.declared.Table.{Table}
use Rattle.leap.specs.Readers.{no_table, table_results}
use Rattle.labels.specs.declared.Reading.{Reading}
use Rattle.labels.specs.Labels.{at}
use Rattle.stamp.specs.Scales.{scale_of}
use Rattle.stamp.specs.Stamps.{no_stamp}
use Rattle.stamp.specs.Promise.{stamp}
use Rattle.block.specs.Desk.{block_b, block_t, block_n, BlockRight, named, edges}
use Rattle.block.specs.Reading.{read_block}
use Rattle.text.specs.Text.{read_text, text_results, write_text, write_text_after}
use Rattle.text.specs.Desk.{shapeless, Shapeless}
use Rattle.fraction.specs.Desk.{Desk as Doubles}
use Rattle.julian.specs.Desk.{Desk as Pairs}
use Rattle.julian.specs.Dates.{write_julian, julian_results}

pub data Row : Type 0 where
  -- under the table of a block a text on a scale is this instant, with this reading
  reads : List ℕ → ℕ → String → ℤ → Reading → Row
  -- or is refused with this number
  refuses : List ℕ → ℕ → String → ℕ → Row
  -- a block is refused with this number at this place
  refuses_block : List ℕ → ℕ → ℕ → Row
  -- under the table of a block an instant on a scale, in picture 0 with no digits, is written so
  writes : List ℕ → ℕ → ℤ → String → Row
  -- or is refused with this number
  writes_not : List ℕ → ℕ → ℤ → ℕ → Row
  -- or has this midnight and this fraction
  dates : List ℕ → ℕ → ℤ → Float → Float → Row

abbrev pub seconds : ℕ → ℤ
seconds n = pos (1000000 * n)

abbrev pub milliseconds : ℕ → ℤ
milliseconds n = pos (1000 * n)

-- the proved set, marked P
abbrev pub rows : List Row
rows =
    reads block_b 0 "1972-01-01T00:00:00" (neg_ℤ (seconds 883655990)) (at 1972 1 1 0 0 0 0)
    ∷ reads block_t 0 "1972-06-30T23:59:60" (neg_ℤ (seconds 867931190)) (at 1972 6 30 23 59 60 0)
    ∷ reads block_t 0 "1972-07-01T00:00:00" (neg_ℤ (seconds 867931189)) (at 1972 7 1 0 0 0 0)
    ∷ reads block_n 0 "1972-06-30T23:59:58" (neg_ℤ (seconds 867931192)) (at 1972 6 30 23 59 58 0)
    ∷ reads block_n 0 "1972-07-01T00:00:00" (neg_ℤ (seconds 867931191)) (at 1972 7 1 0 0 0 0)
    ∷ refuses block_n 0 "1972-06-30T23:59:59" 6
    ∷ reads block_b 0 "2016-366T23:59:60" (seconds 536500836) (at 2016 12 31 23 59 60 0)
    ∷ reads block_b 0 "2017-01-01T00:00:00" (seconds 536500837) (at 2017 1 1 0 0 0 0)
    ∷ reads block_b 0 "1986 APR 12 16:31:09.814" (neg_ℤ (milliseconds 433020507186)) (at 1986 4 12 16 31 9 814000)
    ∷ refuses block_b 1 "2016-12-31T23:59:60" 5
    ∷ refuses_block (0x81 ∷ 0x00 ∷ []) 10 0
    ∷ refuses_block (0x01 ∷ 0x00 ∷ []) 12 1
    ∷ refuses_block (0x02 ∷ 0x01 ∷ []) 11 1
    ∷ refuses_block [] 9 0
    ∷ refuses_block (0x41 ∷ []) 11 0
    ∷ []

-- those without the mark, and before them one of our own, on GPS, so that each scale's offset is in a row; 4903089 / 2 is 2451544.5
abbrev pub further_rows : List Row
further_rows =
    reads block_b 3 "1980-01-06T00:00:00" (neg_ℤ (seconds 630763181)) (at 1980 1 6 0 0 0 0)
    ∷ writes block_b 1 (neg_ℤ (pos 1)) "2000-01-01T11:59:59"
    ∷ reads block_b 2 "1972-01-01T00:00:00" (neg_ℤ (milliseconds 883656032184)) (at 1972 1 1 0 0 0 0)
    ∷ writes_not block_b 1 (neg_ℤ (milliseconds 883656032184)) 7
    ∷ dates block_b 1 (pos 0) (fin false 4903089 (negsuc 0)) (fin false 1 (negsuc 0))
    ∷ []

-- the table that a block gives; all zero, which no call accepts, where the block is refused
abbrev pub table_in : List ℕ → Table
table_in block = (table_results (read_block block)).2

-- a row is right: a refusal has zero in the rest, and a text is written to any buffer that has room for it
abbrev pub Right : Row → Type 0
Right (reads block k text x r) = text_results (read_text (table_in block) k (ascii text)) ≡ (0, x, stamp (scale_of k) r)
Right (refuses block k text number) = text_results (read_text (table_in block) k (ascii text)) ≡ (number, pos 0, no_stamp)
Right (refuses_block block number place) = table_results (read_block block) ≡ (number, place, no_table)
Right (writes block k x text) =
    (buffer : List ℕ) → length (ascii text) ≤ length buffer
    → (written_results (write_text (table_in block) x 0 k 0 buffer) ≡ (0, length (ascii text))) × (write_text_after (table_in block) x 0 k 0 buffer ≡ over (ascii text) buffer)
Right (writes_not block k x number) =
    (buffer : List ℕ) → (written_results (write_text (table_in block) x 0 k 0 buffer) ≡ (number, 0)) × (write_text_after (table_in block) x 0 k 0 buffer ≡ buffer)
Right (dates block k x m f) = julian_results (write_julian (table_in block) x k) ≡ (0, record { midnight = m; fraction = f })

pub record Worked : Type 0 where
  -- B is the block of Bulletin C and takes 29 bytes; T has two added seconds, N a taken-out one
  pub named_blocks : All BlockRight named
  pub proved_set : All Right rows
  pub further_rows_lem : All Right further_rows
  -- our own: the edges of the paragraph on blocks, texts without a picture, pairs of a day with an added second, doubles that are easily read otherwise
  pub block_edges : All BlockRight edges
  pub no_picture : All Shapeless shapeless
  pub pairs : Pairs
  pub doubles : Doubles
