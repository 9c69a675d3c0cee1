-- Request A2. "The table shall carry the last month it is vouched for: any month from its last entry's to 96,335, or none given. Every answer that used UTC
-- says whether its UTC month lies beyond. The answer is still given; demands 2 and 3 read as before, with the mark fixed by the month. .. Refusals: 11 also for a
-- vouched month before the last entry or past 96,335."
-- Which tables are accepted with a month is `Vouched` of crates/leap/specs/Promise.antt; here are the marks of the calls, both ways, and that a month changes no answer.
-- Assumes nothing.
use Rattle.std.specs.Prelude.{◌≡◌, ◌↔◌, true, false, List, ℕ, ℤ, pos, Ok}
use Rattle.answer.specs.Buffers.{written_results}
use Rattle.leap.specs.declared.Table.{Table}
use Rattle.leap.specs.Leap.{vouched_to, without_month, accepted, bulletin_c}
use Rattle.leap.specs.Entries.{FullLength}
use Rattle.leap.specs.Promise.{LiesBeyond, Vouched}
use Rattle.leap.specs.Readers.{table_results}
use Rattle.labels.specs.declared.Label.{Label}
use Rattle.labels.specs.declared.Reading.{Reading}
use Rattle.labels.specs.Labels.{label, at, month_of}
use Rattle.stamp.specs.declared.Scale.TheVariants.{Utc, Tai}
use Rattle.stamp.specs.declared.Stamp.{Stamp}
use Rattle.stamp.specs.Stamps.{instant_of, instant_results, stamp_of, stamp_results, no_stamp}
use Rattle.stamp.specs.Marks.{instant_of_marked, stamp_of_marked}
use Rattle.stamp.specs.Promise.{Reads, stamp, GivesInstant, GivesStamp}
use Rattle.clock.specs.Clock.{start, tick, tick_results}
use Rattle.clock.specs.Marks.{start_marked, tick_marked}
use Rattle.block.specs.declared.Form.TheVariants.{Old}
use Rattle.block.specs.Blocks.{block_of, write_block, write_block_after}
use Rattle.block.specs.Promise.{GivesTable}
use Rattle.block.specs.Reading.{read_block}
use Rattle.kernel.specs.Reading.{read_kernel}
use Rattle.kernel.specs.Writing.{kernel_of, write_kernel, write_kernel_after}
use Rattle.kernel.specs.Promise.{GivesTable as KernelGives}
use Rattle.cards.specs.Reading.{read_cards}
use Rattle.cards.specs.Writing.{cards_of, write_cards, write_cards_after}
use Rattle.cards.specs.Promise.{GivesTable as CardsGive, InYears}
use Rattle.text.specs.Text.{read_text, write_text, write_text_after}
use Rattle.text.specs.Marks.{read_text_marked, write_text_marked}
use Rattle.text.specs.Promise.{AcceptedAs}
use Rattle.julian.specs.declared.JulianDate.{JulianDate}
use Rattle.julian.specs.Dates.{write_julian, julian_results, read_julian}
use Rattle.julian.specs.Marks.{write_julian_marked, read_julian_marked}

-- a month is given, and the label's month is later
abbrev pub Beyond : Table → Label → Type 0
Beyond t l = LiesBeyond t.vouched (month_of l)

-- the instant x has a label on UTC, and that lies beyond
abbrev pub BeyondAt : Table → ℤ → Type 0
BeyondAt t x = (r : Reading) × (Reads t Utc r x × Beyond t r.label)

-- beside its mark each call has the answer that the other statements speak of
pub record Beside (t : Table) : Type 0 where
  pub instant_of_lem : (k : ℕ) (r : Reading) → (instant_of_marked t k r).answer ≡ instant_of t k r
  pub stamp_of_lem : (x : ℤ) (k : ℕ) → (stamp_of_marked t x k).answer ≡ stamp_of t x k
  pub read_text_lem : (k : ℕ) (text : List ℕ) → (read_text_marked t k text).answer ≡ read_text t k text
  pub write_text_lem : (x : ℤ) (p k digits : ℕ) (buffer : List ℕ) → (write_text_marked t x p k digits buffer).answer ≡ write_text t x p k digits buffer
  pub write_julian_lem : (x : ℤ) (k : ℕ) → (write_julian_marked t x k).answer ≡ write_julian t x k
  pub read_julian_lem : (k : ℕ) (p : JulianDate) → (read_julian_marked t k p).answer ≡ read_julian t k p
  pub clock_starts : (start_marked t).answer ≡ start t
  pub clock_ticks : (l : Label) → (tick_marked t l).answer ≡ tick t l

-- the mark stands beside an answer that is given, on UTC, where its label lies beyond, and nowhere else
pub record Marked (t : Table) : Type 0 where
  -- the label that is handed in
  pub instant_of_lem : (k : ℕ) (r : Reading) → ((instant_of_marked t k r).beyond ≡ true) ↔ ((x : ℤ) × (GivesInstant t k r x × (k ≡ 0) × Beyond t r.label))
  -- the label that is shown
  pub stamp_of_lem : (x : ℤ) (k : ℕ) → ((stamp_of_marked t x k).beyond ≡ true) ↔ ((z : Stamp) × (GivesStamp t k x z × (k ≡ 0) × Beyond t z.reading.label))
  -- the label that is read
  pub read_text_lem : (k : ℕ) (text : List ℕ) → ((read_text_marked t k text).beyond ≡ true) ↔ ((x : ℤ) × (z : Stamp) × (AcceptedAs t k text x z × (k ≡ 0) × Beyond t z.reading.label))
  -- the label of the instant
  pub write_text_lem : (x : ℤ) (p k digits : ℕ) (buffer : List ℕ) →
      ((write_text_marked t x p k digits buffer).beyond ≡ true) ↔ (((written_results (write_text t x p k digits buffer)).0 ≡ 0) × (k ≡ 0) × BeyondAt t x)
  pub write_julian_lem : (x : ℤ) (k : ℕ) → ((write_julian_marked t x k).beyond ≡ true) ↔ (((julian_results (write_julian t x k)).0 ≡ 0) × (k ≡ 0) × BeyondAt t x)
  pub read_julian_lem : (k : ℕ) (p : JulianDate) → ((read_julian_marked t k p).beyond ≡ true) ↔ ((x : ℤ) × ((instant_results (read_julian t k p) ≡ (0, x)) × (k ≡ 0) × BeyondAt t x))
  -- the clock shows UTC alone: the label that it starts with, and the new one of a tick
  pub clock_starts : ((start_marked t).beyond ≡ true) ↔ ((l : Label) × ((tick_results (start t) ≡ (0, l)) × Beyond t l))
  pub clock_ticks : (l : Label) → ((tick_marked t l).beyond ≡ true) ↔ ((l' : Label) × ((tick_results (tick t l) ≡ (0, l')) × Beyond t l'))

-- a month that a table is accepted with changes no answer and no byte
pub record SameAnswers (t : Table) : Type 0 where
  pub instant_of_lem : (k : ℕ) (r : Reading) → instant_of t k r ≡ instant_of (without_month t) k r
  pub stamp_of_lem : (x : ℤ) (k : ℕ) → stamp_of t x k ≡ stamp_of (without_month t) x k
  pub read_text_lem : (k : ℕ) (text : List ℕ) → read_text t k text ≡ read_text (without_month t) k text
  pub write_text_lem : (x : ℤ) (p k digits : ℕ) (buffer : List ℕ) →
      (write_text t x p k digits buffer ≡ write_text (without_month t) x p k digits buffer) × (write_text_after t x p k digits buffer ≡ write_text_after (without_month t) x p k digits buffer)
  pub write_julian_lem : (x : ℤ) (k : ℕ) → write_julian t x k ≡ write_julian (without_month t) x k
  pub read_julian_lem : (k : ℕ) (p : JulianDate) → read_julian t k p ≡ read_julian (without_month t) k p
  pub clock_starts : start t ≡ start (without_month t)
  pub clock_ticks : (l : Label) → tick t l ≡ tick (without_month t) l
  -- so old blocks, kernels and cards drop it
  pub write_block_lem : (buffer : List ℕ) → (write_block t buffer ≡ write_block (without_month t) buffer) × (write_block_after t buffer ≡ write_block_after (without_month t) buffer)
  pub write_kernel_lem : (buffer : List ℕ) → (write_kernel t buffer ≡ write_kernel (without_month t) buffer) × (write_kernel_after t buffer ≡ write_kernel_after (without_month t) buffer)
  pub write_cards_lem : (buffer : List ℕ) → (write_cards t buffer ≡ write_cards (without_month t) buffer) × (write_cards_after t buffer ≡ write_cards_after (without_month t) buffer)

-- the rows by which the request was explained: Bulletin C with number 541, vouched for up to January 2017, and with 540, which is before its last entry
abbrev pub until2017 : Table
until2017 = vouched_to 541 bulletin_c

pub record VouchedDesk : Type 0 where
  pub last_microsecond : stamp_of_marked until2017 (pos 539179236999999) 0 ≡ record { answer = Ok (stamp Utc (at 2017 1 31 23 59 59 999999)); beyond = false }
  pub first_midnight_lem : stamp_of_marked until2017 (pos 539179237000000) 0 ≡ record { answer = Ok (stamp Utc (at 2017 2 1 0 0 0 0)); beyond = true }
  pub on_tai : stamp_of_marked until2017 (pos 539179237000000) 1 ≡ record { answer = Ok (stamp Tai (at 2017 2 1 0 0 37 0)); beyond = false }
  pub new_label : tick_marked until2017 (label 2017 1 31 23 59 59) ≡ record { answer = Ok (label 2017 2 1 0 0 0); beyond = true }
  pub month_too_early : stamp_results (stamp_of (vouched_to 540 bulletin_c) (pos 0) 1) ≡ (11, no_stamp)
  pub scale_comes_first : stamp_results (stamp_of (vouched_to 540 bulletin_c) (pos 0) 4) ≡ (8, no_stamp)

pub record RequestA2 : Type 0 where
  pub months : Vouched
  pub answers_beside : (t : Table) → Beside t
  pub marks : (t : Table) → Marked t
  pub same_answers : (t : Table) → accepted t ≡ true → SameAnswers t
  -- what is written for a table with a month reads back as the table without it; a new block alone keeps it, as request A7 says
  pub block_reads_back : (t : Table) → accepted t ≡ true → FullLength t → GivesTable Old (block_of t) (without_month t)
  pub kernel_reads_back : (t : Table) → accepted t ≡ true → FullLength t → KernelGives (kernel_of t) (without_month t)
  pub cards_read_back : (t : Table) → accepted t ≡ true → FullLength t → InYears t → CardsGive (cards_of t) (without_month t)
  -- tables read from old blocks, kernels and cards have none given
  pub none_in_a_block : (s : List ℕ) → (table_results (read_block s)).2.vouched ≡ 0
  pub none_in_a_kernel : (s : List ℕ) → (table_results (read_kernel s)).2.vouched ≡ 0
  pub none_in_cards : (s : List ℕ) → (table_results (read_cards s)).2.vouched ≡ 0
  pub rows : VouchedDesk
