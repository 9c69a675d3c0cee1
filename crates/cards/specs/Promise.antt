-- What reading and writing cards answers, on every input, by `Card` and the lines of a file alone.
-- `Card line e`: the line is a card of the entry e; `Good t`: t is accepted and no month is given for it, since cards have no place for one.
-- Assumes nothing.
use Rattle.std.specs.Prelude.{◌≡◌, ◌↔◌, ◌⊎◌, true, false, List, [], ◌∷◌, ◌++◌, reverse, ℕ, ◌+◌, ◌*◌, ◌/◌, ◌%◌, ◌≤◌, ◌<◌, length}
use Rattle.laws.specs.Placed.{over}
use Rattle.laws.specs.Tests.{All}
use Rattle.answer.specs.Buffers.{written_results}
use Rattle.leap.specs.declared.Table.{Table}
use Rattle.leap.specs.Leap.{vouched_to, accepted}
use Rattle.leap.specs.Entries.{Entry, entries, table_of, Good}
use Rattle.leap.specs.Readers.{no_table, table_results}
use Rattle.columns.specs.Lines.{lines_of, place_behind}
use Rattle.columns.specs.Columns.{passed_over}
use Rattle.cards.specs.Card.{card_year, last_card_month, Card, rises}
use Rattle.cards.specs.Reading.{read_cards}
use Rattle.cards.specs.Writing.{cards_of, write_cards, write_cards_after}

-- ---- a file of cards

-- lines that are passed over, and the cards of these entries, one after another
pub data Shown : List (List ℕ) → List Entry → Type 0 where
  end : Shown [] []
  passed : {line : List ℕ} {lines : List (List ℕ)} {es : List Entry} → passed_over line ≡ true → Shown lines es → Shown (line ∷ lines) es
  card : {line : List ℕ} {lines : List (List ℕ)} {e : Entry} {es : List Entry} → Card line e → Shown lines es → Shown (line ∷ lines) (e ∷ es)

-- these lines show the entries es, of which each month is later than the one before it, from the first to the last or from the last to the first
pub record Tell (lines : List (List ℕ)) (es : List Entry) : Type 0 where
  pub rising : rises es ≡ true
  pub shown : Shown lines es ⊎ Shown lines (reverse es)

-- some file of cards has these lines
abbrev pub MayStand : List (List ℕ) → Type 0
MayStand lines = (es : List Entry) × Tell lines es

-- the first bad line, at place p: a file of cards may have the lines before it, and none has them with this line behind
pub record FirstBad (s : List ℕ) (p : ℕ) : Type 0 where
  pub before : List (List ℕ)
  pub line : List ℕ
  pub after : List (List ℕ)
  pub split : lines_of s ≡ before ++ (line ∷ after)
  pub place : place_behind before ≡ p
  pub goes_on : MayStand before
  pub no_more : (rest : List (List ℕ)) → MayStand (before ++ (line ∷ rest)) → ⊥

-- ---- what reading answers

-- success with table t, or a refusal with its number and place and the all-zero table
abbrev pub GivesTable : List ℕ → Table → Type 0
GivesTable s t = table_results (read_cards s) ≡ (0, 0, t)

abbrev pub Refuses : List ℕ → ℕ → ℕ → Type 0
Refuses s number place = table_results (read_cards s) ≡ (number, place, no_table)

pub record ReadsCards (s : List ℕ) : Type 0 where
  -- a table exactly when the cards of s are those of its entries, oldest first or oldest last, and it is accepted; 11 at place 0 when it is not
  pub gives_a_table : (t : Table) → GivesTable s t ↔ (Tell (lines_of s) (entries t) × Good t)
  pub refuses_its_table : Refuses s 11 0 ↔ ((es : List Entry) × (Tell (lines_of s) es × (accepted (table_of es) ≡ false)))
  -- 15 at the first bad line's first byte
  pub refuses_a_line : (p : ℕ) → Refuses s 15 p ↔ FirstBad s p
  -- and it is one of these
  pub some_answer : ((t : Table) × GivesTable s t) ⊎ (Refuses s 11 0 ⊎ ((p : ℕ) × Refuses s 15 p))

-- ---- the years that a card can say

pub record CardYears : Type 0 where
  -- those up to 2049
  pub up_to_2049 : (m : ℕ) → (m ≤ last_card_month) ↔ (1972 + m / 12 ≤ 2049)
  -- and their two digits tell them
  pub by_two_digits : (m : ℕ) → m ≤ last_card_month → card_year ((1972 + m / 12) % 100) ≡ 1972 + m / 12

-- ---- what writing answers, and leaves in the buffer

-- every entry is dated before 2050
abbrev pub InYears : Table → Type 0
InYears t = All (λ e. e.0 ≤ last_card_month) (entries t)

pub record WritesCards (t : Table) (buffer : List ℕ) : Type 0 where
  -- 11 for a table that is not accepted
  pub refuses_its_table : accepted t ≡ false → written_results (write_cards t buffer) ≡ (11, 0)
  -- the cards of an accepted table are written wherever its years and the buffer allow it, and past them every byte stays
  pub where_it_fits : accepted t ≡ true → InYears t → length (cards_of t) ≤ length buffer
      → (written_results (write_cards t buffer) ≡ (0, length (cards_of t))) × (write_cards_after t buffer ≡ over (cards_of t) buffer)
  -- 7 for a year that the card cannot hold, whatever the buffer
  pub refuses_its_years : accepted t ≡ true → (InYears t → ⊥) → written_results (write_cards t buffer) ≡ (7, 0)
  -- and last 1 where the buffer is too short
  pub refuses_its_room : accepted t ≡ true → InYears t → length buffer < length (cards_of t) → written_results (write_cards t buffer) ≡ (1, 0)
  -- a refusal leaves every byte of the buffer
  pub or_nothing : ((written_results (write_cards t buffer)).0 ≡ 0 → ⊥) → write_cards_after t buffer ≡ buffer

pub record Cards : Type 0 where
  -- what is written reads back as the table
  pub reads_back : (t : Table) → Good t → InYears t → GivesTable (cards_of t) t
  pub reads : (s : List ℕ) → ReadsCards s
  pub years : CardYears
  pub writes : (t : Table) (buffer : List ℕ) → WritesCards t buffer
  -- 81 bytes a card
  pub sizes : (t : Table) → accepted t ≡ true → length (cards_of t) ≡ 81 * t.count
  -- a line shows one entry at most
  pub one_entry : (line : List ℕ) (e f : Entry) → Card line e → Card line f → e ≡ f
  -- the cards of a table for which a month is given are those of the same table without it
  pub drops_the_month : (v : ℕ) (t : Table) → cards_of (vouched_to v t) ≡ cards_of t
