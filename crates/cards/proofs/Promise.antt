-- What is promised of cards: what reading and writing answers, by `Card` and the lines of a file alone.
-- Assumes nothing.
use Prim.Native.Nat.{ℕ, ◌+◌, ◌/◌, ◌%◌, ◌≤◌}
use mathlib.Core.Path.{◌≡◌, sym, ap, subst, ◌∙◌}
use mathlib.Core.Logic.{◌⊎◌, inl, inr}
use mathlib.Core.Bool.{true, false}
use mathlib.Core.List.{List}
use native.Mathlib.Omega.{arith}
use Rattle.laws.proofs.Branches.{if_less, if_not_less}
use Rattle.laws.proofs.Cases.{by_order}
use Rattle.leap.specs.declared.Table.{Table}
use Rattle.leap.specs.Leap.{accepted}
use Rattle.leap.specs.Entries.{Entry, entries, table_of, Good}
use Rattle.leap.specs.Readers.{table_results}
use Rattle.leap.proofs.Facts.{same_entry, accepted_to}
use Rattle.leap.proofs.Readers.{judged_found, judged_refused, two_numbers}
use Rattle.leap.proofs.Entries.{entries_of, table_is, accepted_good}
use Rattle.columns.specs.Lines.{lines_of}
use Rattle.cards.specs.Card.{card_year, last_card_month, Card}
use Rattle.cards.specs.Reading.{read_cards}
use Rattle.cards.specs.Writing.{cards_of}
use Rattle.cards.specs.Promise.{Tell, FirstBad, GivesTable, Refuses, ReadsCards, InYears, Cards, CardYears}
use Rattle.cards.proofs.Found.{card_shown}
use Rattle.cards.proofs.Orders.{accepted_rises}
use Rattle.cards.proofs.Storing.{cards_same}
use Rattle.cards.proofs.Written.{writables, shown_of, sizes, writes}
use Rattle.cards.proofs.Files.{tell_read, bad_read, Answered, as_table, as_untabled, as_bad, answered}

-- ---- what is answered, in numbers

module _ (s : List ℕ) where
  -- the table of the entries that are told, accepted or not
  module _ {es : List Entry} (h : Tell (lines_of s) es) where
    found_told : accepted (table_of es) ≡ true → GivesTable s (table_of es)
    found_told = judged_found (table_of es) (tell_read s h)

    refused_told : accepted (table_of es) ≡ false → Refuses s 11 0
    refused_told = judged_refused (table_of es) (tell_read s h)

  refused_bad : {p : ℕ} → FirstBad s p → Refuses s 15 p
  refused_bad {p} f = ap table_results (bad_read s p f)

  gives : (t : Table) → GivesTable s t → Tell (lines_of s) (entries t) × Good t
  gives t g = go (answered s)
    where
      go : Answered s → Tell (lines_of s) (entries t) × Good t
      go (as_table es h a) = subst (λ u. Tell (lines_of s) (entries u) × Good u) (ap (λ x. x.2) (sym (found_told h a) ∙ g)) (subst (Tell (lines_of s)) (sym (entries_of es)) h, accepted_good es a)
      go (as_untabled es h a) = two_numbers (read_cards s) (refused_told h a) g (λ z. omega arith)
      go (as_bad p f) = two_numbers (read_cards s) (refused_bad f) g (λ z. omega arith)

  given : (t : Table) → Tell (lines_of s) (entries t) → Good t → GivesTable s t
  given t h g = let e = table_is g in found_told h (ap accepted e ∙ g.is_accepted) ∙ ap (λ u. (0, 0, u)) e

  refuses_table : Refuses s 11 0 → (es : List Entry) × (Tell (lines_of s) es × (accepted (table_of es) ≡ false))
  refuses_table g = go (answered s)
    where
      go : Answered s → (es : List Entry) × (Tell (lines_of s) es × (accepted (table_of es) ≡ false))
      go (as_table es h a) = two_numbers (read_cards s) (found_told h a) g (λ z. omega arith)
      go (as_untabled es h a) = (es, (h, a))
      go (as_bad p f) = two_numbers (read_cards s) (refused_bad f) g (λ z. omega arith)

  refuses_line : (p : ℕ) → Refuses s 15 p → FirstBad s p
  refuses_line p g = go (answered s)
    where
      go : Answered s → FirstBad s p
      go (as_table es h a) = two_numbers (read_cards s) (found_told h a) g (λ z. omega arith)
      go (as_untabled es h a) = two_numbers (read_cards s) (refused_told h a) g (λ z. omega arith)
      go (as_bad q f) = subst (FirstBad s) (ap (λ x. x.1) (sym (refused_bad f) ∙ g)) f

  some : ((t : Table) × GivesTable s t) ⊎ (Refuses s 11 0 ⊎ ((p : ℕ) × Refuses s 15 p))
  some = go (answered s)
    where
      go : Answered s → ((t : Table) × GivesTable s t) ⊎ (Refuses s 11 0 ⊎ ((p : ℕ) × Refuses s 15 p))
      go (as_table es h a) = inl (table_of es, found_told h a)
      go (as_untabled es h a) = inr (inl (refused_told h a))
      go (as_bad p f) = inr (inr (p, refused_bad f))

  pub reads : ReadsCards s
  reads = record {
    gives_a_table = λ t. (gives t, λ h. given t h.0 h.1);
    refuses_its_table = (refuses_table, λ h. refused_told h.1.0 h.1.1);
    refuses_a_line = λ p. (refuses_line p, refused_bad);
    some_answer = some;
  }

  -- no month is given for the table that is read
  pub no_month : (table_results (read_cards s)).2.vouched ≡ 0
  no_month = go some
    where
      go : ((t : Table) × GivesTable s t) ⊎ (Refuses s 11 0 ⊎ ((p : ℕ) × Refuses s 15 p)) → (table_results (read_cards s)).2.vouched ≡ 0
      go (inl g) = ap (λ x. x.2.vouched) g.1 ∙ (gives g.0 g.1).1.no_month
      go (inr (inl g)) = ap (λ x. x.2.vouched) g
      go (inr (inr g)) = ap (λ x. x.2.vouched) g.1

-- ---- the cards of a table, and a card

reads_back : (t : Table) → Good t → InYears t → GivesTable (cards_of t) t
unfolding cards_of
reads_back t g y =
    let a = accepted_to t g.is_accepted in
    given (cards_of t) t (record { rising = accepted_rises a; shown = inl (shown_of (entries t) (writables a y)) }) g

one_entry : (line : List ℕ) (e f : Entry) → Card line e → Card line f → e ≡ f
one_entry line e f c d =
    let x = card_shown line e c in
    let y = card_shown line f d in
    same_entry (cc) (cc)

years : CardYears
years = record { up_to_2049 = λ m. (λ h. omega arith, λ h. omega arith); by_two_digits = told }
  where
    told : (m : ℕ) → m ≤ last_card_month → card_year ((1972 + m / 12) % 100) ≡ 1972 + m / 12
    told m h = by_order ((1972 + m / 12) % 100) 50 (λ l. sym (if_less _ l (omega arith))) (λ l. sym (if_not_less _ l (omega arith)))

pub cards : Cards
cards = record { reads_back = reads_back; reads = reads; years = years; writes = writes; sizes = sizes; one_entry = one_entry; drops_the_month = cards_same }
