-- No entry is later than a card can say: of each entry, and of an accepted table by its last.
-- Assumes nothing.
use Prim.Native.Nat.{ℕ, zero, suc, ◌+◌, ◌-◌, ◌≤◌, ◌<◌}
use mathlib.Core.Path.{◌≡◌, refl, subst}
use mathlib.Core.Bool.{true}
use mathlib.Core.List.{List, [], ◌∷◌}
use native.Mathlib.Omega.{arith}
use borrow.Author.Tests.{leb-true, le-leb}
use lib.Dec.{leb}
use lib.ListN.{length, get_or}
use Rattle.laws.specs.Tests.{All}
use Rattle.laws.proofs.Cases.{by_truth, both, join}
use Rattle.leap.specs.declared.Table.{Table}
use Rattle.leap.specs.Leap.{entry_month}
use Rattle.leap.specs.Entries.{Entry, no_entry, entries_from, entries}
use Rattle.leap.proofs.Facts.{Accepted}
use Rattle.leap.proofs.Entries.{entries_long, entries_at}
use Rattle.leap.proofs.Steps.{grow}
use Rattle.cards.specs.Card.{last_card_month}
use Rattle.cards.specs.Writing.{in_card_years}

abbrev pub Early : Entry → Type 0
Early e = e.0 ≤ last_card_month

pub years_to : (es : List Entry) → in_card_years es ≡ true → All Early es
unfolding in_card_years
years_to [] h = tt
years_to (e ∷ es) h = let p = both (leb e.0 last_card_month) (in_card_years es) h in (leb-true _ _ p.0, years_to es p.1)

pub years_from : (es : List Entry) → All Early es → in_card_years es ≡ true
unfolding in_card_years
years_from [] h = refl
years_from (e ∷ es) h = join (le-leb _ _ h.0) (years_from es h.1)

early_at : (es : List Entry) → All Early es → (k : ℕ) → k < length es → Early (get_or es k no_entry)
early_at [] h k l = absurd (omega arith)
early_at (e ∷ es) h zero l = h.0
early_at (e ∷ es) h (suc k) l = early_at es h.1 k (omega arith)

pub month_early : (t : Table) → in_card_years (entries t) ≡ true → (k : ℕ) → k < t.count → entry_month t k ≤ last_card_month
month_early t h k l = subst Early (entries_at t k l) (early_at (entries t) (years_to (entries t) h) k (omega (arith, entries_long t)))

module _ {t : Table} (a : Accepted t) where
  all_early : entry_month t (t.count - 1) ≤ last_card_month → (k n : ℕ) → k + n ≤ t.count → All Early (entries_from t k n)
  unfolding entries_from
  all_early h k zero l = tt
  all_early h k (suc n) l = (omega (arith, grow t a k (t.count - 1) (omega arith) (omega arith)), all_early h (k + 1) n (omega arith))

  -- the last entry of an accepted table is its latest
  pub last_tells : leb (entry_month t (t.count - 1)) last_card_month ≡ in_card_years (entries t)
  last_tells =
      by_truth _ _
      (λ e. years_from (entries t) (all_early (leb-true _ _ e) 0 t.count (omega arith)))
      (λ e. le-leb _ _ (month_early t e (t.count - 1) (omega (arith, a.some_entry))))
