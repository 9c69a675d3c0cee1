-- The offsets of an accepted table: entry k is at most k from the first, so each is below 99 in size.
-- Assumes nothing.
use Prim.Native.Nat.{ℕ, zero, suc, ◌+◌, ◌≤◌, ◌<◌}
use mathlib.Core.Path.{ap, subst}
use native.Mathlib.Numerals.{add-one}
use native.Mathlib.Omega.{arith}
use lib.IntN.{ℤ, pos, negsuc}
use lib.Signed.{mag}
use Rattle.laws.specs.Tests.{All}
use Rattle.laws.proofs.Difference.{up, down}
use Rattle.leap.specs.declared.Table.{Table}
use Rattle.leap.specs.Leap.{last_entry_month, entry_offset}
use Rattle.leap.specs.Entries.{Entry, entry, entries_from}
use Rattle.leap.proofs.Facts.{Accepted}
use Rattle.leap.proofs.Moves.{entry_small}

-- what every entry of an accepted table is
abbrev pub Fine : Entry → Type 0
Fine e = (mag e.1 < 99) × (e.0 ≤ last_entry_month)

module _ {t : Table} (a : Accepted t) where
  pub small : (k : ℕ) → k < t.count → mag (entry_offset t k) < 99
  small k l = go (entry_offset t k) (entry_small t a k l)
    where
      go : (z : ℤ) → (up z ≤ 10 + k) × (down z ≤ k) → mag z < 99
      go (pos n) h = omega (arith, a.few)
      go (negsuc n) h = omega (arith, a.few)

  -- with its month, which is at most December 9999
  fine : (k : ℕ) → k < t.count → Fine (entry t k)
  fine zero l = (small zero l, omega (arith, ap (λ x. x.0) a.first))
  fine (suc k) l = (small (suc k) l, subst (λ n. (entry t n).0 ≤ last_entry_month) (add-one k) (a.later k (omega arith)).early)

  pub all_fine : (k n : ℕ) → k + n ≤ t.count → All Fine (entries_from t k n)
  unfolding entries_from
  all_fine k zero l = tt
  all_fine k (suc n) l = (fine k (omega arith), all_fine (k + 1) n (omega arith))
