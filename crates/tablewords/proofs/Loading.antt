-- The same load by another name; a word of hex digits; the number of a month.
-- Assumes nothing.
use mathlib.Core.Path.{◌≡◌, refl, subst}
use mathlib.Core.Bool.{Bool, true, false, cond, ◌&&◌}
use mathlib.Core.List.{List}
use Prim.Native.Nat.{ℕ, ◌+◌, ◌-◌, ◌*◌, ◌/◌, ◌≤◌, ◌<◌}
use borrow.Author.Tests.{leb-true, le-leb, lt-leb}
use lib.Dec.{leb}
use lib.ListN.{length}
use Rattle.std.specs.Prelude.{Option, Some, None}
use Rattle.digits.specs.Decimals.{Within}
use Rattle.lines.specs.Pairs.{paired, all_pairs, hex_of}
use Rattle.tablewords.specs.declared.Loaded.{Loaded}
use Rattle.tablewords.specs.Loading.{Load, Loads, is_hex, month_number}

pub loads_as : {l : List ℕ} {i : ℕ} {a b : Load} {r : Loaded} {o : List ℕ} → a ≡ b → Loads l i a r o → Loads l i b r o
loads_as {l} {i} {r = r} {o = o} e = subst (λ (x : Load). Loads l i x r o) e

-- ---- a word of hex digits

-- the word is one, of so many bytes
pub record Hex (s : List ℕ) (n : ℕ) : Type 0 where
  pub hex : is_hex s ≡ true
  pub room : length s / 2 ≤ 512
  pub pairs : all_pairs s ≡ true
  pub number : n ≡ length (paired s)

module _ (s : List ℕ) where
  pub hex_none : hex_of 512 s ≡ None → is_hex s ≡ false
  unfolding hex_of is_hex
  hex_none = go (leb (length s / 2) 512) (all_pairs s)
    where
      go : (x y : Bool) → cond x (cond y (Some (length (paired s))) None) None ≡ None → (x && y) ≡ false
      go true true e = cc
      go true false e = refl
      go false y e = refl

  pub hex_some : {n : ℕ} → hex_of 512 s ≡ Some n → Hex s n
  unfolding hex_of is_hex
  hex_some {n} e =
      let g = go (leb (length s / 2) 512) (all_pairs s) e in
      record { hex = rw (g.0, g.1); room = leb-true _ _ g.0; pairs = g.1; number = g.2 }
    where
      go : (x y : Bool) → cond x (cond y (Some (length (paired s))) None) None ≡ Some n → (x ≡ true) × (y ≡ true) × (n ≡ length (paired s))
      go true true e = (refl, refl, cc)
      go true false e = (refl, cc, cc)
      go false y e = (cc, cc, cc)

-- ---- the number of a month

pub at_most : {most : ℕ} {a : Option ℕ} {n : ℕ} → a ≡ Some n → Within most a → n ≤ most
at_most {most} e = subst (Within most) e

module _ {a b : Option ℕ} {y m : ℕ} (p : a ≡ Some y) (q : b ≡ Some m) where
  pub number_early : y < 1972 → None ≡ month_number a b
  number_early h = rw (p, q, lt-leb 1972 y h)

  pub number_none : 1972 ≤ y → m < 1 → None ≡ month_number a b
  number_none g h = rw (p, q, le-leb 1972 y g, lt-leb 1 m h)

  pub number_good : 1972 ≤ y → 1 ≤ m → Some (12 * (y - 1972) + m) ≡ month_number a b
  number_good g h = rw (p, q, le-leb 1972 y g, le-leb 1 m h)
