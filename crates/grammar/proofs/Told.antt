-- A pair as a file tells it: a sign, digits and a month; what it stands for, and what the automaton keeps of it.
-- Assumes nothing.
use Prim.Native.Nat.{ℕ, zero, suc, ◌+◌, ◌*◌, ◌≤◌, ◌<◌}
use mathlib.Core.Path.{◌≡◌, refl, ap}
use mathlib.Core.Logic.{◌⊎◌, inl, inr}
use mathlib.Core.Bool.{Bool, true, false}
use mathlib.Core.List.{List, [], ◌∷◌, map}
use native.Mathlib.Omega.{arith}
use borrow.Author.Tests.{lt-ltb, le-ltb}
use lib.IntN.{pos, neg_ℤ}
use lib.Signed.{mag}
use Rattle.laws.proofs.Cases.{by_order}
use Rattle.digits.specs.Decimals.{digit_value, spelled, signed}
use Rattle.leap.specs.Entries.{Entry}
use Rattle.kinds.specs.Parts.{grown}
use Rattle.leap.proofs.Kept.{SameOrLarge, Kept}

pub record Told : Type 0 where
  pub minus : Bool
  pub digits : List ℕ
  pub month : ℕ

-- what is kept of a number of which n is read, behind these digits
unfoldable pub kept_of : ℕ → List ℕ → ℕ
kept_of n [] = n
kept_of n (b ∷ s) = kept_of (grown n b) s

-- the entry that a pair is, and the one that is kept where n is read of its number
abbrev pub to_entry : Told → Entry
to_entry p = (p.month, signed p.minus (spelled 0 p.digits))

abbrev pub kept : ℕ → Told → Entry
kept n p = (p.month, signed p.minus (kept_of n p.digits))

abbrev pub told : List Told → List Entry
told = map to_entry

abbrev pub kept_from : ℕ → List Told → List Entry
kept_from n [] = []
kept_from n (p ∷ ps) = kept n p ∷ map (kept 0) ps

-- ---- numbers of any size

abbrev Same : ℕ → ℕ → Type 0
Same n m = (n ≡ m) ⊎ ((1000 ≤ n) × (1000 ≤ m))

large : (n b : ℕ) → 1000 ≤ n → grown n b ≡ n
large n b h = rw (le-ltb n 1000 h)

pub same_kept : (n m : ℕ) (s : List ℕ) → Same m n → Same (spelled m s) (kept_of n s)
unfolding kept_of spelled
same_kept n m [] h = h
same_kept n m (b ∷ s) h = same_kept (grown n b) (m * 10 + digit_value b) s (more h)
  where
    small : m < 1000 → m ≡ n → m * 10 + digit_value b ≡ grown n b
    small l e = rw (← e, lt-ltb m 1000 l)

    more : Same m n → Same (m * 10 + digit_value b) (grown n b)
    more (inl e) = by_order m 1000 (λ l. inl (small l e)) (λ l. inr (omega arith, omega (arith, large n b (omega arith))))
    more (inr h) = inr (omega arith, omega (arith, large n b h.1))

pub signed_same : (minus : Bool) (m n : ℕ) → Same m n → SameOrLarge (signed minus m) (signed minus n)
signed_same minus m n (inl e) = inl (ap (signed minus) e)
signed_same true m n (inr h) = inr (size m h.0, size n h.1)
  where
    size : (k : ℕ) → 1000 ≤ k → 999 ≤ mag (neg_ℤ (pos k))
    size zero h = absurd (omega arith)
    size (suc k) h = omega arith
signed_same false m n (inr h) = inr (omega arith, omega arith)

pub told_kept : (ps : List Told) → Kept (told ps) (map (kept 0) ps)
told_kept [] = tt
told_kept (p ∷ ps) = (refl, (signed_same p.minus _ _ (same_kept 0 0 p.digits (inl refl)), told_kept ps))

pub from_nought : (ps : List Told) → kept_from 0 ps ≡ map (kept 0) ps
from_nought [] = refl
from_nought (p ∷ ps) = refl
