-- Offsets that a reader keeps as they are, or cuts down where they are too large: no accepted table has an offset of 1000 or more, so the table is judged alike.
-- Assumes nothing.
use Prim.Native.Nat.{suc, ◌≤◌, ◌<◌}
use mathlib.Core.Path.{◌≡◌, refl, sym, ap, ap₂, subst}
use mathlib.Core.Logic.{◌⊎◌, inl, inr}
use mathlib.Core.Bool.{true}
use mathlib.Core.List.{List, [], ◌∷◌, ◌++◌, reverse, reverse-cons}
use native.Mathlib.Omega.{arith}
use lib.IntN.{ℤ}
use lib.ListN.{length}
use lib.Signed.{mag}
use Rattle.laws.specs.Tests.{All}
use Rattle.laws.proofs.Cases.{by_test}
use Rattle.leap.specs.Leap.{accepted}
use Rattle.leap.specs.Entries.{Entry, table_of}
use Rattle.leap.specs.Readers.{judged}
use Rattle.leap.proofs.Facts.{same_entry, accepted_to}
use Rattle.leap.proofs.Entries.{entries_of}
use Rattle.leap.proofs.Offsets.{Fine, all_fine}

-- a number as it is, or one that is too large for any table in place of another; `mag` of a negative number is one less than its size
abbrev pub SameOrLarge : ℤ → ℤ → Type 0
SameOrLarge z w = (z ≡ w) ⊎ ((999 ≤ mag z) × (999 ≤ mag w))

-- entry by entry
abbrev pub Kept : List Entry → List Entry → Type 0
Kept [] [] = Unit {0}
Kept [] (p ∷ ps) = ⊥
Kept (e ∷ es) [] = ⊥
Kept (e ∷ es) (p ∷ ps) = (e.0 ≡ p.0) × (SameOrLarge e.1 p.1 × Kept es ps)

same_or_large : {z w : ℤ} → SameOrLarge z w → SameOrLarge w z
same_or_large (inl e) = inl (sym e)
same_or_large (inr h) = inr (h.1, h.0)

kept_back : (es ps : List Entry) → Kept es ps → Kept ps es
kept_back [] [] k = tt
kept_back [] (p ∷ ps) k = absurd k
kept_back (e ∷ es) [] k = absurd k
kept_back (e ∷ es) (p ∷ ps) k = (sym k.0, (same_or_large k.1.0, kept_back es ps k.1.1))

-- small offsets are kept as they are
small_kept : (es ps : List Entry) → Kept es ps → All Fine es → es ≡ ps
small_kept [] [] k h = refl
small_kept [] (p ∷ ps) k h = absurd k
small_kept (e ∷ es) [] k h = absurd k
small_kept (e ∷ es) (p ∷ ps) k h = ap₂ ◌∷◌ (same_entry k.0 (same k.1.0 h.0.0)) (small_kept es ps k.1.1 h.1)
  where
    same : {z w : ℤ} → SameOrLarge z w → mag z < 99 → z ≡ w
    same (inl q) l = q
    same (inr g) l = absurd (omega arith)

entries_fine : (es : List Entry) → accepted (table_of es) ≡ true → All Fine es
entries_fine es a = subst (All Fine) (entries_of es) (all_fine (accepted_to (table_of es) a) 0 (table_of es).count (omega arith))

pub kept_judged : (es ps : List Entry) → Kept es ps → judged (table_of ps) ≡ judged (table_of es)
kept_judged es ps k =
    by_test (accepted (table_of es))
    (λ a. ap (λ l. judged (table_of l)) (sym (small_kept es ps k (entries_fine es a))))
    (λ a. by_test (accepted (table_of ps)) (λ b. ap (λ l. judged (table_of l)) (small_kept ps es (kept_back es ps k) (entries_fine ps b))) (λ b. rw (a, b)))

-- what is kept of several, and turned round
pub kept_append : (es ps fs qs : List Entry) → Kept es ps → Kept fs qs → Kept (es ++ fs) (ps ++ qs)
kept_append [] [] fs qs k j = j
kept_append [] (p ∷ ps) fs qs k j = absurd k
kept_append (e ∷ es) [] fs qs k j = absurd k
kept_append (e ∷ es) (p ∷ ps) fs qs k j = (k.0, (k.1.0, kept_append es ps fs qs k.1.1 j))

pub kept_long : (es ps : List Entry) → Kept es ps → length ps ≡ length es
kept_long [] [] k = refl
kept_long [] (p ∷ ps) k = absurd k
kept_long (e ∷ es) [] k = absurd k
kept_long (e ∷ es) (p ∷ ps) k = ap suc (kept_long es ps k.1.1)

pub kept_reverse : (es ps : List Entry) → Kept es ps → Kept (reverse es) (reverse ps)
kept_reverse [] [] k = tt
kept_reverse [] (p ∷ ps) k = absurd k
kept_reverse (e ∷ es) [] k = absurd k
kept_reverse (e ∷ es) (p ∷ ps) k = rw (reverse-cons e es, reverse-cons p ps) (kept_append (reverse es) (reverse ps) (e ∷ []) (p ∷ []) (kept_reverse es ps k.1.1) (k.0, (k.1.0, tt)))
