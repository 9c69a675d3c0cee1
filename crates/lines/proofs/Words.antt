-- What stands before the first of a byte, and the bytes of a kind in front, step by step.
-- Assumes nothing.
use mathlib.Core.Path.{◌≡◌, refl, ap, ap₂}
use mathlib.Core.List.{List, [], ◌∷◌, ◌++◌}
use mathlib.Core.Bool.{Bool, true, false, cond}
use Prim.Native.Nat.{ℕ, ◌+◌, ◌≤◌, ◌<◌}
use native.Mathlib.Numerals.{add-one}
use native.Mathlib.Omega.{arith}
use borrow.Author.Tests.{eq-eqb, ne_eqb, eqb-true}
use lib.Dec.{eqb}
use lib.ListN.{length, take, drop, get_or, replicate, length-append, drop_of_length-le}
use lib.Seq.{drop-cons}
use Rattle.lines.specs.Words.{before, leading, is_blank}

module _ (b : ℕ) (s : List ℕ) (i : ℕ) where
  pub before_here : i < length s → get_or s i 0 ≡ b → before b (drop i s) ≡ []
  unfolding before
  before_here h e = rw (drop-cons s i 0 h, eq-eqb (get_or s i 0) b e)

  pub before_more : i < length s → (get_or s i 0 ≡ b → ⊥) → before b (drop i s) ≡ get_or s i 0 ∷ before b (drop (i + 1) s)
  unfolding before
  before_more h n = rw (drop-cons s i 0 h, ne_eqb (get_or s i 0) b n, add-one)

  pub before_end : length s ≤ i → before b (drop i s) ≡ []
  unfolding before
  before_end h = rw (drop_of_length-le s h)

-- the bytes of a kind with which what stands from place i on begins
module _ (kind : ℕ → Bool) (s : List ℕ) (i : ℕ) where
  pub leading_more : i < length s → kind (get_or s i 0) ≡ true → leading kind (drop i s) ≡ get_or s i 0 ∷ leading kind (drop (i + 1) s)
  unfolding leading
  leading_more h e = rw (drop-cons s i 0 h, e, add-one)

  pub leading_stop : i < length s → kind (get_or s i 0) ≡ false → leading kind (drop i s) ≡ []
  unfolding leading
  leading_stop h e = rw (drop-cons s i 0 h, e)

  pub leading_none : length s ≤ i → leading kind (drop i s) ≡ []
  unfolding leading
  leading_none h = rw (drop_of_length-le s h)

pub blanks_stop : (s : List ℕ) (i : ℕ) → i < length s → (get_or s i 0 ≡ 32 → ⊥) → leading is_blank (drop i s) ≡ []
blanks_stop s i h e = leading_stop is_blank s i h (ne_eqb _ _ e)

-- the bytes before the first b are the first ones
pub before_front : (b : ℕ) (s : List ℕ) → take (length (before b s)) s ≡ before b s
unfolding before
before_front b [] = refl
before_front b (x ∷ s) = go (eqb x b) (before_front b s)
  where
    go : (t : Bool) → take (length (before b s)) s ≡ before b s → take (length (cond t [] (x ∷ before b s))) (x ∷ s) ≡ cond t [] (x ∷ before b s)
    go true e = refl
    go false e = ap (λ (l : List ℕ). x ∷ l) e

-- the bytes of a kind with which a text begins, and the rest of it
pub leading_split : (kind : ℕ → Bool) (s : List ℕ) → s ≡ leading kind s ++ drop (length (leading kind s)) s
unfolding leading
leading_split kind [] = refl
leading_split kind (x ∷ s) = go (kind x) (leading_split kind s)
  where
    go : (t : Bool) → s ≡ leading kind s ++ drop (length (leading kind s)) s → x ∷ s ≡ cond t (x ∷ leading kind s) [] ++ drop (length (cond t (x ∷ leading kind s) [])) (x ∷ s)
    go true e = ap (λ (l : List ℕ). x ∷ l) e
    go false e = refl

pub leading_short : (kind : ℕ → Bool) (s : List ℕ) → length (leading kind s) ≤ length s
leading_short kind s = omega (arith, ap length (leading_split kind s), length-append (leading kind s) (drop (length (leading kind s)) s))

-- blanks are as many times a blank
pub leading_blanks : (s : List ℕ) → leading is_blank s ≡ replicate (length (leading is_blank s)) 32
unfolding leading
leading_blanks [] = refl
leading_blanks (x ∷ s) = go (eqb x 32) refl (leading_blanks s)
  where
    go : (t : Bool) → eqb x 32 ≡ t → leading is_blank s ≡ replicate (length (leading is_blank s)) 32 → cond t (x ∷ leading is_blank s) [] ≡ replicate (length (cond t (x ∷ leading is_blank s) [])) 32
    go true e h = ap₂ ◌∷◌ (eqb-true x 32 e) h
    go false e h = refl
