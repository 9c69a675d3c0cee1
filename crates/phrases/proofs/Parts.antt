-- Bytes that are the same, the first place of a word, and what was given as it is shown.
-- Assumes nothing.
use mathlib.Core.Path.{◌≡◌, refl, sym, ap, ap₂, ◌∙◌}
use mathlib.Core.Bool.{Bool, true, false, cond, ◌&&◌}
use mathlib.Core.List.{List, [], ◌∷◌, ◌++◌}
use Prim.Native.Nat.{ℕ, suc, ◌+◌, ◌-◌, ◌≤◌, ◌<◌}
use native.Mathlib.Omega.{arith}
use native.Mathlib.Numerals.{add-one}
use lib.ListN.{length, take, drop, get_or, length-drop, drop_of_length-le}
use lib.Seq.{drop-cons, drop-length, take-suc, take_all}
use Rattle.std.proofs.Common.{nat_eq}
use Rattle.std.proofs.lemmas.Bool.Decides.{nat_tests}
use Rattle.std.specs.Cmp.Lexicographic.{pointwise}
use Rattle.digits.specs.Bytes.{same_bytes}
use Rattle.digits.proofs.Bytes.{same_is}
use Rattle.phrases.specs.Parts.{begins_with, up_to, behind, shown_byte, quoted}

-- ---- the same bytes

pub same_told : (s w : List ℕ) {r b : Bool} → ((r ≡ true → s ≡ w) × (s ≡ w → r ≡ true)) → r ≡ b → same_bytes s w ≡ b
same_told s w {r} e q = sym (same_is r s w e.0 e.1) ∙ q

either_way : (a b : ℕ) → nat_eq b a ≡ nat_eq a b
either_way a b = grind (arith, nat_tests)

-- byte by byte, as std compares
pub same_points : (s w : List ℕ) → pointwise nat_eq w s ≡ same_bytes s w
same_points [] [] = refl
same_points [] (b ∷ w) = refl
same_points (a ∷ s) [] = refl
same_points (a ∷ s) (b ∷ w) = ap₂ ◌&&◌ (either_way a b) (same_points s w)

-- ---- the first place of a word

-- the slice from an index on
pub rest_is : (s : List ℕ) (i : ℕ) → take (length s - i) (drop i s) ≡ drop i s
rest_is s i = take_all (length s - i) (drop i s) (simp length-drop (omega arith))

module _ (word s : List ℕ) (i : ℕ) where
  pub up_here : i < length s → begins_with word (drop i s) ≡ true → up_to word (drop i s) ≡ []
  unfolding up_to
  up_here h e = let q : begins_with word (get_or s i 0 ∷ drop (suc i) s) ≡ true = rw (← drop-cons s i 0 h) e in rw (drop-cons s i 0 h, q)

  pub up_more : i < length s → begins_with word (drop i s) ≡ false → up_to word (drop i s) ≡ get_or s i 0 ∷ up_to word (drop (i + 1) s)
  unfolding up_to
  up_more h e = let q : begins_with word (get_or s i 0 ∷ drop (suc i) s) ≡ false = rw (← drop-cons s i 0 h) e in rw (drop-cons s i 0 h, q, add-one)

  pub up_end : length s ≤ i → up_to word (drop i s) ≡ []
  unfolding up_to
  up_end h = rw (drop_of_length-le s h)

-- the bytes before a word are the first ones
up_front : (word s : List ℕ) → take (length (up_to word s)) s ≡ up_to word s
unfolding up_to
up_front word [] = refl
up_front word (x ∷ s) = go (begins_with word (x ∷ s)) (up_front word s)
  where
    go : (t : Bool) → take (length (up_to word s)) s ≡ up_to word s → take (length (cond t [] (x ∷ up_to word s))) (x ∷ s) ≡ cond t [] (x ∷ up_to word s)
    go true e = refl
    go false e = ap (λ (l : List ℕ). x ∷ l) e

-- a slice up to a word, and one behind it
pub first_part : (word s : List ℕ) {k : ℕ} → k ≡ length (up_to word s) → take k s ≡ up_to word s
first_part word s e = rw e (up_front word s)

pub second_part : (word s : List ℕ) (k : ℕ) → drop k s ≡ behind word s → take (length s - k) (drop k s) ≡ behind word s
second_part word s k e = rest_is s k ∙ e

pub behind_none : (word s : List ℕ) {k : ℕ} → k ≡ length (up_to word s) → length s ≤ k + length word → drop (length s) s ≡ behind word s
unfolding behind
behind_none word s {k} e h = let g : length s ≤ length (up_to word s) + length word = omega arith in drop-length s ∙ sym (drop_of_length-le s g)

pub behind_some : (word s : List ℕ) {k : ℕ} → k ≡ length (up_to word s) → drop (k + length word) s ≡ behind word s
unfolding behind
behind_some word s e = rw e

-- ---- what was given

pub quoted_joined : (a b : List ℕ) → quoted (a ++ b) ≡ quoted a ++ quoted b
unfolding quoted
quoted_joined [] b = refl
quoted_joined (x ∷ a) b = ap (λ (l : List ℕ). shown_byte x ∷ l) (quoted_joined a b)

pub quoted_more : (s : List ℕ) (i : ℕ) → i < length s → quoted (take (i + 1) s) ≡ quoted (take i s) ++ (shown_byte (get_or s i 0) ∷ [])
unfolding quoted
quoted_more s i h = rw (add-one, take-suc s i 0 h, quoted_joined)
