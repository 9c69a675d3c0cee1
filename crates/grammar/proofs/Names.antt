-- A name byte by byte: how much of it is ours.
-- Assumes nothing.
use Prim.Native.Nat.{ℕ, ◌+◌, ◌≤◌, ◌<◌}
use mathlib.Core.Path.{◌≡◌, refl, sym, ap, subst, ◌∙◌}
use mathlib.Core.Bool.{Bool, true, false, cond, ◌&&◌}
use mathlib.Core.List.{List, [], ◌∷◌, ◌++◌, append_assoc, append-nil}
use native.Mathlib.Omega.{arith}
use native.Mathlib.Numerals.{add-one}
use borrow.Author.Tests.{ltb-true, eqb-true}
use lib.Dec.{ltb, eqb}
use lib.ListN.{length, get_or, take}
use lib.Seq.{take-suc}
use Rattle.laws.proofs.Cases.{by_test, both}
use Rattle.kinds.specs.Kinds.{ours}
use Rattle.kinds.specs.Parts.{matched}

-- a test is not both
pub never : {A : Type 0} {b : Bool} → b ≡ true → b ≡ false → A
never e f = let z : ◌≡◌ {A = ℕ} 0 1 = cc in absurd (omega arith)

-- a name goes on, as ours or as another
pub name_split : (s before : List ℕ) (b k : ℕ) → (k ≤ 15 → s ≡ before ++ take k ours) → matched ours k b ≤ 15 → s ++ b ∷ [] ≡ before ++ take (matched ours k b) ours
unfolding matched
name_split s before b k f = go (ltb k 15 && eqb (get_or ours k 0) b) refl
  where
    go : (x : Bool) → (ltb k 15 && eqb (get_or ours k 0) b) ≡ x → cond x (k + 1) 16 ≤ 15 → s ++ b ∷ [] ≡ before ++ take (cond x (k + 1) 16) ours
    go true e h =
        let w = both (ltb k 15) (eqb (get_or ours k 0) b) e in
        let l : k < length ours = ltb-true k 15 w.0 in
        let a : s ++ b ∷ [] ≡ before ++ (take k ours ++ b ∷ []) = ap (λ x. x ++ b ∷ []) (f (omega arith)) ∙ append_assoc before (take k ours) (b ∷ []) in
        let z : take (k + 1) ours ≡ take k ours ++ b ∷ [] = ap (λ n. take n ours) (add-one k) ∙ take-suc ours k 0 l ∙ ap (λ x. take k ours ++ x ∷ []) (eqb-true (get_or ours k 0) b w.1) in
        a ∙ ap (λ x. before ++ x) (sym z)
    go false e h = absurd (omega arith)

-- how much of our name a name is, behind k bytes of it
unfoldable pub name_from : ℕ → List ℕ → ℕ
name_from k [] = k
name_from k (b ∷ x) = name_from (matched ours k b) x

pub record NameAt (n : List ℕ) (k : ℕ) : Type 0 where
  pub is : name_from 0 n ≡ k
  pub split : k ≤ 15 → n ≡ take k ours

pub first_byte : (b : ℕ) → NameAt (b ∷ []) (matched ours 0 b)
unfolding name_from
first_byte b = record { is = refl; split = name_split [] [] b 0 (λ h. refl) }

name_from_lem : (k b : ℕ) (n : List ℕ) → name_from k (n ++ b ∷ []) ≡ matched ours (name_from k n) b
unfolding name_from
name_from_lem k b [] = refl
name_from_lem k b (c ∷ n) = name_from_lem (matched ours k c) b n

pub name_next : {n : List ℕ} {k : ℕ} (b : ℕ) → NameAt n k → NameAt (n ++ b ∷ []) (matched ours k b)
name_next {n} {k} b h = record { is = name_from_lem 0 b n ∙ ap (λ x. matched ours x b) h.is; split = name_split n [] b k h.split }

ours_is : name_from 0 ours ≡ 15
unfolding name_from matched
ours_is = refl

pub not_ours : (n : List ℕ) (k : ℕ) → NameAt n k → eqb k 15 ≡ false → n ≡ ours → ⊥
not_ours n k h e f =
    let g : k ≡ 15 = sym h.is ∙ ap (name_from 0) f ∙ ours_is in
    never {b = eqb k 15} (ap (λ x. eqb x 15) g) e

pub is_ours : (n : List ℕ) (k : ℕ) → NameAt n k → eqb k 15 ≡ true → n ≡ ours
is_ours n k h e = let g = eqb-true k 15 e in h.split (omega arith) ∙ ap (λ x. take x ours) g

all_named : (n x : List ℕ) (k : ℕ) → NameAt n k → NameAt (n ++ x) (name_from k x)
unfolding name_from
all_named n [] k h = subst (λ l. NameAt l k) (sym (append-nil n)) h
all_named n (b ∷ x) k h = subst (λ l. NameAt l (name_from (matched ours k b) x)) (append_assoc n (b ∷ []) x) (all_named (n ++ b ∷ []) x (matched ours k b) (name_next b h))

-- another's name is not all of ours
pub not_all : (x : List ℕ) → (x ≡ ours → ⊥) → eqb (name_from 0 x) 15 ≡ false
unfolding name_from
not_all x f = by_test (eqb (name_from 0 x) 15)
    (λ e. absurd (f (is_ours x (name_from 0 x) (all_named [] x 0 (record { is = refl; split = λ _. refl })) e)))
    (λ e. e)
