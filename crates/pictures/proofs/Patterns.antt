-- Patterns: byte by byte, from the front, and at a place.
-- Assumes nothing.
use mathlib.Core.Path.{◌≡◌, refl, sym, ap, ap₂, subst, ◌∙◌}
use mathlib.Core.Bool.{Bool, true, false, cond, ◌&&◌}
use mathlib.Core.Logic.{◌⊎◌, inl, inr, ⊎_elim}
use mathlib.Core.List.{List, [], ◌∷◌}
use Prim.Native.Nat.{ℕ, zero, suc, ◌+◌, ◌≤◌, ◌<◌}
use native.Mathlib.Nat.{le_of_suc-le-suc, not-suc-le-zero}
use native.Mathlib.Omega.{arith}
use borrow.Author.Tests.{eqb-true, leb-true}
use lib.Dec.{eqb, leb}
use lib.ListN.{length, get_or}
use Rattle.laws.proofs.Cases.{both, and_l, and_r, join, one_of}
use Rattle.digits.specs.Decimals.{digit_value, all_digits}
use Rattle.std.specs.Prelude.{Some, None}
use Rattle.pictures.specs.Parts.{Digits, Numbers}
use Rattle.pictures.specs.declared.Date.{Date}
use Rattle.pictures.specs.declared.Fields.{Fields}
use Rattle.pictures.specs.Reading.{as_shown, like, in_full, right_length, has_picture, fields_in}

and_assoc : (a b c : Bool) → ((a && b) && c) ≡ (a && (b && c))
and_assoc true b c = refl
and_assoc false b c = refl

and_true : (a : Bool) → (a && true) ≡ a
and_true true = refl
and_true false = refl

pub and_false : (a : Bool) → (a && false) ≡ false
and_false true = refl
and_false false = refl

-- one byte more
pub like_more : (fine : Bool) {c b : ℕ} {cs s x y : List ℕ} {r : Bool} → x ≡ c ∷ cs → y ≡ b ∷ s → (fine && like x y) ≡ r → ((fine && as_shown c b) && like cs s) ≡ r
unfolding like
like_more fine {c} {b} {cs} {s} p q e = and_assoc fine (as_shown c b) (like cs s) ∙ rw (p, q) at e

pub like_none : (fine : Bool) (x y : List ℕ) {r : Bool} → length x ≡ 0 → length y ≡ 0 → (fine && like x y) ≡ r → fine ≡ r
unfolding like
like_none fine [] [] p q e = sym (and_true fine) ∙ e
like_none fine [] (b ∷ s) p q e = absurd (omega arith)
like_none fine (c ∷ cs) y p q e = absurd (omega arith)

pub like_length : (cs s : List ℕ) → like cs s ≡ true → length s ≡ length cs
unfolding like
like_length [] [] e = refl
like_length [] (b ∷ s) e = cc
like_length (c ∷ cs) [] e = cc
like_length (c ∷ cs) (b ∷ s) e = ap suc (like_length cs s (and_r (as_shown c b) _ e))

pub like_at : (cs s : List ℕ) (k : ℕ) → like cs s ≡ true → k < length cs → as_shown (get_or cs k 0) (get_or s k 0) ≡ true
unfolding like
like_at [] s k e h = absurd (not-suc-le-zero h)
like_at (c ∷ cs) [] k e h = cc
like_at (c ∷ cs) (b ∷ s) zero e h = and_l _ (like cs s) e
like_at (c ∷ cs) (b ∷ s) (suc k) e h = like_at cs s k (and_r (as_shown c b) _ e) (le_of_suc-le-suc h)

-- w digits from place i on in a pattern, and so in a text
abbrev pub zeros_at : List ℕ → ℕ → ℕ → Bool
zeros_at cs i zero = leb i (length cs)
zeros_at cs i (suc w) = eqb (get_or cs i 0) 48 && zeros_at cs (i + 1) w

pub digits_at : (cs : List ℕ) {t : List ℕ} (i w : ℕ) → zeros_at cs i w ≡ true → like cs t ≡ true → Digits t i w
unfolding all_digits
digits_at cs {t} i zero e h = record { inside = omega (arith, leb-true i (length cs) e, like_length cs t h); all = refl }
digits_at cs {t} i (suc w) e h =
    let p = both (eqb (get_or cs i 0) 48) (zeros_at cs (i + 1) w) e in
    let r = digits_at cs {t = t} (i + 1) w p.1 h in
    let l : i < length cs = omega (arith, r.inside, like_length cs t h) in
    record {
      inside = omega (arith, r.inside);
      all = join (subst (λ (c : ℕ). as_shown c (get_or t i 0) ≡ true) (eqb-true (get_or cs i 0) 48 p.0) (like_at cs t i h l)) r.all;
    }

-- all the numbers but those of the date
pub numbers_at : (cs : List ℕ) {t : List ℕ} (at : ℕ) → zeros_at cs 0 4 ≡ true → zeros_at cs at 2 ≡ true → zeros_at cs (at + 3) 2 ≡ true → zeros_at cs (at + 6) 2 ≡ true → zeros_at cs (at + 9) 6 ≡ true
    → like cs t ≡ true → Numbers t at
numbers_at cs at y h m s u e =
    record {
      year = digits_at cs 0 4 y e;
      hour = digits_at cs at 2 h e;
      minute = digits_at cs (at + 3) 2 m e;
      second = digits_at cs (at + 6) 2 s e;
      micro = digits_at cs (at + 9) 6 u e;
    }

-- a byte that is not as shown
pub unlike : (cs s : List ℕ) (k : ℕ) → k < length cs → as_shown (get_or cs k 0) (get_or s k 0) ≡ false → like cs s ≡ false
unfolding like
unlike [] s k h e = absurd (not-suc-le-zero h)
unlike (c ∷ cs) [] k h e = refl
unlike (c ∷ cs) (b ∷ s) zero h e = rw e
unlike (c ∷ cs) (b ∷ s) (suc k) h e = rw (unlike cs s k (le_of_suc-le-suc h) e) (and_false (as_shown c b))

-- the digits of a pattern count nothing
abbrev pub countless : List ℕ → Bool
countless [] = true
countless (c ∷ cs) = eqb (digit_value c) 0 && countless cs

pub counts_none : (cs : List ℕ) → countless cs ≡ true → (k : ℕ) → digit_value (get_or cs k 0) ≡ 0
unfolding digit_value
counts_none [] e k = refl
counts_none (c ∷ cs) e zero = eqb-true (digit_value c) 0 (and_l _ (countless cs) e)
counts_none (c ∷ cs) e (suc k) = counts_none cs (and_r (eqb (digit_value c) 0) _ e) k

-- ---- the text in full

-- how long a text with a picture is
pub lengths : (n size : ℕ) → right_length n size ≡ true → (size ≡ n) ⊎ ((n + 2 ≤ size) × (size ≤ n + 7))
lengths n size e =
    ⊎_elim (λ p. inl (eqb-true size n p)) (λ p. inr (leb-true (n + 2) size (and_l _ (leb size (n + 7)) p), leb-true size (n + 7) (and_r (leb (n + 2) size) _ p)))
    (one_of (eqb size n) (leb (n + 2) size && leb size (n + 7)) e)

pub length_most : (n size : ℕ) → right_length n size ≡ true → size ≤ n + 7
length_most n size e = ⊎_elim (λ p. omega arith) (λ p. omega arith) (lengths n size e)

-- what is told where a test holds, and where it does not
found : {A : Type 0} (b : Bool) {x y : A} → Some y ≡ cond b (Some x) None → (b ≡ true) × (y ≡ x)
found true e = (refl, cc)
found false e = cc

pub not_found : {A : Type 0} (b : Bool) (x : A) → None ≡ cond b (Some x) None → b ≡ false
not_found true x e = cc
not_found false x e = refl

-- a text that fills a pattern: it has the picture, and the pattern's bytes are then the text in full
module _ (cs : List ℕ) (n : ℕ) (s : List ℕ) {t : List ℕ} (f : Some t ≡ cond (has_picture cs n s) (Some (in_full cs s)) None) where
  pub has_it : has_picture cs n s ≡ true
  has_it = (found (has_picture cs n s) f).0

  pub is_full : t ≡ in_full cs s
  is_full = (found (has_picture cs n s) f).1

  pub is_alike : like cs t ≡ true
  is_alike = ap (like cs) is_full ∙ and_r (right_length n (length s)) _ has_it

  pub is_short : length s ≤ n + 7
  is_short = length_most n (length s) (and_l _ (like cs (in_full cs s)) has_it)

-- the fields that were read from a text are those of the text in full
pub fields_from : (at : ℕ) (date : List ℕ → Date) {t u : List ℕ} {k n : ℕ} {d : Date} {r : Fields} → r ≡ fields_in t at k d → k ≡ n → d ≡ date t → t ≡ u → r ≡ fields_in u at n (date u)
fields_from at date {t} {n = n} e p q g = e ∙ ap₂ (fields_in t at) p q ∙ ap (λ (x : List ℕ). fields_in x at n (date x)) g
