-- Parts of a file, one behind the other.
-- Assumes nothing.
use Prim.Native.Nat.{ℕ}
use mathlib.Core.Path.{◌≡◌, refl, sym, ap, ◌∙◌}
use mathlib.Core.Bool.{Bool, true}
use mathlib.Core.List.{List, [], ◌∷◌, ◌++◌, append_assoc}
use borrow.Author.Tests.{eqb-true}
use lib.Dec.{eqb}
use Rattle.laws.proofs.Cases.{join}
use Rattle.grammar.specs.Grammar.{every, Row, Some, some, One, one, Is, ◌▸◌}

module _ {A B : List ℕ → Type 0} {s : List ℕ} where
  -- a first part of no bytes
  pub skip : A [] → B s → (A ▸ B) s
  skip a b = record { first = []; rest = s; is_first = a; is_rest = b; split = refl }

  -- the first part seen otherwise
  pub lead : {A' : List ℕ → Type 0} → ((x : List ℕ) → A x → A' x) → (A ▸ B) s → (A' ▸ B) s
  lead f p = record { first = p.first; rest = p.rest; is_first = f p.first p.is_first; is_rest = p.is_rest; split = p.split }

  -- a byte before the first part
  pub into : {A' : List ℕ → Type 0} (b : ℕ) → ((x : List ℕ) → A x → A' (b ∷ x)) → (A ▸ B) s → (A' ▸ B) (b ∷ s)
  into b f p = record { first = b ∷ p.first; rest = p.rest; is_first = f p.first p.is_first; is_rest = p.is_rest; split = ap (λ l. b ∷ l) p.split }

  pub into_at : {A' : List ℕ → Type 0} (b c : ℕ) → eqb b c ≡ true → ((x : List ℕ) → A x → A' (c ∷ x)) → (A ▸ B) s → (A' ▸ B) (b ∷ s)
  into_at b c e f p = record { first = c ∷ p.first; rest = p.rest; is_first = f p.first p.is_first; is_rest = p.is_rest; split = ap (λ x. x ∷ s) (eqb-true b c e) ∙ ap (λ l. c ∷ l) p.split }

  -- the rest's own first part goes to the first
  pub fold : {B' C : List ℕ → Type 0} → ((x : List ℕ) → B x → (B' ▸ C) x) → (A ▸ B) s → ((A ▸ B') ▸ C) s
  fold f p = let q = f p.rest p.is_rest in record {
    first = p.first ++ q.first;
    rest = q.rest;
    is_first = record { first = p.first; rest = q.first; is_first = p.is_first; is_rest = q.is_first; split = refl };
    is_rest = q.is_rest;
    split = p.split ∙ ap (λ l. p.first ++ l) q.split ∙ sym (append_assoc p.first q.first q.rest);
  }

module _ {B : List ℕ → Type 0} {s : List ℕ} where
  pub put : (b c : ℕ) → eqb b c ≡ true → B s → (Is (c ∷ []) ▸ B) (b ∷ s)
  put b c e h = record { first = c ∷ []; rest = s; is_first = refl; is_rest = h; split = ap (λ x. x ∷ s) (eqb-true b c e) }

  module _ (f : ℕ → Bool) {b : ℕ} (e : f b ≡ true) where
    pub mark : B s → (One f ▸ B) (b ∷ s)
    mark h = record { first = b ∷ []; rest = s; is_first = one e; is_rest = h; split = refl }

    pub row_more : (Row f ▸ B) s → (Row f ▸ B) (b ∷ s)
    unfolding every
    row_more p = into b (λ x h. join e h) p

    pub some_more : (Row f ▸ B) s → (Some f ▸ B) (b ∷ s)
    some_more p = into b (λ x h. some e h) p

pub row_none : (f : ℕ → Bool) → Row f []
unfolding every
row_none f = refl
