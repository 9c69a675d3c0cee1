-- Rows of numbers in order. Of bytes it is the order of `sort` with LC_ALL=C, and that of memcmp where both have one length.
-- To use: cite them in a definition; proofs/Order.antt has their laws.
-- Assumes nothing.
use Rattle.std.specs.Prelude.{◌≡◌, ◌⊎◌, ◌↔◌, List, [], ◌∷◌, ℕ, ◌<◌, ℤ, ◌<ℤ◌}

-- the first number that differs decides; where none does, a row that ends before the other is less
unfoldable pub Less : List ℕ → List ℕ → Type 0
Less [] [] = ⊥
Less [] (y ∷ ys) = Unit {0}
Less (x ∷ xs) [] = ⊥
Less (x ∷ xs) (y ∷ ys) = (x < y) ⊎ ((x ≡ y) × Less xs ys)

-- two rows compare as two whole numbers do, each way
pub record Compare (a b : List ℕ) (x y : ℤ) : Type 0 where
  pub less : Less a b ↔ (x <ℤ y)
  pub equal : (a ≡ b) ↔ (x ≡ y)
  pub greater : Less b a ↔ (y <ℤ x)

-- the row a is never the greater: it is less than b, or the same
pub record NotGreater (a b : List ℕ) : Type 0 where
  pub at_most : (a ≡ b) ⊎ Less a b
  pub never : Less b a → ⊥
