-- Rows of numbers in order: one of two is less or both are equal, and never two of these; what stands in front, behind and cut; and the order seen through a map.
-- To use: `compare` asks for one way of each comparison and gives both; `onto` and `over_map` carry it to other rows and to other numbers.
-- Assumes nothing.
use mathlib.Core.Path.{◌≡◌, refl, sym, subst}
use mathlib.Core.Logic.{◌⊎◌, inl, inr, ⊎_elim, ⊎_map}
use mathlib.Core.List.{List, [], ◌∷◌, ◌++◌}
use Prim.Native.Nat.{ℕ, zero, suc, ◌+◌, ◌<◌}
use native.Mathlib.Omega.{arith}
use lib.IntN.{ℤ}
use lib.ListN.{length, take}
use lib.Signed.{◌≤ℤ◌, ◌<ℤ◌}
use Rattle.laws.specs.Order.{Less, Compare, NotGreater}
use Rattle.laws.proofs.Cases.{lt_cases, by_order}
use Rattle.laws.proofs.Difference.{up, down, integers, lt_from, le_from}

-- ---- one of three

-- one row is less, or they are equal
one_is_less : (a b : List ℕ) → Less a b ⊎ ((a ≡ b) ⊎ Less b a)
unfolding Less
one_is_less [] [] = inr (inl refl)
one_is_less [] (y ∷ b) = inl tt
one_is_less (x ∷ a) [] = inr (inr tt)
one_is_less (x ∷ a) (y ∷ b) = go (lt_cases x y) (one_is_less a b)
  where
    go : (x < y) ⊎ ((x ≡ y) ⊎ (y < x)) → Less a b ⊎ ((a ≡ b) ⊎ Less b a) → Less (x ∷ a) (y ∷ b) ⊎ (((x ∷ a) ≡ (y ∷ b)) ⊎ Less (y ∷ b) (x ∷ a))
    go (inl h) r = inl (inl h)
    go (inr (inr h)) r = inr (inr (inl h))
    go (inr (inl q)) (inl r) = inl (inr (q, r))
    go (inr (inl q)) (inr (inl r)) = inr (inl (cc))
    go (inr (inl q)) (inr (inr r)) = inr (inr (inr (sym q, r)))

-- not both are less
not_both : (a b : List ℕ) → Less a b → Less b a → ⊥
unfolding Less
not_both [] [] p q = p
not_both [] (y ∷ b) p q = q
not_both (x ∷ a) [] p q = p
not_both (x ∷ a) (y ∷ b) (inl h) (inl g) = omega arith
not_both (x ∷ a) (y ∷ b) (inl h) (inr g) = omega (arith, g.0)
not_both (x ∷ a) (y ∷ b) (inr h) (inl g) = omega (arith, h.0)
not_both (x ∷ a) (y ∷ b) (inr h) (inr g) = not_both a b h.1 g.1

-- nor is one of two that are equal
not_equal : {a b : List ℕ} → a ≡ b → Less a b → ⊥
not_equal {a} {b} e h = not_both a b h (subst (λ (r : List ℕ). Less r a) e (subst (Less a) (sym e) h))

-- ---- rows that are joined, and cut

pub less_front : (a b s t : List ℕ) → length a ≡ length b → Less a b → Less (a ++ s) (b ++ t)
unfolding Less
less_front [] [] s t e h = absurd h
less_front [] (y ∷ b) s t e h = absurd (omega arith)
less_front (x ∷ a) [] s t e h = absurd h
less_front (x ∷ a) (y ∷ b) s t e (inl h) = inl h
less_front (x ∷ a) (y ∷ b) s t e (inr h) = inr (h.0, less_front a b s t (omega arith) h.1)

pub less_behind : (a s t : List ℕ) → Less s t → Less (a ++ s) (a ++ t)
unfolding Less
less_behind [] s t h = h
less_behind (x ∷ a) s t h = inr (refl, less_behind a s t h)

-- a last number decides where those before it are equal
pub less_last : (a b : List ℕ) (u v : ℕ) → length a ≡ length b → Less (a ++ u ∷ []) (b ++ v ∷ []) → Less a b ⊎ ((a ≡ b) × (u < v))
unfolding Less
less_last [] [] u v e (inl h) = inr (refl, h)
less_last [] [] u v e (inr h) = absurd h.1
less_last [] (y ∷ b) u v e h = absurd (omega arith)
less_last (x ∷ a) [] u v e h = absurd (omega arith)
less_last (x ∷ a) (y ∷ b) u v e (inl h) = inl (inl h)
less_last (x ∷ a) (y ∷ b) u v e (inr h) =
    ⊎_map (λ p. inr (h.0, p)) (λ p. let q = h.0 in let r = p.0 in (cc, p.1)) (less_last a b u v (omega arith) h.1)

-- where a front is less, the whole is
pub less_cut : (n : ℕ) (a b : List ℕ) → Less (take n a) (take n b) → Less a b
unfolding Less
less_cut zero a b h = absurd h
less_cut (suc n) [] [] h = absurd h
less_cut (suc n) [] (y ∷ b) h = tt
less_cut (suc n) (x ∷ a) [] h = absurd h
less_cut (suc n) (x ∷ a) (y ∷ b) (inl h) = inl h
less_cut (suc n) (x ∷ a) (y ∷ b) (inr h) = inr (h.0, less_cut n a b h.1)

-- ---- rows that compare as whole numbers do

-- a case for each of the three
pub by_less : {P : Type 0} (a b : List ℕ) → (Less a b → P) → (a ≡ b → P) → (Less b a → P) → P
by_less a b f g h = ⊎_elim f (⊎_elim g h) (one_is_less a b)

-- one way of each comparison is enough
pub compare : {a b : List ℕ} {x y : ℤ} → (Less a b → x <ℤ y) → (a ≡ b → x ≡ y) → (Less b a → y <ℤ x) → Compare a b x y
compare {a} {b} {x} {y} f g h =
    record {
      less = (f, λ p. by_less a b (λ q. q) (λ q. absurd (omega (arith, integers, g q))) (λ q. absurd (omega (arith, integers, h q))));
      equal = (g, λ p. by_less a b (λ q. absurd (omega (arith, integers, f q))) (λ q. q) (λ q. absurd (omega (arith, integers, h q))));
      greater = (h, λ p. by_less a b (λ q. absurd (omega (arith, integers, f q))) (λ q. absurd (omega (arith, integers, g q))) (λ q. q));
    }

-- rows s and t stand for a and b
pub reflects : {a b s t : List ℕ} → (a ≡ b → s ≡ t) → (Less b a → Less t s) → Less s t → Less a b
reflects {a} {b} {s} {t} same back h = by_less a b (λ q. q) (λ q. absurd (not_equal (same q) h)) (λ q. absurd (not_both s t h (back q)))

pub onto : {a b s t : List ℕ} {x y : ℤ} → (a ≡ b → s ≡ t) → (Less a b → Less s t) → (Less b a → Less t s) → Compare a b x y → Compare s t x y
onto {a} {b} same forth back c =
    compare (λ h. c.less.0 (reflects same back h))
    (λ e. by_less a b (λ q. absurd (not_equal e (forth q))) c.equal.0 (λ q. absurd (not_equal (sym e) (back q))))
    (λ h. c.greater.0 (reflects (λ e. sym (same (sym e))) forth h))

-- ---- over a map, as from instants to the axis of a scale

abbrev pub NeverFalls : (ℤ → ℤ) → Type 0
NeverFalls f = (x y : ℤ) → x ≤ℤ y → f x ≤ℤ f y

abbrev pub Injective : (ℤ → ℤ) → Type 0
Injective f = (x y : ℤ) → f x ≡ f y → x ≡ y

module _ (f : ℤ → ℤ) (rises : NeverFalls f) where
  -- what is earlier on the axis is earlier
  earlier : (x y : ℤ) → f x <ℤ f y → x <ℤ y
  earlier x y h = by_order (up x + down y) (up y + down x) (λ p. lt_from x y p) (λ p. absurd (omega (arith, integers, rises y x (le_from y x p))))

  module _ (a b : List ℕ) (x y : ℤ) where
    -- where the map never falls, the row of the earlier is never the greater
    pub never_greater : (Less b a → f y <ℤ f x) → x ≤ℤ y → NotGreater a b
    never_greater h l = record { at_most = by_less a b inr inl (λ q. absurd (no q)); never = no }
      where
        no : Less b a → ⊥
        no q = omega (arith, integers, h q, rises x y l)

    -- and where it is one to one besides, rows compare as what is mapped
    pub over_map : Injective f → Compare a b (f x) (f y) → Compare a b x y
    over_map one c = compare (λ q. earlier x y (c.less.0 q)) (λ q. one x y (c.equal.0 q)) (λ q. earlier y x (c.greater.0 q))
