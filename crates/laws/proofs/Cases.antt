-- Proofs by cases on a test or on an order, and what joined tests say.
-- To use: `by_test`, `by_order` and `pick` give each case its fact; `search (and_l, and_r, leb-true)` takes a joined test apart.
-- Assumes nothing.
use mathlib.Core.Path.{◌≡◌, refl, sym, ap, ◌∙◌}
use mathlib.Core.Logic.{◌⊎◌, inl, inr}
use mathlib.Core.Bool.{Bool, true, false, cond, ◌&&◌, ◌||◌}
use Prim.Native.Nat.{ℕ, zero, suc, ◌≤◌, ◌<◌}
use native.Mathlib.Omega.{arith}
use borrow.Author.Tests.{ltb-true, ltb-false, leb-true, leb-false}
use lib.Dec.{ltb, leb}
use Rattle.laws.specs.Tests.{all_below}

-- a choice by a test has a property where each side has it under what the test says
pub pick : {A : Type 0} (P : A → Type 0) (b : Bool) {x y : A} → (b ≡ true → P x) → (b ≡ false → P y) → P (cond b x y)
pick P true f g = f refl
pick P false f g = g refl

pub pick< : {A : Type 0} (P : A → Type 0) (m n : ℕ) {x y : A} → (m < n → P x) → (n ≤ m → P y) → P (cond (ltb m n) x y)
pick< P m n f g = pick P (ltb m n) (λ e. f (ltb-true m n e)) (λ e. g (ltb-false m n e))

-- a choice that is not its second side is its first
pub chosen : {A : Type 0} (t : Bool) {x y z : A} → (y ≡ z → ⊥) → cond t x y ≡ z → (t ≡ true) × (x ≡ z)
chosen true n e = (refl, e)
chosen false n e = absurd (n e)

pub by_test : {P : Type 0} (t : Bool) → (t ≡ true → P) → (t ≡ false → P) → P
by_test true f g = f refl
by_test false f g = g refl

pub by_order : {P : Type 0} (a b : ℕ) → (a < b → P) → (b ≤ a → P) → P
by_order a b f g = by_test (ltb a b) (λ e. f (ltb-true a b e)) (λ e. g (ltb-false a b e))

pub lt_cases : (x y : ℕ) → (x < y) ⊎ ((x ≡ y) ⊎ (y < x))
lt_cases x y = go (leb x y) (leb y x) refl refl
  where
    go : (a b : Bool) → leb x y ≡ a → leb y x ≡ b → (x < y) ⊎ ((x ≡ y) ⊎ (y < x))
    go true true p q = inr (inl (omega (arith, leb-true)))
    go true false p q = inl (leb-false y x q)
    go false b p q = inr (inr (leb-false x y p))

-- ---- tests joined

pub both : (a b : Bool) → (a && b) ≡ true → (a ≡ true) × (b ≡ true)
both true b e = (refl, e)
both false b e = (e, cc)

pub and_l : (a b : Bool) → (a && b) ≡ true → a ≡ true
and_l a b e = (both a b e).0

pub and_r : (a b : Bool) → (a && b) ≡ true → b ≡ true
and_r a b e = (both a b e).1

pub join : {a b : Bool} → a ≡ true → b ≡ true → (a && b) ≡ true
join {a} {b} p q = cc

pub one_of : (a b : Bool) → (a || b) ≡ true → (a ≡ true) ⊎ (b ≡ true)
one_of true b e = inl refl
one_of false b e = inr e

pub or_l : {a : Bool} (b : Bool) → a ≡ true → (a || b) ≡ true
or_l b p = rw p

pub or_r : (a : Bool) {b : Bool} → b ≡ true → (a || b) ≡ true
or_r true p = refl
or_r false p = p

-- two tests that pass together are one
pub by_truth : (a b : Bool) → (a ≡ true → b ≡ true) → (b ≡ true → a ≡ true) → a ≡ b
by_truth true b f g = sym (f refl)
by_truth false true f g = g refl
by_truth false false f g = refl

-- ---- a test at each number below n

pub below : (f : ℕ → Bool) (n : ℕ) → all_below f n ≡ true → (k : ℕ) → k < n → f k ≡ true
unfolding all_below
below f zero e k h = absurd (omega arith)
below f (suc n) e k h = go (both (all_below f n) (f n) e) (lt_cases k n) (λ p q. below f n p k q)
  where
    go : (all_below f n ≡ true) × (f n ≡ true) → (k < n) ⊎ ((k ≡ n) ⊎ (n < k)) → (all_below f n ≡ true → k < n → f k ≡ true) → f k ≡ true
    go w (inl q) ih = ih w.0 q
    go w (inr (inl q)) ih = ap f q ∙ w.1
    go w (inr (inr q)) ih = absurd (omega arith)

pub all_below_lem : (f : ℕ → Bool) (n : ℕ) → ((k : ℕ) → k < n → f k ≡ true) → all_below f n ≡ true
unfolding all_below
all_below_lem f zero h = refl
all_below_lem f (suc n) h = join (all_below_lem f n (λ k l. h k (omega arith))) (h n (omega arith))
