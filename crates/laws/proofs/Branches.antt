-- What the code's branches show, in the definitions' words: a ladder of tests, or of choices, answered rung by rung.
-- To use: at a `return`, one `-rest` for each test that passed and one `-no` or `-yes` for the one that decided.
-- Assumes nothing.
use mathlib.Core.Path.{◌≡◌, sym, ◌∙◌}
use mathlib.Core.Bool.{Bool, true, false, not, cond, ◌&&◌}
use Prim.Native.Nat.{ℕ, ◌≤◌, ◌<◌}
use borrow.Author.Tests.{not-true, not-false, lt-ltb, le-ltb}
use lib.Dec.{ltb}

pub and_no : {a : Bool} (b : Bool) → a ≡ false → false ≡ (a && b)
and_no b p = rw p

pub and_rest : {a b r : Bool} → a ≡ true → r ≡ b → r ≡ (a && b)
and_rest p q = rw p q

pub cond_yes : {A : Type 0} {b : Bool} {r x : A} (y : A) → b ≡ true → r ≡ x → r ≡ cond b x y
cond_yes y p q = rw p q

pub cond_rest : {A : Type 0} {b : Bool} {r : A} (x : A) {y : A} → b ≡ false → r ≡ y → r ≡ cond b x y
cond_rest x p q = rw p q

-- a choice by an order
pub if_less : {A : Type 0} {m n : ℕ} {r x : A} (y : A) → m < n → r ≡ x → r ≡ cond (ltb m n) x y
if_less y h e = cond_yes y (lt-ltb _ _ h) e

pub if_not_less : {A : Type 0} {m n : ℕ} {r : A} (x : A) {y : A} → n ≤ m → r ≡ y → r ≡ cond (ltb m n) x y
if_not_less x h e = cond_rest x (le-ltb _ _ h) e

-- `r` is what a call answered, and the code tests its negation
pub fails : {b r : Bool} → r ≡ b → not r ≡ true → b ≡ false
fails p q = sym p ∙ not-true _ q

pub holds : {b r : Bool} → r ≡ b → not r ≡ false → b ≡ true
holds p q = sym p ∙ not-false _ q
