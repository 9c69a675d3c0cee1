-- A call's refusals, answered one by one.
-- Assumes nothing.
use mathlib.Core.Path.{◌≡◌, refl, sym, ap, ◌∙◌}
use mathlib.Core.Bool.{Bool, true, false, cond, ◌&&◌}
use mathlib.Core.List.{List, [], ◌∷◌, ◌++◌}
use Prim.Native.Nat.{ℕ}
use native.Mathlib.Omega.{arith}
use lib.ListN.{get_or}
use Rattle.laws.proofs.Branches.{cond_yes, cond_rest}
use Rattle.laws.proofs.Cases.{both, join}
use Rattle.answer.specs.declared.Refusal.{Refusal}
use Rattle.answer.specs.declared.Refusal.TheVariants.{Room, Shape, Year, Date, Clock, NoSecond, Range, Ask, Cut, Groups, Table, Tail, Number, Kernel, Card}
use Rattle.answer.specs.Refusals.{number, refusing, all_pass}

pub refused : {A : Type 0} {b : Bool} (why y : A) → b ≡ false → why ≡ cond b y why
refused why y p = cond_rest y p refl

pub passed : {A : Type 0} {b : Bool} (why : A) {y a : A} → b ≡ true → a ≡ y → a ≡ cond b y why
passed why p e = cond_yes why p e

-- ---- a whole order

pub none_refused : {A : Type 0} (refuse : Refusal → A) (tests : List (Bool × Refusal)) (a : A) → all_pass tests ≡ true → refusing refuse tests a ≡ a
none_refused refuse [] a e = refl
none_refused refuse (test ∷ tests) a e =
    let p = both test.0 (all_pass tests) e in
    sym (passed (refuse test.1) p.0 (sym (none_refused refuse tests a p.1)))

-- two orders in a row
pub pass_append : (tests more : List (Bool × Refusal)) → all_pass (tests ++ more) ≡ (all_pass tests && all_pass more)
pass_append [] more = refl
pass_append (test ∷ tests) more = go test.0 (pass_append tests more)
  where
    go : (b : Bool) → all_pass (tests ++ more) ≡ (all_pass tests && all_pass more) → (b && all_pass (tests ++ more)) ≡ ((b && all_pass tests) && all_pass more)
    go true e = e
    go false e = refl

-- an answer that is no refusal: every test passed
pub was_passed : {A : Type 0} (refuse : Refusal → A) (tests : List (Bool × Refusal)) (a v : A) → ((why : Refusal) → refuse why ≡ v → ⊥) → refusing refuse tests a ≡ v → (all_pass tests ≡ true) × (a ≡ v)
was_passed refuse [] a v n e = (refl, e)
was_passed refuse (test ∷ tests) a v n e = go test.0 refl e (λ q. was_passed refuse tests a v n q)
  where
    go : (b : Bool) → test.0 ≡ b → cond b (refusing refuse tests a) (refuse test.1) ≡ v → (refusing refuse tests a ≡ v → (all_pass tests ≡ true) × (a ≡ v)) → ((test.0 && all_pass tests) ≡ true) × (a ≡ v)
    go true p q ih = let w = ih q in (join p w.0, w.1)
    go false p q ih = absurd (n test.1 q)

-- an order answered in one type is answered in another
pub refusing_map : {A B : Type 0} (f : A → B) (refuse : Refusal → A) (tests : List (Bool × Refusal)) (a : A) → f (refusing refuse tests a) ≡ refusing (λ why. f (refuse why)) tests (f a)
refusing_map f refuse [] a = refl
refusing_map f refuse (test ∷ tests) a = go test.0 (refusing_map f refuse tests a)
  where
    go : (b : Bool) → f (refusing refuse tests a) ≡ refusing (λ why. f (refuse why)) tests (f a) → f (cond b (refusing refuse tests a) (refuse test.1)) ≡ cond b (refusing (λ why. f (refuse why)) tests (f a)) (f (refuse test.1))
    go true e = e
    go false e = refl

-- no refusal has the number of success
pub number_some : (why : Refusal) → number why ≡ 0 → ⊥
number_some Room e = omega arith
number_some Shape e = omega arith
number_some Year e = omega arith
number_some Date e = omega arith
number_some Clock e = omega arith
number_some NoSecond e = omega arith
number_some Range e = omega arith
number_some Ask e = omega arith
number_some Cut e = omega arith
number_some Groups e = omega arith
number_some Table e = omega arith
number_some Tail e = omega arith
number_some Number e = omega arith
number_some Kernel e = omega arith
number_some Card e = omega arith

-- the refusal of a number
named : ℕ → Refusal
named n = get_or (Room ∷ Room ∷ Shape ∷ Year ∷ Date ∷ Clock ∷ NoSecond ∷ Range ∷ Ask ∷ Cut ∷ Groups ∷ Table ∷ Tail ∷ Number ∷ Kernel ∷ Card ∷ []) n Room

named_back : (why : Refusal) → named (number why) ≡ why
unfolding named
named_back Room = refl
named_back Shape = refl
named_back Year = refl
named_back Date = refl
named_back Clock = refl
named_back NoSecond = refl
named_back Range = refl
named_back Ask = refl
named_back Cut = refl
named_back Groups = refl
named_back Table = refl
named_back Tail = refl
named_back Number = refl
named_back Kernel = refl
named_back Card = refl

-- no two refusals share a number
pub numbers_differ : (why other : Refusal) → number why ≡ number other → why ≡ other
numbers_differ why other e = sym (named_back why) ∙ ap named e ∙ named_back other
