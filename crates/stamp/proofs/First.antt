-- What follows the first question, by its answer: the scale that `asked` gave, or its refusal.
-- Assumes nothing.
use mathlib.Core.Path.{◌≡◌}
use mathlib.Core.Bool.{Bool, true}
use mathlib.Core.List.{List}
use Prim.Native.Nat.{ℕ}
use Rattle.std.specs.Prelude.{Result, Ok, Err}
use Rattle.laws.proofs.Cases.{and_l, and_r}
use Rattle.answer.specs.declared.Refusal.{Refusal}
use Rattle.answer.specs.Refusals.{refusing, all_pass}
use Rattle.answer.proofs.Orders.{was_passed, refusing_map}
use Rattle.leap.specs.declared.Table.{Table}
use Rattle.leap.specs.Leap.{accepted}
use Rattle.stamp.specs.declared.Scale.{Scale}
use Rattle.stamp.specs.Scales.{scale_of, scale_tests, asked}

-- ---- an answer that is given

-- is no refusal: every test passed
pub was_given : {A : Type 0} (tests : List (Bool × Refusal)) {a : Result A Refusal} (x : A) → refusing Err tests a ≡ Ok x → (all_pass tests ≡ true) × (a ≡ Ok x)
was_given tests {a} x e = was_passed Err tests a (Ok x) (λ why q. cc) e

-- and is one value's alone
pub same_given : {A : Type 0} {x y : A} → ◌≡◌ {A = Result A Refusal} (Ok x) (Ok y) → x ≡ y
same_given e = cc

-- ---- the scale

abbrev pub on_scale : {A : Type 0} → (Refusal → A) → (Scale → A) → Result Scale Refusal → A
on_scale refuse next (Ok s) = next s
on_scale refuse next (Err why) = refuse why

module _ (t : Table) (k : ℕ) where
  -- a call that goes on by it
  pub then_asked : {A : Type 0} (refuse : Refusal → A) (next : Scale → A) {v : Result Scale Refusal} → asked t k ≡ v → on_scale refuse next v ≡ refusing refuse (scale_tests t k) (next (scale_of k))
  unfolding asked
  then_asked refuse next e = rw (← e) (refusing_map (on_scale refuse next) Err (scale_tests t k) (Ok (scale_of k)))

  pub asked_accepted : (s : Scale) → asked t k ≡ Ok s → accepted t ≡ true
  unfolding asked
  asked_accepted s e =
      let p = (was_given (scale_tests t k) s e).0 in
      search (and_l, and_r)
