-- Two stamps that are read.
-- Assumes nothing.
use mathlib.Core.Path.{◌≡◌, ap₂, ◌∙◌}
use mathlib.Core.Bool.{Bool, ◌||◌}
use mathlib.Core.List.{List}
use Prim.Native.Nat.{ℕ}
use lib.IntN.{ℤ, ◌-ℤ◌}
use Rattle.std.specs.Prelude.{Option, Result, Ok}
use Rattle.answer.specs.declared.Refusal.{Refusal}
use Rattle.leap.specs.declared.Table.{Table}
use Rattle.stamp.specs.declared.Stamp.{Stamp}
use Rattle.stampwords.specs.Stamps.{stamp_read}
use Rattle.stampwords.specs.Spans.{steps_in_order, span_from, span_of}

pub span_is : (t : Table) (a b : List ℕ) {m : Bool} {u v : Result (ℤ × Stamp) Refusal} → m ≡ ((stamp_read t a).beyond || (stamp_read t b).beyond) → (stamp_read t a).answer ≡ u → (stamp_read t b).answer ≡ v → span_from t m u v ≡ span_of t a b
unfolding span_of
span_is t a b p q r = rw (p, ← q, ← r)

pub span_of_two : (t : Table) (a b : List ℕ) {m : Bool} {x y d : ℤ} {z w : Stamp} {st : Option ℤ} → m ≡ ((stamp_read t a).beyond || (stamp_read t b).beyond) → (stamp_read t a).answer ≡ Ok (x, z) → (stamp_read t b).answer ≡ Ok (y, w)
    → d ≡ y -ℤ x → st ≡ steps_in_order t x z y w → Ok (record { micros = d; steps = st; beyond = m }) ≡ span_of t a b
span_of_two t a b {m} p q r e f = ap₂ (λ d st. Ok (record { micros = d; steps = st; beyond = m })) e f ∙ span_is t a b p q r
