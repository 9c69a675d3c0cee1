-- Contracts that are equations settle their calls, and two outcomes that a contract allows are equal.
-- To use: `equal`, `each`, `beside`, `beside_three` and `following` prove a line of what is settled, by the form of its contract.
-- Assumes nothing.
use mathlib.Core.Path.{◌≡◌, ap, ap₂, subst, sym, ◌∙◌}
use Rattle.laws.specs.Settles.{Settles, Coincide, also, also_three}

pub coincide : Coincide
coincide A asked allowed outcome s a b p q = (s.allows_it_alone a).0 p ∙ sym ((s.allows_it_alone b).0 q)

-- an equation
pub equal : {A : Type 0} {v : A} → Settles Unit (λ (a : A). a ≡ v) v
equal = record { asks_nothing = tt; allows_it_alone = λ a. (λ p. p, λ p. p) }

-- an equation for the answer, and one for what is left
pub each : {A B : Type 0} {v : A × B} → Settles Unit (λ (a : A × B). (a.0 ≡ v.0) × (a.1 ≡ v.1)) v
each =
    record {
      asks_nothing = tt;
      allows_it_alone = λ a. (λ p. ap₂ (λ x y. (x, y)) p.0 p.1, λ p. (ap (λ x. x.0) p, ap (λ x. x.1) p));
    }

-- an equation for a number and a length, and one for the bytes
pub beside : {A B C : Type 0} {v : A × B} {w : C} → Settles Unit (λ (a : A × B × C). ((a.0, a.1) ≡ v) × (a.2 ≡ w)) (also v w)
beside =
    record {
      asks_nothing = tt;
      allows_it_alone = λ a. (λ p. ap₂ also p.0 p.1, λ p. (ap (λ x. (x.0, x.1)) p, ap (λ x. x.2) p));
    }

pub beside_three : {A B C D : Type 0} {v : A × B × C} {w : D} → Settles Unit (λ (a : A × B × C × D). ((a.0, a.1, a.2) ≡ v) × (a.3 ≡ w)) (also_three v w)
beside_three =
    record {
      asks_nothing = tt;
      allows_it_alone = λ a. (λ p. ap₂ also_three p.0 p.1, λ p. (ap (λ x. (x.0, x.1, x.2)) p, ap (λ x. x.3) p));
    }

-- an equation, and what follows from it
pub following : {A : Type 0} {v : A} (also_said : A → Type 0) → also_said v → Settles Unit (λ (a : A). (a ≡ v) × also_said a) v
following also_said h = record { asks_nothing = tt; allows_it_alone = λ a. (λ p. p.0, λ p. (p, subst also_said (sym p) h)) }
