-- What it means that a contract settles a call: it asks for nothing of the caller, and it allows one outcome alone, the one that a definition gives.
-- A contract is what Rattle itself reads off a function's `requires` and `ensures`: `Pre` speaks of the arguments, `Post` of the arguments, the answer and the arguments at exit.
-- Assumes nothing.
use Rattle.std.specs.Prelude.{◌≡◌, ◌↔◌}
use denote.Ref.{MutBor, at_last}
use denote.Bor.{Bor}

-- arguments, one after the other; `tt` ends them
infixr 4 ◌&◌
abbrev pub ◌&◌ : {A B : Type 0} → A → B → A × B
x & y = (x, y)

-- a value that is lent: `now` is what it holds
abbrev pub Lent : Type 0 → Type 0
Lent X = MutBor X

-- and one that is lent to be read alone
abbrev pub Shown : Type 0 → Type 0
Shown X = Bor X

-- a lent value that holds x when the call ends
infix 5 ◌becomes◌
abbrev pub ◌becomes◌ : {X : Type 0} → Lent X → X → Lent X
l becomes x = at_last l x

-- nothing is asked for, and what is allowed is exactly this outcome
pub record Settles {A : Type 0} (asked : Type 0) (allowed : A → Type 0) (outcome : A) : Type 0 where
  pub asks_nothing : asked
  pub allows_it_alone : (a : A) → allowed a ↔ (a ≡ outcome)

-- so any two outcomes that a contract allows coincide
abbrev pub Coincide : Type 1
Coincide = (A asked : Type 0) (allowed : A → Type 0) (outcome : A) → Settles asked allowed outcome → (a b : A) → allowed a → allowed b → a ≡ b

-- a call that writes to nothing lent is settled: this is its answer. One with a lent value to write to stands under `Leaves`
abbrev pub Returns : {K A R : Type 0} → (K → A → Type 0) → (K → A → R → A → Type 0) → A → R → Type 0
Returns {K} pre post arguments answer = (lifetimes : K) → Settles (pre lifetimes arguments) (λ r. post lifetimes arguments r arguments) answer

-- a call that writes to one lent value is settled: its answer, and what it leaves there
abbrev pub Leaves : {K A E R W : Type 0} → (K → A → Type 0) → (K → A → R → E → Type 0) → A → (W → E) → R × W → Type 0
Leaves {K} {R = R} {W} pre post arguments after outcome =
    (lifetimes : K) → Settles (pre lifetimes arguments) (λ (o : R × W). post lifetimes arguments o.0 (after o.1)) outcome

-- and one that writes to two
abbrev pub LeavesTwo : {K A E R U W : Type 0} → (K → A → Type 0) → (K → A → R → E → Type 0) → A → (U → W → E) → R × U × W → Type 0
LeavesTwo {K} {R = R} {U} {W} pre post arguments after outcome =
    (lifetimes : K) → Settles (pre lifetimes arguments) (λ (o : R × U × W). post lifetimes arguments o.0 (after o.1 o.2)) outcome

-- and to three
abbrev pub LeavesThree : {K A E R T U W : Type 0} → (K → A → Type 0) → (K → A → R → E → Type 0) → A → (T → U → W → E) → R × T × U × W → Type 0
LeavesThree {K} {R = R} {T} {U} {W} pre post arguments after outcome =
    (lifetimes : K) → Settles (pre lifetimes arguments) (λ (o : R × T × U × W). post lifetimes arguments o.0 (after o.1 o.2 o.3)) outcome

-- values, and one more beside them
abbrev pub also : {A B C : Type 0} → A × B → C → A × B × C
also p c = (p.0, p.1, c)

abbrev pub also_three : {A B C D : Type 0} → A × B × C → D → A × B × C × D
also_three p d = (p.0, p.1, p.2, d)
