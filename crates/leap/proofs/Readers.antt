-- What a reader of tables answers, by the entries that it finds.
-- Assumes nothing.
use Prim.Native.Nat.{ℕ}
use mathlib.Core.Path.{◌≡◌, refl, sym, ap, ◌∙◌}
use mathlib.Core.Bool.{true, false}
use mathlib.Core.List.{List, [], ◌++◌, append_assoc}
use Rattle.std.specs.Prelude.{Result}
use Rattle.answer.proofs.Orders.{number_some}
use Rattle.leap.specs.declared.Table.{Table}
use Rattle.answer.specs.declared.Fault.{Fault}
use Rattle.leap.specs.Leap.{vouched_to, accepted}
use Rattle.leap.specs.Entries.{Entry, table_of}
use Rattle.leap.specs.Readers.{no_table, judged, table_results}
use Rattle.leap.specs.Outcomes.{Outcome, entered, fault, joined, table_read}

pub joined_none : (o : Outcome) → joined [] o ≡ o
joined_none (entered v es) = refl
joined_none (fault why at) = refl

pub joined_twice : (es fs : List Entry) (o : Outcome) → joined es (joined fs o) ≡ joined (es ++ fs) o
joined_twice es fs (entered v gs) = rw append_assoc
joined_twice es fs (fault why at) = refl

-- a success is that of entries, and gives their table
pub was_entered : (o : Outcome) (t : Table) → table_results (table_read o) ≡ (0, 0, t) → (v : ℕ) × (es : List Entry) × (o ≡ entered v es) × (vouched_to v (table_of es) ≡ t)
was_entered (entered v es) t e = (v, es, refl, ap (λ x. x.2) e)
was_entered (fault why at) t e = absurd (number_some why (ap (λ x. x.0) e))

-- what a table is judged as, in numbers
module _ (t : Table) {r : Result Table Fault} (e : r ≡ judged t) where
  pub judged_found : accepted t ≡ true → table_results r ≡ (0, 0, t)
  judged_found a = ap table_results e ∙ rw a

  pub judged_refused : accepted t ≡ false → table_results r ≡ (11, 0, no_table)
  judged_refused a = ap table_results e ∙ rw a

-- no reader gives two answers of different numbers
pub two_numbers : {A : Type 0} (r : Result Table Fault) {a b : ℕ × ℕ × Table} → table_results r ≡ a → table_results r ≡ b → (a.0 ≡ b.0 → ⊥) → A
two_numbers r p q n = absurd (n (ap (λ x. x.0) (sym p ∙ q)))
