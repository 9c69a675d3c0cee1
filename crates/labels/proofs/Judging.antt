-- What follows `judge`, by its answer: the month that it gave, or its refusal; and what a month that was given says of the reading.
-- Assumes nothing.
use mathlib.Core.Path.{◌≡◌}
use mathlib.Core.Bool.{true}
use Prim.Native.Nat.{ℕ, ◌≤◌}
use native.Mathlib.Omega.{arith}
use Rattle.std.specs.Prelude.{Result, Ok, Err}
use Rattle.laws.proofs.Cases.{and_l, and_r}
use Rattle.answer.specs.declared.Refusal.{Refusal}
use Rattle.answer.specs.Refusals.{refusing}
use Rattle.answer.proofs.Orders.{was_passed, refusing_map}
use Rattle.months.specs.Months.{month_length}
use Rattle.labels.specs.declared.Reading.{Reading}
use Rattle.labels.specs.declared.Month.{Month}
use Rattle.labels.specs.Labels.{month_of, field_tests, judged, real_year, real_month, real_day, real_clock}
use Rattle.labels.proofs.Facts.{year_to, month_to, day_to, OnClock, clock_to}

abbrev pub on_month : {A : Type 0} → (Refusal → A) → (Month → A) → Result Month Refusal → A
on_month refuse next (Ok m) = next m
on_month refuse next (Err why) = refuse why

module _ (most : ℕ) (r : Reading) where
  abbrev month_is : Month
  month_is = record { number = month_of r.label; days = month_length (month_of r.label) }

  pub then_judged : {A : Type 0} (refuse : Refusal → A) (next : Month → A) {v : Result Month Refusal} → judged most r ≡ v → on_month refuse next v ≡ refusing refuse (field_tests most r) (next month_is)
  unfolding judged
  then_judged refuse next e = rw (← e) (refusing_map (on_month refuse next) Err (field_tests most r) (Ok month_is))

  -- what a month that was given says of the reading
  pub record Fields (m : Month) : Type 0 where
    pub month_is_lem : month_is ≡ m
    pub years : (1972 ≤ r.label.year) × (r.label.year ≤ 9999)
    pub months : (1 ≤ r.label.month) × (r.label.month ≤ 12)
    pub days : (1 ≤ r.label.day) × (r.label.day ≤ month_length (month_of r.label))
    pub clock : OnClock most r

  pub judged_fields : (m : Month) → judged most r ≡ Ok m → Fields m
  unfolding judged
  judged_fields m e =
      let w = was_passed Err (field_tests most r) (Ok month_is) (Ok m) (λ why q. let z : ◌≡◌ {A = ℕ} 0 1 = cc in omega arith) e in
      let p = w.0 in
      let q = w.1 in
      let y : real_year r.label ≡ true = search (and_l) in
      let n : real_month r.label ≡ true = search (and_l, and_r) in
      let d : real_day r.label ≡ true = search (and_l, and_r) in
      let c : real_clock most r ≡ true = search (and_l, and_r) in
      record { month_is_lem = cc; years = year_to _ y; months = month_to _ n; days = day_to _ d; clock = clock_to _ _ c }
