-- What the check of a table says, as facts about its entries, both ways.
-- Assumes nothing.
use mathlib.Core.Path.{◌≡◌, sym, ap, ap₂, subst, ◌∙◌}
use mathlib.Core.Logic.{◌⊎◌, inl, inr, ⊎_map}
use mathlib.Core.Bool.{true, false, ◌&&◌}
use Prim.Native.Nat.{ℕ, zero, suc, ◌+◌, ◌-◌, ◌≤◌, ◌<◌}
use native.Mathlib.Numerals.{add-one}
use native.Mathlib.Omega.{arith}
use borrow.Author.Tests.{leb-true, ltb-true, eqb-true, lt-ltb, le-leb, eq-eqb}
use lib.Dec.{leb, ltb, eqb}
use lib.IntN.{ℤ, suc_ℤ}
use Rattle.laws.specs.Tests.{eq_z, all_below}
use Rattle.laws.proofs.Cases.{both, and_l, and_r, one_of, or_l, or_r, join, below, all_below_lem, by_test, by_order}
use Rattle.laws.proofs.Machine.{eq_z_true, eq_z_eq}
use Rattle.leap.specs.declared.Table.{Table}
use Rattle.leap.specs.Leap.{last_entry_month, entry_month, one_apart, later_right, place_right, vouched_right, accepted}
use Rattle.leap.specs.Entries.{Entry, first_entry, no_entry, entry}
use Rattle.leap.proofs.Places.{later_step, unused_is}

-- entry f may come next after entry e
pub record Later (e f : Entry) : Type 0 where
  pub rises : e.0 < f.0
  pub early : f.0 ≤ last_entry_month
  pub step : (f.1 ≡ suc_ℤ e.1) ⊎ (e.1 ≡ suc_ℤ f.1)

pub record Accepted (t : Table) : Type 0 where
  pub some_entry : 0 < t.count
  pub few : t.count ≤ 64
  pub first : entry t 0 ≡ first_entry
  pub later : (k : ℕ) → k + 1 < t.count → Later (entry t k) (entry t (k + 1))
  pub unused : (k : ℕ) → t.count ≤ k → k < 64 → entry t k ≡ no_entry
  pub month_right : vouched_right (entry_month t (t.count - 1)) t.vouched ≡ true

-- ---- a place, its month m and its offset o

pub same_entry : {m m' : ℕ} {o o' : ℤ} → m ≡ m' → o ≡ o' → ◌≡◌ {A = Entry} (m, o) (m', o')
same_entry p q = ap₂ (λ m o. (m, o)) p q

zero_to : (m : ℕ) (o z : ℤ) → (eqb m 0 && eq_z o z) ≡ true → ◌≡◌ {A = Entry} (m, o) (0, z)
zero_to m o z e = same_entry (eqb-true m 0 (and_l (eqb m 0) (eq_z o z) e)) (eq_z_true o z (and_r (eqb m 0) (eq_z o z) e))

zero_from : {m : ℕ} {o z : ℤ} → ◌≡◌ {A = Entry} (m, o) (0, z) → (eqb m 0 && eq_z o z) ≡ true
zero_from e = join (eq-eqb _ _ (ap (λ x. x.0) e)) (eq_z_eq (ap (λ x. x.1) e))

apart_to : (o o' : ℤ) → one_apart o o' ≡ true → (o' ≡ suc_ℤ o) ⊎ (o ≡ suc_ℤ o')
unfolding one_apart
apart_to o o' e = ⊎_map (eq_z_true o' (suc_ℤ o)) (eq_z_true o (suc_ℤ o')) (one_of (eq_z o' (suc_ℤ o)) (eq_z o (suc_ℤ o')) e)

apart_from : (o o' : ℤ) → (o' ≡ suc_ℤ o) ⊎ (o ≡ suc_ℤ o') → one_apart o o' ≡ true
unfolding one_apart
apart_from o o' (inl q) = or_l (eq_z o (suc_ℤ o')) (eq_z_eq q)
apart_from o o' (inr q) = or_r (eq_z o' (suc_ℤ o)) (eq_z_eq q)

later_to : (m : ℕ) (o : ℤ) (m' : ℕ) (o' : ℤ) → later_right m o m' o' ≡ true → Later (m, o) (m', o')
later_to m o m' o' e =
    let h : (leb m' last_entry_month && one_apart o o') ≡ true = and_r (ltb m m') _ e in
    record { rises = search (and_l, ltb-true); early = search (and_l, leb-true); step = apart_to o o' (and_r (leb m' last_entry_month) _ h) }

later_from : {m : ℕ} {o : ℤ} {m' : ℕ} {o' : ℤ} → Later (m, o) (m', o') → later_right m o m' o' ≡ true
later_from l = join (lt-ltb _ _ l.rises) (join (le-leb _ _ l.early) (apart_from _ _ l.step))

-- ---- a table

module _ (t : Table) where
  pub count_to : accepted t ≡ true → (1 ≤ t.count) × (t.count ≤ 64)
  unfolding accepted
  count_to e = search (and_l, and_r, leb-true)

  -- over 64 entries are no table
  pub too_many : 64 < t.count → accepted t ≡ false
  too_many l = by_test (accepted t) (λ e. absurd (omega (arith, count_to e))) (λ e. e)

  pub accepted_to : accepted t ≡ true → Accepted t
  unfolding accepted place_right
  accepted_to e =
      record { some_entry = counted.0; few = counted.1; first = zero_to _ _ _ (right 0 (omega arith)); later = λ k h. later_to _ _ _ _ (later_step t k h ∙ right (k + 1) (omega (arith, counted))); unused = λ k h l. zero_to _ _ _ (unused_is t k (omega (arith, counted)) h ∙ right k l); month_right = places.1 }
    where
      counted : (1 ≤ t.count) × (t.count ≤ 64)
      counted = count_to e

      places : (all_below (place_right t) 64 ≡ true) × (vouched_right (entry_month t (t.count - 1)) t.vouched ≡ true)
      places = both _ _ (and_r (leb t.count 64) _ (and_r (leb 1 t.count) _ e))

      right : (k : ℕ) → k < 64 → place_right t k ≡ true
      right = below (place_right t) 64 places.0

  pub accepted_from : Accepted t → accepted t ≡ true
  unfolding accepted place_right
  accepted_from a = join (le-leb _ _ a.some_entry) (join (le-leb _ _ a.few) (join (all_below_lem (place_right t) 64 right) a.month_right))
    where
      right : (k : ℕ) → k < 64 → place_right t k ≡ true
      right zero l = zero_from a.first
      right (suc k) l =
          by_order (suc k) t.count (λ h. subst (λ (j : ℕ). place_right t j ≡ true) (add-one k) (let m : k + 1 < t.count = omega arith in sym (later_step t k m) ∙ later_from (a.later k m)))
          (λ h. sym (unused_is t (suc k) (omega arith) h) ∙ zero_from (a.unused (suc k) h l))
