-- The month that a table is vouched for: its tests as the code has them, and what a table is with it and without it.
-- Assumes nothing.
use mathlib.Core.Path.{◌≡◌, refl, sym, ◌∙◌}
use mathlib.Core.Bool.{true, false, true≢false}
use Prim.Native.Nat.{ℕ, ◌+◌, ◌-◌, ◌≤◌, ◌<◌}
use native.Mathlib.Omega.{arith}
use borrow.Author.Tests.{ltb-true, leb-true, lt-ltb, le-leb, lt-leb}
use lib.Dec.{leb}
use Rattle.laws.proofs.Cases.{by_order, by_truth}
use Rattle.leap.specs.declared.Table.{Table}
use Rattle.leap.specs.Leap.{vouched_to, last_entry_month, entry_month, vouched_right, accepted, epoch, beyond}
use Rattle.leap.specs.Promise.{Vouched}
use Rattle.leap.proofs.Facts.{accepted_to, accepted_from}

-- ---- the tests as the code has them, which compares the number and not the month

pub none_right : (last : ℕ) {v : ℕ} → v < 1 → true ≡ vouched_right last v
unfolding vouched_right
none_right last {v} h = let e : v ≡ 0 = omega arith in rw e refl

pub early_wrong : (last : ℕ) {v : ℕ} → 1 ≤ v → v ≤ last → false ≡ vouched_right last v
unfolding vouched_right
early_wrong last {v} g h = rw (lt-ltb 0 v g, lt-leb last (v - 1) (omega arith)) refl

pub rest_right : (last : ℕ) {v : ℕ} → 1 ≤ v → last < v → leb v (last_entry_month + 1) ≡ vouched_right last v
unfolding vouched_right
rest_right last {v} g h =
    let late : leb v 96336 ≡ leb (v - 1) 96335 = by_truth _ _ (λ e. le-leb (v - 1) 96335 (omega (arith, leb-true v 96336 e))) (λ e. le-leb v 96336 (omega (arith, leb-true (v - 1) 96335 e))) in
    rw (lt-ltb 0 v g, le-leb last (v - 1) (omega arith)) late

pub none_beyond : {v : ℕ} (m : ℕ) → v < 1 → false ≡ beyond v m
unfolding beyond
none_beyond {v} m h = let e : v ≡ 0 = omega arith in rw e refl

pub beyond_is : {v : ℕ} (m : ℕ) → 1 ≤ v → leb (epoch + v) m ≡ beyond v m
unfolding beyond
beyond_is {v} m g =
    rw (lt-ltb 0 v g) (by_truth _ _ (λ e. lt-ltb (epoch + (v - 1)) m (omega (arith, leb-true (epoch + v) m e))) (λ e. le-leb (epoch + v) m (omega (arith, ltb-true (epoch + (v - 1)) m e))))

-- ---- what they say

-- no number past that of December 9999 is right
pub right_late : (last : ℕ) {v : ℕ} → vouched_right last v ≡ true → v ≤ last_entry_month + 1
right_late last {v} e =
    by_order v 1
    (λ h. omega arith)
    (λ h. by_order last v (λ l. leb-true v 96336 (rest_right last h l ∙ e)) (λ l. absurd (true≢false (sym e ∙ sym (early_wrong last h l)))))

given_right : (last month : ℕ) → vouched_right last (month + 1) ≡ true → (last ≤ month) × (month ≤ last_entry_month)
given_right last month e =
    by_order month last
    (λ h. absurd (true≢false (sym e ∙ sym (early_wrong last (omega arith) (omega arith)))))
    (λ h. (h, omega (arith, right_late last e)))

right_given : (last month : ℕ) → last ≤ month → month ≤ last_entry_month → vouched_right last (month + 1) ≡ true
right_given last month h l = sym (rest_right last (omega arith) (omega arith)) ∙ le-leb (month + 1) 96336 (omega arith)

-- the same entries with another month that is right
pub revouched : (t : Table) (v w : ℕ) → accepted (vouched_to v t) ≡ true → vouched_right (entry_month t (t.count - 1)) w ≡ true → accepted (vouched_to w t) ≡ true
revouched t v w e r =
    let a = accepted_to (vouched_to v t) e in
    accepted_from (vouched_to w t) (record { some_entry = a.some_entry; few = a.few; first = a.first; later = a.later; unused = a.unused; month_right = r })

-- a table that is accepted with its month is accepted without it
pub without_month_lem : (t : Table) (v : ℕ) → accepted (vouched_to v t) ≡ true → accepted (vouched_to 0 t) ≡ true
without_month_lem t v e = revouched t v 0 e (sym (none_right _ (omega arith)))

pub vouched : Vouched
vouched =
    record {
      accepted_exactly = λ t month. (
        λ e. (without_month_lem t (month + 1) e, given_right _ month (accepted_to (vouched_to (month + 1) t) e).month_right),
        λ h. revouched t 0 (month + 1) h.0 (right_given _ month h.1.0 h.1.1),
      );
      beyond_exactly = λ v m. (
        λ e. by_order v 1
            (λ h. absurd (true≢false (sym e ∙ sym (none_beyond m h))))
            (λ g. (v - 1, (omega arith, omega (arith, leb-true (epoch + v) m (beyond_is m g ∙ e))))),
        λ h. sym (beyond_is m (omega (arith, h.1.0))) ∙ le-leb (epoch + v) m (omega (arith, h.1.0, h.1.1)),
      );
      bulletin_c_lem = refl;
    }
