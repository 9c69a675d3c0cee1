-- TAI-UTC under an accepted table: it moves by at most one from a month to the next, rests from December 9999 on, and is small.
-- Assumes nothing.
use mathlib.Core.Path.{◌≡◌, sym, ap, ◌∙◌}
use mathlib.Core.Logic.{⊎_elim}
use Prim.Native.Nat.{ℕ, zero, suc, ◌+◌, ◌-◌, ◌≤◌, ◌<◌}
use native.Mathlib.Numerals.{add-one}
use native.Mathlib.Omega.{arith}
use lib.IntN.{pos}
use Rattle.laws.proofs.Difference.{up, down, eq_to, suc_is}
use Rattle.laws.proofs.Machine.{one_side}
use Rattle.laws.proofs.Offsets.{Beside, Steps}
use Rattle.leap.specs.declared.Table.{Table}
use Rattle.leap.specs.Leap.{last_entry_month, entry_offset, epoch, last_begun, top, offset_in, offset_at}
use Rattle.leap.proofs.Facts.{Accepted}
use Rattle.leap.proofs.Begun.{begun_le}
use Rattle.leap.proofs.Steps.{top_is, offset_is, at_entry, entry_or_rest}

module _ (t : Table) (acc : Accepted t) where
  -- ---- from a month to the next

  steps : (k : ℕ) → k + 1 < t.count → Beside (entry_offset t k) (entry_offset t (k + 1))
  steps k h =
      ⊎_elim (λ q. omega (arith, eq_to q, suc_is (entry_offset t k))) (λ q. omega (arith, eq_to q, suc_is (entry_offset t (k + 1)))) (acc.later k h).step

  pub near : (m : ℕ) → Beside (offset_at t m) (offset_at t (m + 1))
  near m =
      ⊎_elim
      (λ w. let o = at_entry t acc m w.0 w.1 in rw (o.0, o.1) (steps w.0 w.1.0))
      (λ e. rw e (omega arith))
      (entry_or_rest t acc m)

  pub kept : (m : ℕ) → epoch + last_entry_month ≤ m → offset_at t m ≡ entry_offset t (t.count - 1)
  kept m h =
      offset_is t acc m (t.count - 1)
      (record {
        inside = omega (arith, top_is t acc);
        has_begun = λ g. let e : t.count - 1 - 1 + 1 ≡ t.count - 1 = omega arith in let l = rw e at (acc.later (t.count - 1 - 1) (omega arith)).early in omega arith;
        not_yet = λ g. absurd (omega (arith, top_is t acc));
      })

  ten : entry_offset t 0 ≡ pos 10
  ten = ap (λ e. e.1) acc.first

  -- in January 1972 no entry but the first has begun
  pub at_first : offset_at t epoch ≡ pos 10
  at_first =
      offset_is t acc epoch 0 (record { inside = omega arith; has_begun = λ h. absurd (omega arith); not_yet = λ h. omega (arith, (acc.later 0 (omega (arith, top_is t acc))).rises) })
      ∙ ten

  -- ---- how far it gets

  pub entry_small : (k : ℕ) → k < t.count → (up (entry_offset t k) ≤ 10 + k) × (down (entry_offset t k) ≤ k)
  entry_small zero h = omega (arith, eq_to ten, one_side (entry_offset t 0))
  entry_small (suc k) h =
      let ih = entry_small k (omega arith) in
      let n = rw (add-one k) at (steps k (omega arith)) in
      omega (arith, one_side (entry_offset t (suc k)))

  pub small : (m : ℕ) → (up (offset_at t m) ≤ 73) × (down (offset_at t m) ≤ 63)
  unfolding offset_in
  small m =
      let k : ℕ = last_begun t.months m (top t.count) in
      let b = begun_le t.months m (top t.count) in
      omega (arith, entry_small k (omega (arith, top_is t acc)), top_is t acc, acc.few)

  pub steps_by_months : Steps (offset_at t)
  steps_by_months =
      record { by_one = near; at_rest = kept (epoch + last_entry_month + 1) (omega arith) ∙ sym (kept (epoch + last_entry_month) (omega arith)); low = small }
