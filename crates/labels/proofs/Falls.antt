-- Where a second falls: the month that it is in, and how far into it.
-- Assumes nothing.
use mathlib.Core.Path.{◌≡◌, refl, subst}
use mathlib.Core.Bool.{Bool, true, false, cond}
use Prim.Native.Nat.{ℕ, zero, suc, ◌+◌, ◌-◌, ◌*◌, ◌/◌, ◌≤◌, ◌<◌}
use native.Mathlib.Numerals.{add-one}
use native.Mathlib.Omega.{arith}
use native.Mathlib.Decide.{le_ind}
use lib.IntN.{ℤ, pos, ◌-ℤ◌}
use lib.Signed.{le_z}
use Rattle.laws.proofs.Cases.{by_order}
use Rattle.laws.proofs.Difference.{up, down, sum_is, diff_is, le_z_true, le_z_false}
use Rattle.laws.proofs.Machine.{one_side, nat_abs_is}
use Rattle.months.specs.Months.{days_before}
use Rattle.calendar.specs.Days.{month_of_day}
use Rattle.months.proofs.Laws.{days_next, length_least}
use Rattle.calendar.proofs.Days.{in_month}
use Rattle.labels.specs.Labels.{Offsets}
use Rattle.labels.specs.Seconds.{first_month, end_month}
use Rattle.labels.specs.Back.{begins, month_at, since}
use Rattle.laws.proofs.Offsets.{Steps}

-- second s is not before month m, or before it
abbrev pub Begun : Offsets → ℕ → ℕ → Type 0
Begun o m s = 86400 * days_before m + up (o m) ≤ s + down (o m)

abbrev pub Before : Offsets → ℕ → ℕ → Type 0
Before o m s = s + down (o m) < 86400 * days_before m + up (o m)

-- second s is in month m
pub record In (o : Offsets) (m s : ℕ) : Type 0 where
  pub begun : Begun o m s
  pub ends : Before o (m + 1) s

-- second s is in the years that have labels
pub record Covered (o : Offsets) (s : ℕ) : Type 0 where
  pub begun : Begun o first_month s
  pub ends : Before o end_month s

-- the code's guess: the month of the day 128 seconds before
abbrev pub guess : ℕ → ℕ
guess s = month_of_day ((s - 128) / 86400)

module _ (o : Offsets) (m s : ℕ) where
  pub begun_to : le_z (begins o m) (pos s) ≡ true → Begun o m s
  begun_to e = omega (arith, le_z_true (begins o m) (pos s) e, sum_is (pos (86400 * days_before m)) (o m))

  pub before_to : le_z (begins o m) (pos s) ≡ false → Before o m s
  before_to e = omega (arith, le_z_false (begins o m) (pos s) e, sum_is (pos (86400 * days_before m)) (o m))

  pub since_is : Begun o m s → since (days_before m) (o m) s + (86400 * days_before m + up (o m)) ≡ s + down (o m)
  unfolding since
  since_is h =
      let z : ℤ = pos s -ℤ begins o m in
      omega (arith, nat_abs_is z, one_side z, diff_is (pos s) (begins o m), sum_is (pos (86400 * days_before m)) (o m))

module _ (o : Offsets) (st : Steps o) (s : ℕ) where
  before_next : (m : ℕ) → Before o m s → Before o (m + 1) s
  before_next m h = omega (arith, days_next m, length_least m, st.by_one m)

  pub before_later : (m n : ℕ) → m ≤ n → Before o m s → Before o n s
  before_later m n h b =
      le_ind (λ (k : ℕ). Before o k s) b (λ k g ih. subst (λ (j : ℕ). Before o j s) (add-one k) (before_next k ih)) n h

  -- a second is in one month, and that is the definition's
  pub month_at_lem : (m : ℕ) → In o m s → (n : ℕ) → m ≤ n → month_at o s n ≡ m
  unfolding month_at
  month_at_lem m i zero h = omega arith
  month_at_lem m i (suc n) h = go (le_z (begins o (suc n)) (pos s)) refl (λ q. month_at_lem m i n q)
    where
      go : (b : Bool) → le_z (begins o (suc n)) (pos s) ≡ b → (m ≤ n → month_at o s n ≡ m) → cond b (suc n) (month_at o s n) ≡ m
      go true e ih =
          by_order m (suc n)
          (λ q. absurd (omega (arith, begun_to o (suc n) s e, before_later (m + 1) (suc n) (omega arith) i.ends)))
          (λ q. omega arith)
      go false e ih =
          by_order m (suc n)
          (λ q. ih (omega arith))
          (λ q.
          let same : m ≡ suc n = omega arith in
          absurd (omega (arith, before_to o (suc n) s e, subst (λ (k : ℕ). Begun o k s) same i.begun)))

  pub guess_begun : 128 ≤ s → Begun o (guess s) s
  guess_begun h = omega (arith, in_month ((s - 128) / 86400), st.low (guess s))

  pub guess_before : 128 ≤ s → Before o (guess s + 1 + 1) s
  guess_before h = omega (arith, in_month ((s - 128) / 86400), st.low (guess s + 1 + 1), days_next (guess s + 1), length_least (guess s + 1))
