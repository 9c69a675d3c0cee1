-- The axis in naturals, and the years that have labels: seconds that they cover, and microseconds between their ends.
-- Assumes nothing.
use mathlib.Core.Path.{◌≡◌, refl, ap}
use mathlib.Core.Bool.{true}
use Prim.Native.Nat.{ℕ, ◌+◌, ◌*◌, ◌/◌, ◌≤◌}
use native.Mathlib.Omega.{arith}
use lib.IntN.{ℤ, pos, ◌*ℤ◌}
use lib.Signed.{le_z}
use Rattle.laws.proofs.Cases.{and_l, and_r, join}
use Rattle.laws.proofs.Difference.{up, down, sum_is, eq_from, le_z_true, le_le_z}
use Rattle.laws.proofs.Machine.{times_is}
use Rattle.laws.proofs.Offsets.{Steps}
use Rattle.months.specs.Months.{leap_year, month_length, days_before}
use Rattle.months.proofs.Laws.{days_split, days_next, days_1972}
use Rattle.labels.specs.declared.Reading.{Reading}
use Rattle.labels.specs.Labels.{Offsets, month_of}
use Rattle.labels.specs.Seconds.{second_of, micro_of, axis_at, axis_of, first_month, last_month, end_month, first_reading, last_reading, in_years}
use Rattle.labels.proofs.Falls.{Covered}
use Rattle.labels.proofs.Order.{Stands}

pub axis_is : (u : ℕ) (o : ℤ) → up (axis_at u o) + 1000000 * down o ≡ u + 1000000 * up o + down (axis_at u o)
unfolding axis_at
axis_is u o = omega (arith, times_is 1000000 o, sum_is (pos u) (pos 1000000 *ℤ o))

-- the axis of a reading whose label stands for second s
pub axis_second : (o : Offsets) (r : Reading) (s : ℕ) → Stands o r.label s → axis_of o r ≡ pos (1000000 * s + r.micro)
axis_second o r s h = eq_from (axis_of o r) (pos (1000000 * s + r.micro)) (omega (arith, axis_is (micro_of r) (o (month_of r.label))))

-- ---- the ends

days_4799 : days_before 4799 ≡ 146066
unfolding days_before month_length leap_year
days_4799 = refl

length_4799 : month_length last_month ≡ 31
unfolding month_length leap_year
length_4799 = refl

pub days_last : days_before last_month ≡ 3652394
days_last = omega (arith, days_split last_month, days_4799)

pub days_end : days_before end_month ≡ 3652425
days_end = omega (arith, days_next last_month, days_last, length_4799)

pub first_second : second_of first_reading.label ≡ 62230291200
unfolding second_of
first_second = omega (arith, days_1972)

pub last_second : second_of last_reading.label ≡ 315569519999
unfolding second_of
last_second = omega (arith, days_last)

pub first_micro : micro_of first_reading ≡ 62230291200000000
first_micro = omega (arith, first_second)

pub last_micro : micro_of last_reading ≡ 315569519999999999
last_micro = omega (arith, last_second)

-- ---- between them

module _ (o : Offsets) (st : Steps o) (a : ℤ) where
  -- the axis' microsecond a, as the ends bound it
  abbrev pub Between : Type 0
  Between =
      (62230291200000000 + 1000000 * up (o first_month) + down a ≤ up a + 1000000 * down (o first_month))
      × (up a + 1000000 * down (o last_month) ≤ 315569519999999999 + 1000000 * up (o last_month) + down a)

  pub years_to : in_years o a ≡ true → Between
  unfolding in_years
  years_to e =
      let p = le_z_true (axis_of o first_reading) a (and_l _ (le_z a (axis_of o last_reading)) e) in
      let q = le_z_true a (axis_of o last_reading) (and_r (le_z (axis_of o first_reading) a) _ e) in
      omega (arith, first_second, last_second, axis_is (micro_of first_reading) (o first_month), axis_is (micro_of last_reading) (o last_month))

  pub years_from : Between → in_years o a ≡ true
  unfolding in_years
  years_from b =
      join
      (le_le_z (axis_of o first_reading) a (omega (arith, first_second, axis_is (micro_of first_reading) (o first_month))))
      (le_le_z a (axis_of o last_reading) (omega (arith, last_second, axis_is (micro_of last_reading) (o last_month))))

module _ (o : Offsets) (st : Steps o) (c : ℕ) where
  pub covered_to : in_years o (pos c) ≡ true → Covered o (c / 1000000)
  covered_to e =
      let b = years_to o st (pos c) e in
      record {
        begun = omega (arith, days_1972);
        ends = omega (arith, days_end, ap up st.at_rest, ap down st.at_rest);
      }

  pub covered_from : Covered o (c / 1000000) → in_years o (pos c) ≡ true
  covered_from v =
      years_from o st (pos c) (omega (arith, v.begun, v.ends, days_1972, days_end, ap up st.at_rest, ap down st.at_rest))
