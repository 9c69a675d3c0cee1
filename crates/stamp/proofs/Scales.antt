-- A scale's two sides: offsets that move by at most one, and a map that each way undoes.
-- Assumes nothing.
use mathlib.Core.Path.{◌≡◌, refl, sym, ap, ◌∙◌}
use Prim.Native.Nat.{ℕ, ◌+◌, ◌*◌, ◌≤◌}
use native.Mathlib.Omega.{arith}
use lib.IntN.{ℤ, pos, ◌-ℤ◌}
use borrow.Author.Tests.{eqb-true}
use lib.Dec.{eqb}
use Rattle.laws.proofs.Cases.{pick}
use Rattle.laws.proofs.Difference.{up, down, diff_is, eq_from, le_to, le_from}
use Rattle.laws.proofs.Machine.{Within}
use Rattle.laws.proofs.Offsets.{Steps, uniform_steps}
use Rattle.laws.proofs.Order.{NeverFalls, Injective}
use Rattle.leap.specs.declared.Table.{Table}
use Rattle.leap.proofs.Facts.{Accepted}
use Rattle.leap.proofs.Moves.{at_first, steps_by_months}
use Rattle.labels.specs.declared.Label.{Label}
use Rattle.labels.specs.Labels.{uniform}
use Rattle.labels.specs.Seconds.{axis_at, first_month}
use Rattle.labels.proofs.Years.{axis_is}
use Rattle.labels.proofs.Exists.{Exists, second_few, second_uniform}
use Rattle.stamp.specs.declared.Scale.{Scale}
use Rattle.stamp.specs.declared.Scale.TheVariants.{Utc, Tai, Tdt, Gps}
use Rattle.stamp.specs.Scales.{scale_of, fixed, offsets_of, most_second, to_instant, to_axis}
use Rattle.stamp.specs.Parts.{first_offset}
pub use Rattle.stamp.proofs.Axis.{to_axis_is}

-- ---- the calendar rule

pub steps : (t : Table) → Accepted t → (s : Scale) → Steps (offsets_of t s)
steps t acc Utc = steps_by_months t acc
steps t acc Tai = uniform_steps
steps t acc Tdt = uniform_steps
steps t acc Gps = uniform_steps

pub first_offset_lem : (t : Table) → Accepted t → (s : Scale) → first_offset s ≡ offsets_of t s first_month
first_offset_lem t acc Utc = sym (at_first t acc)
first_offset_lem t acc Tai = refl
first_offset_lem t acc Tdt = refl
first_offset_lem t acc Gps = refl

-- the scales 1 to 3 have no offsets
pub offsets_uniform : (t : Table) (k : ℕ) → 1 ≤ k → offsets_of t (scale_of k) ≡ uniform
offsets_uniform t k h =
    pick (λ (s : Scale). offsets_of t s ≡ uniform) (eqb k 0) (λ e. absurd (omega (arith, eqb-true k 0 e)))
    (λ e. pick (λ (s : Scale). offsets_of t s ≡ uniform) (eqb k 1) (λ e. refl)
    (λ e. pick (λ (s : Scale). offsets_of t s ≡ uniform) (eqb k 2) (λ e. refl) (λ e. refl)))

pub most_sixty : (s : Scale) → (59 ≤ most_second s) × (most_second s ≤ 60)
most_sixty Utc = omega arith
most_sixty Tai = omega arith
most_sixty Tdt = omega arith
most_sixty Gps = omega arith

-- no label that exists has a higher second
pub most_of : (t : Table) → Accepted t → (s : Scale) (l : Label) → Exists (offsets_of t s) l → l.second ≤ most_second s
most_of t acc Utc l e = second_few (offsets_of t Utc) (steps t acc Utc) l e
most_of t acc Tai l e = second_uniform l e
most_of t acc Tdt l e = second_uniform l e
most_of t acc Gps l e = second_uniform l e

-- ---- the map

pub fixed_small : (s : Scale) → Within 100000000 100000000 (fixed s)
fixed_small Utc = omega arith
fixed_small Tai = omega arith
fixed_small Tdt = omega arith
fixed_small Gps = omega arith

-- in naturals
pub to_instant_is : (s : Scale) (a : ℤ) → up (to_instant s a) + (down a + up (fixed s) + 63113947200000000) ≡ up a + down (fixed s) + down (to_instant s a)
unfolding to_instant
to_instant_is s a =
    let b : ℤ = a -ℤ pos 63113947200000000 in
    omega (arith, diff_is a (pos 63113947200000000), diff_is b (fixed s))

-- the instant at which the scale shows a microsecond where its offset is o
pub instant_is : (s : Scale) (u : ℕ) (o : ℤ) → up (to_instant s (axis_at u o)) + (1000000 * down o + up (fixed s) + 63113947200000000) ≡ u + 1000000 * up o + down (fixed s) + down (to_instant s (axis_at u o))
instant_is s u o = omega (arith, to_instant_is s (axis_at u o), axis_is u o)

pub axis_back : (s : Scale) (a : ℤ) → to_axis s (to_instant s a) ≡ a
axis_back s a = eq_from (to_axis s (to_instant s a)) a (omega (arith, to_axis_is s (to_instant s a), to_instant_is s a))

pub instant_back : (s : Scale) (x : ℤ) → to_instant s (to_axis s x) ≡ x
instant_back s x = eq_from (to_instant s (to_axis s x)) x (omega (arith, to_instant_is s (to_axis s x), to_axis_is s x))

-- and the way to the axis never falls
pub axis_rises : (s : Scale) → NeverFalls (to_axis s)
axis_rises s x y h = le_from (to_axis s x) (to_axis s y) (omega (arith, to_axis_is s x, to_axis_is s y, le_to h))

pub axis_one_to_one : (s : Scale) → Injective (to_axis s)
axis_one_to_one s x y e = sym (instant_back s x) ∙ ap (to_instant s) e ∙ instant_back s y
