-- The two offsets on one clock, as wide numbers.
use mathlib.Core.Path.{◌≡◌, refl, sym, ap, ap₂, ◌∙◌}
use mathlib.Core.Bool.{Bool, true, false, not}
use denote.Enum.Bare.{sameb}
use lib.Dec.{eqb}
use lib.IntN.{◌-ℤ◌}
use mir.Syntax.{w32, w64}
use mir.Val.{SFits}
use mir.Facts.{to_z-of_z, sfits_widen}
use Rattle.std.specs.Prelude.{Some}
use Rattle.stamp.specs.declared.Scale.{Scale}
use Rattle.stamp.specs.declared.Scale.TheVariants.{Utc, Tai, Tdt, Gps}
use Rattle.stamp.specs.contracts.Scale.{the_type}
use Rattle.stamp.specs.Scales.{scale_number}
use Rattle.laws.proofs.Machine.{widened}
use Rattle.stampwords.proofs.Stamps.{apart_fits}
use Rattle.stampwords.proofs.steps_between.Goals as goal
use Rattle.stampwords.proofs.steps_between.Goals.{After-offset_on-after, After-offset_on-before}

-- the test of two scales is that of their numbers
is_same : (a b : Scale) → sameb the_type a b ≡ eqb (scale_number a) (scale_number b)
is_same Utc Utc = refl
is_same Utc Tai = refl
is_same Utc Tdt = refl
is_same Utc Gps = refl
is_same Tai Utc = refl
is_same Tai Tai = refl
is_same Tai Tdt = refl
is_same Tai Gps = refl
is_same Tdt Utc = refl
is_same Tdt Tai = refl
is_same Tdt Tdt = refl
is_same Tdt Gps = refl
is_same Gps Utc = refl
is_same Gps Tai = refl
is_same Gps Tdt = refl
is_same Gps Gps = refl

turned : (b : Bool) {v : Bool} → not b ≡ v → b ≡ not v
turned true e = ap not e
turned false e = ap not e

same_number : (a b : Scale) → not (sameb the_type a b) ≡ true → eqb (scale_number a) (scale_number b) ≡ false
same_number a b e = sym (is_same a b) ∙ turned _ e

same_scale : (a b : Scale) → not (sameb the_type a b) ≡ false → eqb (scale_number a) (scale_number b) ≡ true
same_scale a b e = sym (is_same a b) ∙ turned _ e

first : (c : goal.After-offset_on-before) → SFits w32 c.offset_on-before.result
first c = record { sfits = c.offset_on-before.type_inv }

second : (c : goal.After-offset_on-after) → SFits w32 c.offset_on-after.result
second c = record { sfits = c.offset_on-after.type_inv }

pub returns-then-ne : goal.returns-then-ne
returns-then-ne c =
    let other : eqb (scale_number c.args.z.scale) (scale_number c.args.w.scale) ≡ false = same_number _ _ (sym c.ne.ensures ∙ c.if-ne.true) in
    rw other

pub overflow_cast-before : goal.overflow_cast-before
overflow_cast-before c = rw (to_z-of_z (first (goal.at.overflow_cast-before c).After-offset_on-before)) (sfits_widen tt (first (goal.at.overflow_cast-before c).After-offset_on-before))

pub overflow_cast-after : goal.overflow_cast-after
overflow_cast-after c = rw (to_z-of_z (second (goal.at.overflow_cast-after c).After-offset_on-after)) (sfits_widen tt (second (goal.at.overflow_cast-after c).After-offset_on-after))

pub overflow_sub-result : goal.overflow_sub-result
overflow_sub-result c = rw (widened w64 tt (second (goal.at.overflow_sub-result c).After-offset_on-after), widened w64 tt (first (goal.at.overflow_sub-result c).After-offset_on-before)) (apart_fits (first (goal.at.overflow_sub-result c).After-offset_on-before) (second (goal.at.overflow_sub-result c).After-offset_on-after))

pub returns : goal.returns
returns c =
    rw (widened w64 tt (second (goal.at.returns c).After-offset_on-after), widened w64 tt (first (goal.at.returns c).After-offset_on-before), to_z-of_z (apart_fits (first (goal.at.returns c).After-offset_on-before) (second (goal.at.returns c).After-offset_on-after)), same_scale _ _ (sym c.ne.ensures ∙ c.if-ne.false))
    (ap₂ (λ x y. Some (y -ℤ x)) c.offset_on-before.ensures c.offset_on-after.ensures)
