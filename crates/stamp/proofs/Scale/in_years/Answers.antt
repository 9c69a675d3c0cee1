-- `stamp::Scale::in_years` meets its contract: the code's ends are the first label's and the last's.
use mathlib.Core.Path.{◌≡◌, sym, ap₂, ◌∙◌}
use Prim.Native.Nat.{ℕ, ◌<◌, ◌^◌}
use native.Mathlib.Omega.{arith}
use borrow.Author.Rules.{sfits_of}
use mathlib.Core.Bool.{Bool}
use lib.IntN.{ℤ, pos}
use lib.Signed.{le_z}
use mir.Syntax.{w32, w64}
use mir.Val.{SFits, to_z, of_z}
use mir.Facts.{to_z-of_z, to_z_pos}
use Rattle.laws.proofs.Branches.{and_no, and_rest}
use Rattle.leap.proofs.Facts.{accepted_to}
use Rattle.labels.specs.Labels.{Offsets}
use Rattle.labels.specs.Seconds.{axis_at, axis_of, first_reading, last_reading, in_years}
use Rattle.labels.proofs.Years.{first_micro, last_micro}
use Rattle.stamp.specs.Scales.{offsets_of}
use Rattle.stamp.proofs.Scales.{first_offset_lem}
use Rattle.stamp.proofs.Scale.in_years.Goals as goal
use Rattle.stamp.proofs.Scale.in_years.Goals.{After-axis_at-last}

-- the two ends, which reach their callee by their bits
ends : {o e : ℤ} {r : ℤ} {u m : ℕ} → SFits w64 r → SFits w32 o → r ≡ axis_at u (to_z w32 (of_z w32 o)) → m ≡ u → o ≡ e → to_z w64 (of_z w64 r) ≡ axis_at m e
ends f g h p q = to_z-of_z f ∙ h ∙ ap₂ axis_at (sym p) (to_z-of_z g ∙ q)

module _ (c : goal.After-axis_at-last) where
  abbrev o : Offsets
  o = offsets_of c.args.t.now c.args.self

  first_is : to_z w64 (of_z w64 c.axis_at-first.result) ≡ axis_of o first_reading
  first_is = ends (sfits_of c.axis_at-first.type_inv) (sfits_of c.first_offset.type_inv) c.axis_at-first.ensures first_micro (c.first_offset.ensures ∙ first_offset_lem _ (accepted_to _ c.requires.0) c.args.self)

  last_is : to_z w64 (of_z w64 c.axis_at-last.result) ≡ axis_of o last_reading
  last_is = ends (sfits_of c.axis_at-last.type_inv) (sfits_of c.last_offset.type_inv) c.axis_at-last.ensures last_micro c.last_offset.ensures

  axis_is : to_z w64 c.args.axis ≡ pos c.args.axis
  axis_is = let h : c.args.axis < 2 ^ 63 = omega arith in to_z_pos w64 h

  -- the code's test, of the integers themselves
  tested : {b : Bool} → le_z (to_z w64 (of_z w64 c.axis_at-first.result)) (to_z w64 c.args.axis) ≡ b → le_z (axis_of o first_reading) (pos c.args.axis) ≡ b
  tested e = ap₂ le_z (sym first_is) (sym axis_is) ∙ e

pub returns-then-first-a : goal.returns-then-first-a
unfolding in_years
returns-then-first-a c =
    let p = (goal.at.returns-then-first-a c).After-axis_at-last in
    and_rest (tested p c.if-first-a.true) (ap₂ le_z (axis_is p) (last_is p))

pub returns-else-first-a : goal.returns-else-first-a
unfolding in_years
returns-else-first-a c =
    let p = (goal.at.returns-else-first-a c).After-axis_at-last in
    c.if-first-a.false ∙ and_no (le_z (pos c.args.axis) (axis_of (o p) last_reading)) (tested p c.if-first-a.false)
