-- The flag is the test of the places passed.
use mathlib.Core.Path.{◌∙◌}
use Prim.Native.Nat.{◌-◌}
use native.Mathlib.Omega.{arith}
use borrow.Author.Rules.{rules}
use lib.IntN.{pos}
use lib.ListN.{get_or}
use mir.Syntax.{w32}
use mir.Val.{SFits}
use mir.Facts.{to_z-of_z}
use Rattle.laws.specs.Tests.{all_below}
use Rattle.leap.specs.Leap.{place_right}
use Rattle.leap.proofs.Places.{later_is, one_more}
use Rattle.leap.proofs.Table.used_right.Goals as goal

pub loop-k-init : goal.loop-k-init
unfolding all_below place_right
loop-k-init c =
    let fit : SFits w32 (get_or c.args.self.now.offsets 0 (pos 0)) = search rules in
    (omega arith, rw to_z-of_z at c.first_right-ok.ensures)

pub loop-k-preserved : goal.loop-k-preserved
loop-k-preserved c =
    let t = c.args.self.now in
    let k = c.loop-k.k in
    let here : SFits w32 (get_or t.offsets (k - 1) (pos 0)) = search rules in
    let next : SFits w32 (get_or t.offsets k (pos 0)) = search rules in
    (omega arith, one_more t k c.loop-k.invariant.1 (simp to_z-of_z at c.later_right-later.ensures ∙ later_is t k c.loop-k.auto.k c.loop-k-test.true))
