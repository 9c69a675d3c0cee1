-- The flag is the test of the places passed.
use mathlib.Core.Path.{◌∙◌}
use native.Mathlib.Omega.{arith}
use borrow.Author.Rules.{rules}
use lib.IntN.{pos}
use lib.ListN.{get_or}
use mir.Syntax.{w32}
use mir.Val.{SFits}
use mir.Facts.{to_z-of_z}
use Rattle.leap.proofs.Places.{unused_is, one_more}
use Rattle.leap.proofs.Table.all_right.Goals as goal

pub loop-k-preserved : goal.loop-k-preserved
loop-k-preserved c =
    let t = c.args.self.now in
    let k = c.loop-k.k in
    let fit : SFits w32 (get_or t.offsets k (pos 0)) = search rules in
    (omega arith, one_more t k c.loop-k.invariant.1 (rw to_z-of_z at c.unused_right-ok.ensures ∙ unused_is t k (omega arith) c.loop-k.auto.k))
