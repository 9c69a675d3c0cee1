-- The offset of the last entry that has begun.
use mathlib.Core.Path.{ap, ◌∙◌}
use Prim.Native.Nat.{ℕ}
use borrow.Author.Rules.{rules}
use lib.IntN.{pos}
use lib.ListN.{get_or}
use mir.Syntax.{w32}
use mir.Val.{SFits}
use mir.Facts.{to_z-of_z}
use Rattle.leap.specs.Leap.{last_begun, offset_in}
use Rattle.leap.proofs.Table.offset_at.Goals as goal

pub returns : goal.returns
unfolding offset_in
returns c =
    let a = c.args in
    let fit : SFits w32 (get_or a.self.now.offsets c.last_begun-k.result (pos 0)) = search rules in
    rw to_z-of_z (ap (λ (k : ℕ). get_or a.self.now.offsets k (pos 0)) (c.last_begun-k.ensures.0 ∙ ap (last_begun a.self.now.months a.m) c.top.ensures.0))
