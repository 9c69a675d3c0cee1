-- The entry of the month after is met first, and that of the month itself from there on down.
use mathlib.Core.Path.{◌≡◌, ap, ◌∙◌}
use Prim.Native.Nat.{ℕ, ◌+◌}
use borrow.Author.Rules.{rules}
use lib.IntN.{ℤ, pos}
use lib.ListN.{get_or}
use mir.Syntax.{w32}
use mir.Val.{SFits}
use mir.Facts.{to_z-of_z}
use Rattle.leap.specs.Leap.{last_begun, top, offset_in}
use Rattle.leap.proofs.Begun.{begun_within}
use Rattle.leap.proofs.Table.near.Goals as goal

pub returns : goal.returns
unfolding offset_in
returns c =
    let a = c.args in
    let begun = last_begun a.self.now.months in
    let after : c.last_begun-after.result ≡ begun (a.m + 1) (top a.self.now.count) = c.last_begun-after.ensures.0 ∙ ap (begun (a.m + 1)) c.top.ensures.0 in
    let at : c.last_begun-at.result ≡ begun a.m (top a.self.now.count) = c.last_begun-at.ensures.0 ∙ ap (begun a.m) after ∙ begun_within a.self.now.months a.m (top a.self.now.count) in
    let offset : ℕ → ℤ = λ (k : ℕ). get_or a.self.now.offsets k (pos 0) in
    let here-fits : SFits w32 (offset c.last_begun-at.result) = search rules in
    let next-fits : SFits w32 (offset c.last_begun-after.result) = search rules in
    let here = to_z-of_z {w = w32} here-fits ∙ ap offset at in
    let next = to_z-of_z {w = w32} next-fits ∙ ap offset after in
    λ i. record { here = here i; next = next i }
