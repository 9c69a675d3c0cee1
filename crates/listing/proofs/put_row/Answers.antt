-- The label has its instant, and the four texts are its line.
use mathlib.Core.Path.{◌≡◌, refl, sym, ap, ◌∙◌}
use borrow.Author.Rules.{rules}
use lib.IntN.{pos}
use lib.ListN.{replicate}
use lib.Signed.{quot_z}
use mir.Syntax.{w64}
use mir.Val.{SFits, to_z, of_z}
use mir.Facts.{to_z-of_z}
use Rattle.std.specs.Prelude.{Ok}
use Rattle.listing.proofs.Row.{not_refused, tai_is, picture_is, row_placed}
use Rattle.listing.proofs.put_row.Goals as goal

pub returns-in_default : goal.returns-in_default
returns-in_default c =
    absurd (not_refused c.args.t.now c.args.l c.requires.0 c.requires.1 (sym (ap (λ v. v.answer) c.instant_of.ensures) ∙ c.in_default.is))

pub returns : goal.returns
returns c =
    let a = c.args in
    let e = sym (ap (λ v. v.answer) c.instant_of.ensures) ∙ c.in-Ok.is in
    let f : SFits w64 c.in-Ok.instant = search rules in
    let lent : to_z w64 (of_z w64 c.in-Ok.instant) ≡ c.in-Ok.instant = to_z-of_z {w = w64} f in
    let shown = to_z-of_z {w = w64} (record { sfits = c.seconds.type_inv }) ∙ c.seconds.ensures ∙ ap (λ x. quot_z x (pos 1000000)) lent in
    row_placed a.t.now a.l a.out.now a.at c.requires.2
    (c.write_text.ensures.1 ∙ picture_is a.t.now a.l c.requires.0 c.requires.1 (e ∙ ap Ok (sym lent)) (replicate 19 0) refl)
    (shown ∙ tai_is a.t.now a.l c.requires.0 c.requires.1 e)
    c.append-b.ensures c.append-c.ensures c.append_signed-d.ensures c.append.ensures
