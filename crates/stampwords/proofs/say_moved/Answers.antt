-- The stamp is read, and its instant moved.
use borrow.Author.Rules.{rules}
use mathlib.Core.Path.{◌≡◌, sym, ap, ◌∙◌}
use mir.Syntax.{w64}
use mir.Val.{SFits}
use mir.Facts.{to_z-of_z}
use Rattle.std.specs.Prelude.{Ok}
use Rattle.seconds.specs.Seconds.{moved_by}
use Rattle.phrases.proofs.Replies.{says_as}
use Rattle.stampwords.specs.Stamps.{stamp_read}
use Rattle.stampwords.specs.Moves.{moved_answer, moved_reply}
use Rattle.stampwords.proofs.Stamps.{stamp_near}
use Rattle.stampwords.proofs.Moves.{moved_is}
use Rattle.stampwords.proofs.say_moved.Goals as goal
use Rattle.stampwords.proofs.say_moved.Goals.{In-Ok}

read : (c : In-Ok) → let a = c.args in (stamp_read a.t.now a.given.now).answer ≡ Ok (c.in-Ok.instant, c.in-Ok.field-0-1)
read c = sym (ap (λ v. v.answer) c.read_stamp-read.ensures) ∙ c.in-Ok.is

pub moved-requires : goal.moved-requires
moved-requires c =
    let f : SFits w64 c.in-Ok.instant = search rules in
    rw (to_z-of_z f) (stamp_near c.args.t.now c.args.given.now (read (goal.at.moved-requires c).In-Ok), c.requires)

pub returns-in-Ok : goal.returns-in-Ok
returns-in-Ok c =
    let a = c.args in
    let f : SFits w64 c.in-Ok.instant = search rules in
    let x = to_z-of_z f in
    let y = to_z-of_z {w = w64} (record { sfits = c.moved.type_inv }) ∙ c.moved.ensures ∙ ap (moved_by a.m) x in
    says_as (moved_is a.t.now a.line.now a.given.now a.m a.k a.places (read (goal.at.returns-in-Ok c).In-Ok) (ap (λ v. v.beyond) c.read_stamp-read.ensures) y) c.say_shown.ensures

pub returns-in-Err : goal.returns-in-Err
unfolding moved_reply
returns-in-Err c =
    let a = c.args in
    says_as (ap (λ v. moved_answer a.t.now a.line.now a.given.now a.m a.k a.places v (stamp_read a.t.now a.given.now).beyond) (sym c.in-Err.is ∙ ap (λ v. v.answer) c.read_stamp-read.ensures)) c.refuse.ensures
