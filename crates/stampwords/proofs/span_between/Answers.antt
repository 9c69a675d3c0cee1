-- Both are read, and lie near 2000.
use borrow.Author.Rules.{rules}
use mathlib.Core.Path.{◌≡◌, refl, sym, ap, ap₂, ◌∙◌}
use mathlib.Core.Bool.{◌||◌}
use lib.IntN.{◌-ℤ◌}
use Rattle.stampwords.specs.Stamps.{stamp_read}
use Rattle.stampwords.specs.Spans.{steps_in_order}
use mir.Syntax.{w64}
use mir.Val.{SFits}
use mir.Facts.{to_z-of_z}
use Rattle.std.specs.Prelude.{Ok}
use Rattle.stampwords.proofs.Stamps.{stamp_near, stamp_month}
use Rattle.stampwords.proofs.Spans.{span_is, span_of_two}
use Rattle.stampwords.proofs.span_between.Goals as goal
use Rattle.stampwords.proofs.span_between.Goals.{After-read_stamp-second, In-Ok, In-Ok-end}

-- the stamps that were read
first : (c : In-Ok) → let a = c.args in (stamp_read a.t.now a.a.now).answer ≡ Ok (c.in-Ok.x, c.in-Ok.z)
first c = sym (ap (λ r. r.answer) c.read_stamp-first.ensures) ∙ c.in-Ok.is

second : (c : In-Ok-end) → let a = c.args in (stamp_read a.t.now a.b.now).answer ≡ Ok (c.in-Ok-end.y, c.in-Ok-end.w)
second c = sym (ap (λ r. r.answer) c.read_stamp-second.ensures) ∙ c.in-Ok-end.is

marks : (c : After-read_stamp-second) → let a = c.args in (c.read_stamp-first.result.beyond || c.read_stamp-second.result.beyond) ≡ ((stamp_read a.t.now a.a.now).beyond || (stamp_read a.t.now a.b.now).beyond)
marks c = ap₂ (λ x y. x.beyond || y.beyond) c.read_stamp-first.ensures c.read_stamp-second.ensures

pub elapsed-micros-requires : goal.elapsed-micros-requires
elapsed-micros-requires c =
    let f : SFits w64 c.in-Ok.x = search rules in
    let g : SFits w64 c.in-Ok-end.y = search rules in
    rw (to_z-of_z f, to_z-of_z g)
    (stamp_near _ _ (first (goal.at.elapsed-micros-requires c).In-Ok), stamp_near _ _ (second (goal.at.elapsed-micros-requires c).In-Ok-end))

pub steps_in_order-steps-requires : goal.steps_in_order-steps-requires
steps_in_order-steps-requires c =
    (stamp_month _ _ (first (goal.at.steps_in_order-steps-requires c).In-Ok), stamp_month _ _ (second (goal.at.steps_in_order-steps-requires c).In-Ok-end))

pub returns-in-Err : goal.returns-in-Err
returns-in-Err c =
    let s = c.args in
    span_is s.t.now s.a.now s.b.now (marks (goal.at.returns-in-Err c).After-read_stamp-second) (sym (ap (λ r. r.answer) c.read_stamp-first.ensures) ∙ c.in-Err.is) refl

pub returns-in-Err-end : goal.returns-in-Err-end
returns-in-Err-end c =
    let s = c.args in
    span_is s.t.now s.a.now s.b.now (marks (goal.at.returns-in-Err-end c).After-read_stamp-second) (first (goal.at.returns-in-Err-end c).In-Ok) (sym (ap (λ r. r.answer) c.read_stamp-second.ensures) ∙ c.in-Err-end.is)

pub returns-in-Ok-end : goal.returns-in-Ok-end
returns-in-Ok-end c =
    let s = c.args in
    let f : SFits w64 c.in-Ok.x = search rules in
    let g : SFits w64 c.in-Ok-end.y = search rules in
    let x = to_z-of_z f in
    let y = to_z-of_z g in
    span_of_two s.t.now s.a.now s.b.now (marks (goal.at.returns-in-Ok-end c).After-read_stamp-second) (first (goal.at.returns-in-Ok-end c).In-Ok) (second (goal.at.returns-in-Ok-end c).In-Ok-end)
    (to_z-of_z {w = w64} (record { sfits = c.elapsed-micros.type_inv }) ∙ c.elapsed-micros.ensures ∙ ap₂ ◌-ℤ◌ y x)
    (c.steps_in_order-steps.ensures ∙ ap₂ (λ p q. steps_in_order s.t.now p c.in-Ok.z q c.in-Ok-end.w) x y)
