use mathlib.Core.Path.{◌≡◌, sym, ap, ap₂, ◌∙◌}
use mathlib.Core.Bool.{Bool}
use native.Mathlib.Omega.{arith}
use borrow.Author.Tests.{le-leb}
use lib.IntN.{ℤ}
use Rattle.std.specs.Prelude.{Result, Err}
use Prim.Native.Nat.{ℕ}
use Rattle.laws.proofs.Machine.{read1}
use Rattle.answer.specs.declared.Refusal.{Refusal}
use Rattle.answer.specs.Refusals.{refusing}
use Rattle.answer.specs.declared.Marked.{Marked}
use Rattle.answer.specs.Marks.{marked}
use Rattle.stamp.specs.declared.Stamp.{Stamp}
use Rattle.stamp.specs.Scales.{scale_of}
use Rattle.stamp.specs.Stamps.{stamp_of}
use Rattle.stamp.specs.Marks.{beyond_at, stamp_of_marked}
use Rattle.stamp.proofs.Promise.{stamp_given}
use Rattle.pictures.specs.Pictures.{picture_text}
use Rattle.text.specs.Text.{text_of, write_tests, text_at}
use Rattle.text.proofs.Answers.{as_written, write_as, stamp_plain}
use Rattle.text.proofs.write_text.Goals as goal
use Rattle.text.proofs.write_text.Goals.{After-stamp_of-stamped}

-- what `stamp` answered, with its mark
module _ (c : goal.After-stamp_of-stamped) where
  abbrev mark : Bool
  mark = beyond_at c.args.t.now (scale_of c.args.scale) c.args.instant

  told : c.stamp_of-stamped.result ≡ stamp_of_marked c.args.t.now c.args.instant c.args.scale
  told = read1 (λ (x : ℤ). stamp_of_marked c.args.t.now x c.args.scale) c.ranges.instant c.stamp_of-stamped.ensures

  module _ {v : Result Stamp Refusal} (e : c.stamp_of-stamped.result.answer ≡ v) where
    stamped : v ≡ stamp_of c.args.t.now c.args.instant c.args.scale
    stamped = sym e ∙ ap (λ (m : Marked Stamp). m.answer) told

    -- what the call answers and leaves
    answers : {A : Type 0} (refuse : Refusal → A) (x : A) → as_written refuse x v ≡ refusing refuse (write_tests c.args.t.now c.args.instant c.args.picture c.args.scale c.args.digits) x
    answers refuse x = write_as refuse x c.args.t.now c.args.instant c.args.picture c.args.scale c.args.digits (le-leb c.args.picture 2 (omega arith)) (le-leb c.args.digits 6 (omega arith)) stamped

pub fields_of-requires : goal.fields_of-requires
fields_of-requires c = stamp_plain c.args.t.now c.args.scale c.args.instant (sym (stamped (goal.at.fields_of-requires c).After-stamp_of-stamped c.in-Ok.is))

pub returns-in-Ok : goal.returns-in-Ok
returns-in-Ok c =
    let s = (goal.at.returns-in-Ok c).After-stamp_of-stamped in
    let a = c.args in
    let e = c.in-Ok.is in
    let shown : picture_text c.fields_of.result ≡ text_at a.t.now a.instant a.picture a.scale a.digits =
    ap picture_text c.fields_of.ensures ∙ ap (λ (z : Stamp). text_of a.picture a.digits z.reading) (sym (stamp_given a.t.now a.scale a.instant _ (sym (stamped s e))).1.1.1) in
    let r = rw shown at c.write_fields-answer.ensures in
    let b : c.stamp_of-stamped.result.beyond ≡ mark s = ap (λ (m : Marked Stamp). m.beyond) (told s) ∙ ap (λ (v : Result Stamp Refusal). (marked v (mark s)).beyond) (sym (stamped s e)) in
    (c.new.ensures ∙ ap₂ marked (r.0 ∙ answers s e Err _) b, r.1 ∙ answers s e (λ why. a.out.now) _)

pub returns-in-Err : goal.returns-in-Err
returns-in-Err c =
    let s = (goal.at.returns-in-Err c).After-stamp_of-stamped in
    let e = c.in-Err.is in
    (c.refused-in-Err.ensures ∙ ap (λ (v : Result ℕ Refusal). marked v (mark s)) (answers s e Err _), answers s e (λ why. c.args.out.now) _)
