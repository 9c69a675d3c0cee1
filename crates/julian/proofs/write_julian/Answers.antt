use Rattle.std.specs.Prelude.{Result, Ok, Err}
use borrow.Author.Rules.{rules}
use Rattle.answer.specs.declared.Refusal.{Refusal}
use Rattle.std.proofs.Common.{◌≡◌, Bool, ℤ, refl, ap, ◌∙◌, ap₂}
use Rattle.answer.specs.declared.Marked.{Marked}
use Rattle.answer.specs.Marks.{marked}
use Rattle.laws.proofs.Machine.{read1}
use Rattle.stamp.specs.declared.DayTime.{DayTime}
use Rattle.stamp.specs.Scales.{scale_of}
use Rattle.stamp.specs.Days.{shown_of}
use Rattle.stamp.specs.Marks.{beyond_at, shown_of_marked}
use Rattle.julian.proofs.Written.{dated, written}
use Rattle.julian.proofs.write_julian.Goals as goal
use Rattle.julian.proofs.write_julian.Goals.{After-shown_of-shown}

module _ (c : goal.After-shown_of-shown) where
  abbrev mark : Bool
  mark = beyond_at c.args.t.now (scale_of c.args.scale) c.args.instant

  told : c.shown_of-shown.result ≡ shown_of_marked c.args.t.now c.args.instant c.args.scale
  told = read1 (λ (x : ℤ). shown_of_marked c.args.t.now x c.args.scale) c.ranges.instant c.shown_of-shown.ensures

  -- the mark of what is shown, and of no refusal
  mark_is : c.shown_of-shown.result.beyond ≡ (marked (shown_of c.args.t.now c.args.instant c.args.scale) mark).beyond
  mark_is = ap (λ (m : Marked DayTime). m.beyond) told

  -- marked again it stays
  again : (a : Result DayTime Refusal) → marked (dated a) (marked a mark).beyond ≡ marked (dated a) mark
  again (Ok d) = refl
  again (Err why) = refl

pub returns : goal.returns
returns c =
    let k = (goal.at.returns c).After-shown_of-shown in
    let s = shown_of c.args.t.now c.args.instant c.args.scale in
    let mapped : c.map.result ≡ dated c.shown_of-shown.result.answer = search rules in
    c.new.ensures
    ∙ ap₂ marked (mapped ∙ ap dated (ap (λ (m : Marked DayTime). m.answer) (told k))) (mark_is k)
    ∙ again k s
    ∙ ap (λ a. marked a (mark k)) (written c.args.t.now c.args.instant c.args.scale)
