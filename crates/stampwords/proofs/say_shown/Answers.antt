-- What was written in front of the buffer, or why it was not.
use mathlib.Core.Path.{refl, sym, ap, ap₂, ◌∙◌}
use mathlib.Core.Bool.{◌||◌}
use mir.Syntax.{w64}
use mir.Val.{to_z, of_z}
use mir.Facts.{to_z-of_z}
use Rattle.answer.specs.Marks.{marked}
use Rattle.stamp.specs.Scales.{scale_of}
use Rattle.stamp.specs.Marks.{beyond_at}
use Rattle.phrases.proofs.Puts.{puts_as}
use Rattle.phrases.proofs.Replies.{says_as}
use Rattle.stampwords.specs.Moves.{clock_text, shown_reply}
use Rattle.stampwords.proofs.Moves.{in_words, shown_is, text_is}
use Rattle.stampwords.proofs.say_shown.Goals as goal

pub returns-in-Ok : goal.returns-in-Ok
returns-in-Ok c =
    let a = c.args in
    let x = to_z w64 (of_z w64 a.x) in
    let wrote = sym (ap (λ r. r.answer) c.write_text-written.ensures.0) ∙ c.in-Ok.is in
    let text = text_is a.t.now x a.k a.places c.in-Ok.n wrote c.write_text-written.ensures.1 c.front-e.ensures.value in
    let beyond = beyond_at a.t.now (scale_of a.k) x in
    let mark = ap (λ m. a.mark || m) (ap (λ r. r.beyond) c.write_text-written.ensures.0 ∙ ap (λ v. (marked v beyond).beyond) wrote) in
    says_as (sym (ap (in_words a.t.now a.line.now x a.k a.places a.mark) wrote) ∙ shown_is a.t.now x a.k a.places a.line.now a.mark ∙ ap (λ y. shown_reply a.t.now a.line.now y a.k a.places a.mark) (to_z-of_z c.ranges.x))
    (record { puts = puts_as (ap₂ (clock_text a.k) text mark) c.put_shown.ensures; good = refl })

pub returns-in-Err : goal.returns-in-Err
returns-in-Err c =
    let a = c.args in
    let x = to_z w64 (of_z w64 a.x) in
    let not_written = sym (ap (λ r. r.answer) c.write_text-written.ensures.0) ∙ c.in-Err.is in
    says_as (sym (ap (in_words a.t.now a.line.now x a.k a.places a.mark) not_written) ∙ shown_is a.t.now x a.k a.places a.line.now a.mark ∙ ap (λ y. shown_reply a.t.now a.line.now y a.k a.places a.mark) (to_z-of_z c.ranges.x))
    c.refuse.ensures
