-- Three texts, one behind another.
use borrow.Author.Rules.{rules}
use mathlib.Core.Path.{ap}
use mir.Syntax.{w64}
use mir.Val.{SFits}
use mir.Facts.{to_z-of_z}
use Rattle.seconds.specs.Seconds.{seconds_text}
use Rattle.phrases.proofs.Puts.{puts_as, then}
use Rattle.stampwords.proofs.put_between.Goals as goal

pub returns : goal.returns
returns c =
    let f : SFits w64 c.args.s.micros = search rules in
    then (puts_as (ap seconds_text (to_z-of_z f)) c.put_seconds-a.ensures) (then c.put-b.ensures c.put_beyond.ensures)
