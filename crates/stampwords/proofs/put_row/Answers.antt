-- Seven texts, one behind another.
use borrow.Author.Rules.{rules}
use mathlib.Core.Path.{ap}
use mir.Syntax.{w64}
use mir.Val.{SFits}
use mir.Facts.{to_z-of_z}
use Rattle.seconds.specs.Seconds.{seconds_text}
use Rattle.phrases.proofs.Puts.{puts_as, then}
use Rattle.stampwords.specs.Spans.{sheet_row}
use Rattle.stampwords.proofs.put_row.Goals as goal

pub returns : goal.returns
unfolding sheet_row
returns c =
    let f : SFits w64 c.args.s.micros = search rules in
    let lasts = puts_as (ap seconds_text (to_z-of_z f)) c.put_seconds-f.ensures in
    then c.put_cell-c.ensures (then c.put_cell-d.ensures (then c.put_cell-e.ensures (then lasts (then c.put-g.ensures (then c.put_steps-h.ensures c.put_beyond.ensures)))))
