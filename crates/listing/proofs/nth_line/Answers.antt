-- From the line's start up to its end.
use mathlib.Core.Path.{◌∙◌}
use Rattle.lines.proofs.Lines.{part_is}
use Rattle.listing.proofs.nth_line.Goals as goal

pub returns : goal.returns
returns c =
    let f = c.line_start-from in
    part_is 10 c.args.s.now f.result c.until-end.ensures.value ∙ f.ensures.s_value.0
