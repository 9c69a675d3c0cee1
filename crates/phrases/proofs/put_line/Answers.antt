-- The part of the text from the line on, up to its end.
use mathlib.Core.Path.{◌∙◌}
use Rattle.lines.proofs.Lines.{part_is}
use Rattle.phrases.proofs.Puts.{puts_as}
use Rattle.phrases.proofs.put_line.Goals as goal

pub slice_bounds-put-end : goal.slice_bounds-put-end
slice_bounds-put-end c = c.until-end.ensures.upper_bound.0 c.line_start-from.ensures.s_value.1

pub returns : goal.returns
returns c =
    let f = c.line_start-from in
    let s = c.args.text.now in
    puts_as (part_is 10 s f.result c.until-end.ensures.value ∙ f.ensures.s_value.0) c.put.ensures
