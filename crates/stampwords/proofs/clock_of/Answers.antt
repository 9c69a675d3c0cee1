-- What stands before the blank.
use mathlib.Core.Path.{sym, ap, ◌∙◌}
use native.Mathlib.Omega.{arith}
use lib.Seq.{length-take-le}
use Rattle.stampwords.specs.Stamps.{clock_named, clock_of}
use Rattle.stampwords.proofs.Stamps.{front_is}
use Rattle.stampwords.proofs.clock_of.Goals as goal

pub slice_bounds-clock_named-end : goal.slice_bounds-clock_named-end
slice_bounds-clock_named-end c = let u = c.until-end in sym (length-take-le u.result c.args.given.now (u.ensures.upper_bound.0 (omega arith)))

pub returns : goal.returns
unfolding clock_of
returns c =
    let u = c.until-end in
    let s = c.args.given.now in
    c.clock_named.ensures ∙ ap clock_named (front_is 32 s u.ensures.value)
