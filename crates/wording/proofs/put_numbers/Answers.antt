-- The numbers so far are put.
use mathlib.Core.Path.{◌≡◌, sym, ap}
use native.Mathlib.Omega.{arith}
use Rattle.phrases.proofs.Puts.{puts_none, puts_as, then}
use Rattle.wording.specs.Summary.{numbers_text}
use Rattle.wording.proofs.Wording.{numbers_more}
use Rattle.wording.proofs.put_numbers.Goals as goal

pub loop-i-init : goal.loop-i-init
unfolding numbers_text
loop-i-init c = puts_none _ _ c.put-next.ensures.counts.0

pub loop-i-preserved : goal.loop-i-preserved
loop-i-preserved c =
    puts_as (sym (numbers_more c.args.numbers.now c.loop-i.i)) (then c.loop-i.invariant (then c.put-a.ensures c.put_unsigned-next.ensures))

pub returns : goal.returns
returns c =
    let all : c.loop-i.i ≡ c.args.n = omega arith in
    puts_as (ap (numbers_text c.args.numbers.now) all) (then c.put-next.ensures c.loop-i.invariant)
