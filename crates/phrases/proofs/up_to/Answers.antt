-- The word stands nowhere before.
use mathlib.Core.Path.{sym, ap, ◌∙◌}
use native.Mathlib.Omega.{arith}
use lib.ListN.{length}
use Rattle.phrases.specs.Parts.{begins_with}
use Rattle.phrases.proofs.Parts.{rest_is, up_here, up_more, up_end}
use Rattle.phrases.proofs.up_to.Goals as goal

pub loop-i-init : goal.loop-i-init
loop-i-init c = omega arith

pub returns-then-begins_with : goal.returns-then-begins_with
returns-then-begins_with c =
    let a = c.args in
    let e = up_here a.word.now a.s.now c.loop-i.i (omega arith) (ap (begins_with a.word.now) (sym (rest_is a.s.now c.loop-i.i)) ∙ sym c.begins_with.ensures ∙ c.if-begins_with.true) in
    (omega (arith, c.loop-i.invariant, ap length e), omega arith)

pub loop-i-preserved : goal.loop-i-preserved
loop-i-preserved c =
    let a = c.args in
    let e = up_more a.word.now a.s.now c.loop-i.i (omega arith) (ap (begins_with a.word.now) (sym (rest_is a.s.now c.loop-i.i)) ∙ sym c.begins_with.ensures ∙ c.if-begins_with.false) in
    omega (arith, c.loop-i.invariant, ap length e)

pub returns : goal.returns
returns c =
    let a = c.args in
    let e = up_end a.word.now a.s.now c.loop-i.i (omega arith) in
    (omega (arith, c.loop-i.invariant, ap length e), omega arith)
