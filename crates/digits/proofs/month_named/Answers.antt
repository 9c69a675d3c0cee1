-- None of the months passed has the name.
use Rattle.std.proofs.Common.{◌≡◌, ◌-◌, refl, sym, ◌∙◌, arith}
use Rattle.digits.specs.Months.{among_months, month_named}
use Rattle.digits.proofs.Months.{named_yes, named_no}
use Rattle.digits.proofs.month_named.Goals as goal

pub loop-passed-init : goal.loop-passed-init
unfolding month_named
loop-passed-init c = refl

pub returns-then-is_named : goal.returns-then-is_named
returns-then-is_named c =
    let l = c.loop-passed in
    sym (named_yes (12 - l.passed) _ (omega arith) (sym c.is_named.ensures ∙ c.if-is_named.true)) ∙ l.invariant

pub loop-passed-preserved : goal.loop-passed-preserved
loop-passed-preserved c =
    let l = c.loop-passed in
    sym (named_no (12 - l.passed) _ (omega arith) (sym c.is_named.ensures ∙ c.if-is_named.false)) ∙ l.invariant

pub returns : goal.returns
unfolding among_months
returns c = let z : 12 - c.loop-passed.passed ≡ 0 = omega arith in rw z at c.loop-passed.invariant
