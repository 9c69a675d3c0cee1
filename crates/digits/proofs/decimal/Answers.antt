-- What the digits passed give, and those to come, is the whole.
use Rattle.std.proofs.Common.{sym, ◌∙◌, length, arith}
use borrow.Author.Tests.{eqb-true, eq-eqb}
use Rattle.digits.proofs.Decimals.{decimal_none, decimal_some, judged_end, turn_other, turn_more, turn_large}
use Rattle.digits.proofs.decimal.Goals as goal
use Rattle.digits.proofs.decimal.Goals.{then-n-gt-LARGEST_TENTH-via-then-n-gt-LARGEST_TENTH, then-n-gt-LARGEST_TENTH-via-else-n-gt-LARGEST_TENTH+then-most-n, then-n-gt-LARGEST_TENTH-via-else-n-gt-LARGEST_TENTH+else-most-n+then-most-n-2}

pub returns-then-is_empty : goal.returns-then-is_empty
returns-then-is_empty c = decimal_none _ _ (eqb-true (length c.args.word.now) 0 (sym c.is_empty.ensures ∙ c.if-is_empty.true))

pub loop-b-init : goal.loop-b-init
loop-b-init c = (omega arith, decimal_some _ _ (λ e. let t = eq-eqb (length c.args.word.now) 0 e in cc))

pub returns-then-not-is_digit : goal.returns-then-not-is_digit
returns-then-not-is_digit c =
    let l = c.loop-b in
    turn_other c.args.most l.n l.b-index c.args.word.now (omega arith) l.invariant.1 (sym c.is_digit.ensures ∙ c.if-not-is_digit.true)

pub returns-then-n-gt-LARGEST_TENTH : goal.returns-then-n-gt-LARGEST_TENTH
returns-then-n-gt-LARGEST_TENTH c =
    let l = c.loop-b in
    let large = turn_large c.args.most l.n l.b-index c.args.word.now (omega arith) l.invariant.1 (sym c.is_digit.ensures ∙ c.if-not-is_digit.false) (c.from-d.ensures ∙ c.digit_value.ensures.0) in
    elim c.then-n-gt-LARGEST_TENTH.branch [
      | then-n-gt-LARGEST_TENTH-via-then-n-gt-LARGEST_TENTH w ↦ large (omega (arith, w.if-n-gt-LARGEST_TENTH))
      | then-n-gt-LARGEST_TENTH-via-else-n-gt-LARGEST_TENTH+then-most-n w ↦ large (omega (arith, w.if-most-n))
      | then-n-gt-LARGEST_TENTH-via-else-n-gt-LARGEST_TENTH+else-most-n+then-most-n-2 w ↦ large (omega (arith, w.if-most-n-2, w.if-most-n))
    ]

pub loop-b-preserved : goal.loop-b-preserved
loop-b-preserved c =
    let l = c.loop-b in
    (omega arith, turn_more c.args.most l.n l.b-index c.args.word.now (omega arith) l.invariant.1 (sym c.is_digit.ensures ∙ c.if-not-is_digit.false) (c.from-d.ensures ∙ c.digit_value.ensures.0))

pub returns : goal.returns
returns c =
    let l = c.loop-b in
    judged_end c.args.most l.n l.b-index c.args.word.now (omega arith) l.invariant.0 ∙ l.invariant.1
