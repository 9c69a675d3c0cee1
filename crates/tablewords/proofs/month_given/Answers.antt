-- Test by test.
use mathlib.Core.Path.{refl, sym, ap, ap₂, subst, ◌∙◌}
use native.Mathlib.Omega.{arith}
use lib.Seq.{length-take-le}
use borrow.Author.Tests.{eq-eqb, ne_eqb}
use Rattle.laws.proofs.Branches.{cond_yes, cond_rest}
use Rattle.digits.specs.Decimals.{decimal_of, Within}
use Rattle.digits.proofs.Decimals.{decimal_within}
use Rattle.phrases.proofs.Parts.{rest_is}
use Rattle.tablewords.specs.Loading.{month_number, month_given}
use Rattle.tablewords.proofs.month_given.Goals as goal
use Rattle.tablewords.proofs.month_given.Goals.{then-s-ne7-via-then-s-ne7, then-s-ne7-via-else-s-ne7+then-s-ne45}

pub returns-then-s-ne7 : goal.returns-then-s-ne7
unfolding month_given
returns-then-s-ne7 c =
    elim c.then-s-ne7.branch [
      | then-s-ne7-via-then-s-ne7 w ↦ (cond_rest _ (ne_eqb _ _ w.if-s-ne7.true) refl, tt)
      | then-s-ne7-via-else-s-ne7+then-s-ne45 w ↦ (cond_yes _ (eq-eqb _ _ w.if-s-ne7.false) (cond_rest _ (ne_eqb _ _ w.if-s-ne45.true) refl), tt)
    ]

pub slice_bounds-decimal-end : goal.slice_bounds-decimal-end
slice_bounds-decimal-end c =
    sym (length-take-le 4 c.args.s.now (omega arith))

pub month_number-requires : goal.month_number-requires
month_number-requires c = (subst (Within 9999) (sym c.decimal-year.ensures) (decimal_within 9999 _), subst (Within 12) (sym c.decimal-month.ensures) (decimal_within 12 _))

pub returns : goal.returns
unfolding month_given
returns c =
    (cond_yes _ (eq-eqb _ _ c.if-s-ne7.false) (cond_yes _ (eq-eqb _ _ c.if-s-ne45.false) (c.month_number.ensures.0 ∙ ap₂ month_number c.decimal-year.ensures (c.decimal-month.ensures ∙ ap (decimal_of 12) (rest_is c.args.s.now 5)))), c.month_number.ensures.1)
