-- What stands before the point, and what behind it.
use mathlib.Core.Path.{ap, refl}
use native.Mathlib.Omega.{arith}
use lib.ListN.{length}
use Rattle.seconds.proofs.Seconds.{front_is, joined_is, none_is, small}
use Rattle.seconds.proofs.micros.Goals as goal
use Rattle.seconds.proofs.micros.Goals.{After-branch-part}

pub slice_bounds-decimal-end : goal.slice_bounds-decimal-end
slice_bounds-decimal-end c =
    let e = c.until-end.ensures.value in
    omega (arith, e, ap length (front_is c.args.given.now e))

pub returns-in_err-whole : goal.returns-in_err-whole
returns-in_err-whole c =
    none_is c.args.given.now c.from_residual.ensures (joined_is c.args.given.now c.until-end.ensures.value c.past-from.ensures.0 c.in_err-whole.ensures refl)

pub returns-in_err-part : goal.returns-in_err-part
returns-in_err-part c =
    none_is c.args.given.now c.from_residual-in_err-part.ensures (joined_is c.args.given.now c.until-end.ensures.value c.past-from.ensures.0 c.in_ok-whole.ensures c.in_err-part.ensures)

pub overflow_mul-result : goal.overflow_mul-result
overflow_mul-result c = let h = small _ _ c.in_ok-whole.ensures c.in_ok-part.ensures refl refl in omega arith

pub overflow_add-result : goal.overflow_add-result
overflow_add-result c = let h = small _ _ c.in_ok-whole.ensures c.in_ok-part.ensures refl refl in omega arith

pub returns : goal.returns
returns c =
    let h = small _ _ c.in_ok-whole.ensures c.in_ok-part.ensures refl refl in
    (joined_is c.args.given.now c.until-end.ensures.value c.past-from.ensures.0 c.in_ok-whole.ensures c.in_ok-part.ensures, omega arith)
