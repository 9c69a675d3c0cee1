-- A number of an i32 loses nothing.
use mathlib.Core.Path.{sym, ap, subst}
use lib.Dec.{lit<}
use mir.Syntax.{w32}
use mir.Val.{SFits}
use mir.Facts.{to_z-of_z, sfits_widen}
use Rattle.fields.specs.Fields.{integer_at}
use Rattle.fields.proofs.Fields.{field_fits}
use Rattle.fields.proofs.i32_field.Goals as goal
use Rattle.fields.proofs.i32_field.Goals.{After-integer_field-value}

small_fits : (c : After-integer_field-value) → SFits w32 c.integer_field-value.result.value
unfolding integer_at
small_fits c =
    subst (SFits w32) (sym (ap (λ x. x.value) c.integer_field-value.ensures)) (field_fits w32 2147483647 (lit< tt) _ _ _ _)

pub overflow_cast-result : goal.overflow_cast-result
overflow_cast-result c =
    let f = small_fits (goal.at.overflow_cast-result c).After-integer_field-value in rw (to_z-of_z (sfits_widen tt f)) f

pub returns : goal.returns
returns c =
    let f = small_fits (goal.at.returns c).After-integer_field-value in
    let e = c.integer_field-value.ensures in
    (rw (to_z-of_z (sfits_widen tt f), to_z-of_z f) (ap (λ x. x.value) e), ap (λ x. x.next) e)
