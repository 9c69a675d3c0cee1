-- A number up to 2 ^ 32 - 1 loses nothing.
use Rattle.std.proofs.Common.{◌≤◌, arith}
use Rattle.fields.proofs.Fields.{natural_most}
use Rattle.fields.proofs.u32_field.Goals as goal

pub overflow_cast-result : goal.overflow_cast-result
overflow_cast-result c =
    let small : c.number_field-value.result.value ≤ 4294967295 = rw c.number_field-value.ensures (natural_most 4294967295 _ _) in
    omega arith
