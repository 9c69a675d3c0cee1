-- A pattern above infinity is a NaN.
use Rattle.fields.proofs.Doubles.{nan_pattern, other_pattern}
use Rattle.fields.proofs.double.Goals as goal

pub returns-then-bits-gt9218868437227405312 : goal.returns-then-bits-gt9218868437227405312
returns-then-bits-gt9218868437227405312 c =
    nan_pattern c.args.bits c.if-bits-gt9218868437227405312.true

pub float_from_bits-result : goal.float_from_bits-result
float_from_bits-result c =
    other_pattern c.args.bits c.if-bits-gt9218868437227405312.false
