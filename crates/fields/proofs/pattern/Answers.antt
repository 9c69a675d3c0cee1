-- A NaN has one pattern.
use Rattle.std.proofs.Common.{sym, ◌∙◌}
use Rattle.fields.proofs.Doubles.{nan_bits_lem}
use Rattle.fields.proofs.pattern.Goals as goal

pub returns-then-is_nan : goal.returns-then-is_nan
returns-then-is_nan c = nan_bits_lem c.args.x (sym c.is_nan.ensures.value ∙ c.if-is_nan.true)
