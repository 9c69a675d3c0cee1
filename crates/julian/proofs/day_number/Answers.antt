-- `julian::day_number` meets its contract.
use Rattle.std.proofs.Common.{ℕ, ◌-◌, ap, ◌∙◌, arith}
use Rattle.julian.specs.Midnight.{day_number}
use Rattle.julian.proofs.Years.{years}
use Rattle.julian.proofs.day_number.Goals as goal

pub truncating_f64_to_u64-requires : goal.truncating_f64_to_u64-requires
unfolding day_number
truncating_f64_to_u64-requires c = let y = years c.args.x c.requires in record { lower_bound = y.above; upper_bound = y.below }

pub overflow_sub-result : goal.overflow_sub-result
unfolding day_number
overflow_sub-result c = let y = years c.args.x c.requires in omega (arith, c.truncating_f64_to_u64.ensures, y.whole, y.range)

pub overflow_cast-result : goal.overflow_cast-result
unfolding day_number
overflow_cast-result c = let y = years c.args.x c.requires in record { fits = omega (arith, c.truncating_f64_to_u64.ensures, y.whole, y.range) }

pub returns : goal.returns
unfolding day_number
returns c = let y = years c.args.x c.requires in ap (λ (n : ℕ). n - 1721059) (c.truncating_f64_to_u64.ensures ∙ y.whole)
