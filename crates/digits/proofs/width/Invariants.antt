-- The digits passed, and those of what is left above them.
use Rattle.std.proofs.Common.{◌≡◌, ◌+◌, ◌-◌, ◌/◌, ◌^◌, ◌≤◌}
use Rattle.digits.specs.Decimals.{width_of}
use Rattle.digits.proofs.width.Given as goal

abbrev pub invariant-loop-k : goal.invariant-loop-k
invariant-loop-k l = (1 ≤ l.k) × (l.power ≡ 10 ^ l.k) × (l.k + width_of (21 - l.k) (l.n / 10 ^ (l.k - 1)) ≡ width_of 20 l.n + 1)
