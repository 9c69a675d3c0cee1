use Rattle.std.proofs.Common.{◌≡◌, ◌≤◌}
use Rattle.kinds.specs.Parts.{month_on}
use Rattle.kinds.proofs.month_on.Given as goal

abbrev pub invariant-loop-m : goal.invariant-loop-m
invariant-loop-m l = (l.m ≤ 12) × (month_on l.from l.k l.c l.m ≡ month_on l.from l.k l.c 12)
