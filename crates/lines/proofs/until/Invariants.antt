use Rattle.std.proofs.Common.{◌≡◌, ◌+◌, ◌≤◌, length, drop}
use Rattle.lines.specs.Words.{before}
use Rattle.lines.proofs.until.Given as goal

abbrev pub invariant-loop-i : goal.invariant-loop-i
invariant-loop-i l = (l.from ≤ l.i) × (l.i + length (before l.b (drop l.i l.s)) ≡ l.from + length (before l.b (drop l.from l.s)))
