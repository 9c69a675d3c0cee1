use Rattle.std.proofs.Common.{◌≡◌, ◌+◌, ◌≤◌, length, drop}
use Rattle.lines.specs.Words.{leading, is_blank}
use Rattle.lines.proofs.past_blanks.Given as goal

abbrev pub invariant-loop-i : goal.invariant-loop-i
invariant-loop-i l = (l.from ≤ l.i) × (l.i + length (leading is_blank (drop l.i l.s)) ≡ l.from + length (leading is_blank (drop l.from l.s)))
