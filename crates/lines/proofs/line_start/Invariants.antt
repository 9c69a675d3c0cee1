-- `from` is where the line begins, and the lines from there on are those that are left.
use Rattle.std.proofs.Common.{◌≡◌, ◌-◌, ◌≤◌, length, drop}
use Rattle.lines.specs.Words.{line_of, line_start}
use Rattle.lines.proofs.line_start.Given as goal

abbrev pub invariant-loop-line : goal.invariant-loop-line
invariant-loop-line l = (l.from ≡ line_start l.s l._line) × (line_of (drop l.from l.s) (l.k - l._line) ≡ line_of l.s l.k) × (l.from ≤ length l.s)
