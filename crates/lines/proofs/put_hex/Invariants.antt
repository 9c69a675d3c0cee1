-- The digits of the bytes passed are stored.
use Rattle.std.proofs.Common.{◌≡◌, length, take}
use Rattle.laws.specs.Placed.{place}
use Rattle.lines.specs.Pairs.{hex_text}
use Rattle.lines.proofs.put_hex.Given as goal

abbrev pub invariant-loop-i : goal.invariant-loop-i
invariant-loop-i l = (length l.out ≡ length l.initial.out) × (l.out ≡ place l.initial.out l.at (hex_text (take l.i l.bytes)))
