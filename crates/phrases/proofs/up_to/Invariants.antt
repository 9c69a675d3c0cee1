use mathlib.Core.Path.{◌≡◌}
use Prim.Native.Nat.{◌+◌}
use lib.ListN.{length, drop}
use Rattle.phrases.specs.Parts.{up_to}
use Rattle.phrases.proofs.up_to.Given as goal

-- the word stands nowhere before
abbrev pub invariant-loop-i : goal.invariant-loop-i
invariant-loop-i l = l.i + length (up_to l.word (drop l.i l.s)) ≡ length (up_to l.word l.s)
