use mathlib.Core.List.{map}
use Rattle.words.specs.Words.{offset_word}
use Rattle.words.proofs.Laid.{Laid}
use Rattle.words.proofs.store_offsets.Given as goal

abbrev pub invariant-loop-k : goal.invariant-loop-k
invariant-loop-k l = Laid l.initial.out 65 (map offset_word l.offsets) l.out l.k
