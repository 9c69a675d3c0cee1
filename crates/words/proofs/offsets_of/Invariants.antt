use mathlib.Core.List.{map}
use lib.IntN.{pos}
use lib.ListN.{replicate}
use Rattle.words.specs.Words.{words_at, offset_from}
use Rattle.words.proofs.Laid.{Laid}
use Rattle.words.proofs.offsets_of.Given as goal

abbrev pub invariant-loop-k : goal.invariant-loop-k
invariant-loop-k l = Laid (replicate 64 (pos 0)) 0 (map offset_from (words_at 65 64 l.words)) l.offsets l.k
