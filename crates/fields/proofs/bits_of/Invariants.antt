-- What the digits passed give, and those to come, is the whole; sixteen digits fit.
use Rattle.std.proofs.Common.{◌≡◌, ◌<◌, ◌^◌, drop}
use Rattle.fields.specs.Words.{nibbled, pattern_of}
use Rattle.fields.proofs.bits_of.Given as goal

abbrev pub invariant-loop-b : goal.invariant-loop-b
invariant-loop-b l = (l.n < 16 ^ l.b-index) × (nibbled l.n (drop l.b-index l.word) ≡ pattern_of l.word)
