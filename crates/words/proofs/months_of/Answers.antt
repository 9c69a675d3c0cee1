-- The months are a part of the words.
use mathlib.Core.Path.{sym, ◌∙◌}
use native.Mathlib.Omega.{arith}
use Rattle.words.proofs.Words.{at_part}
use Rattle.words.proofs.months_of.Goals as goal

pub returns : goal.returns
returns c = c.copy_from_slice.ensures.after ∙ sym (at_part 1 64 c.args.words.now (omega (arith, c.fits-words)))
