-- Behind the word, or at the end.
use native.Mathlib.Omega.{arith}
use Rattle.phrases.proofs.Parts.{behind_none, behind_some}
use Rattle.wording.proofs.behind.Goals as goal

pub returns-then-s-k : goal.returns-then-s-k
returns-then-s-k c = let u = c.up_to-k.ensures in let a = c.args in (behind_none a.word.now a.s.now u.0 (omega arith), omega arith)

pub returns : goal.returns
returns c = let u = c.up_to-k.ensures in let a = c.args in (behind_some a.word.now a.s.now u.0, omega arith)
