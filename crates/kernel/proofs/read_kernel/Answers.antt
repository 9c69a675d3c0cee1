-- A whole file up to the limit, or the first bytes of a longer one.
use mathlib.Core.Path.{sym}
use native.Mathlib.Omega.{arith}
use borrow.Author.Tests.{le-leb, lt-leb}
use lib.Seq.{length-take-le}
use Rattle.laws.proofs.Branches.{cond_yes, cond_rest}
use Rattle.grammar.specs.Places.{limit}
use Rattle.kernel.specs.Reading.{read_kernel}
use Rattle.kernel.proofs.read_kernel.Goals as goal

pub returns-then-s-le-LIMIT : goal.returns-then-s-le-LIMIT
unfolding read_kernel
returns-then-s-le-LIMIT c = cond_yes _ (le-leb _ limit c.if-s-le-LIMIT.true) c.read_bytes.ensures

pub slice_bounds-read_bytes-end : goal.slice_bounds-read_bytes-end
unfolding read_kernel
slice_bounds-read_bytes-end c = sym (length-take-le limit c.args.s.now (omega arith))

pub returns-else-s-le-LIMIT : goal.returns-else-s-le-LIMIT
unfolding read_kernel
returns-else-s-le-LIMIT c = cond_rest _ (lt-leb _ limit c.if-s-le-LIMIT.false) c.read_bytes-else-s-le-LIMIT.ensures
