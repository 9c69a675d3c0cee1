-- A refusal, or what the file holds.
use mathlib.Core.Path.{refl, ap}
use Rattle.laws.proofs.Branches.{cond_yes, cond_rest}
use Rattle.tablewords.specs.Loading.{loaded_by, load_kernel}
use Rattle.tablewords.proofs.Loading.{loads_as}
use Rattle.tablewords.proofs.load_kernel.Goals as goal

pub returns-then-readable : goal.returns-then-readable
unfolding load_kernel
returns-then-readable c =
    loads_as (cond_yes _ c.if-readable.true (ap (loaded_by c.args.given.now) c.read_kernel.ensures)) c.loaded_by.ensures

pub returns : goal.returns
unfolding load_kernel
returns c =
    loads_as (cond_rest _ c.if-readable.false refl) c.not_read.ensures
