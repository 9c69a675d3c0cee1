-- A refusal, or what the file holds.
use mathlib.Core.Path.{refl, ap}
use borrow.Author.Tests.{le-leb, lt-leb}
use lib.ListN.{length}
use Rattle.laws.proofs.Branches.{cond_yes, cond_rest}
use Rattle.tablewords.specs.Loading.{loaded_by, load_cards}
use Rattle.tablewords.proofs.Loading.{loads_as}
use Rattle.tablewords.proofs.load_cards.Goals as goal

pub returns-then-not-readable : goal.returns-then-not-readable
unfolding load_cards
returns-then-not-readable c =
    let s = c.args in
    loads_as (cond_rest _ c.if-not-readable.true refl) c.not_read.ensures

pub returns-then-file-gt65536 : goal.returns-then-file-gt65536
unfolding load_cards
returns-then-file-gt65536 c =
    let s = c.args in
    loads_as (cond_yes _ c.if-not-readable.false (cond_rest _ (lt-leb (length s.file.now) 65536 c.if-file-gt65536.true) refl)) c.not_read-then-file-gt65536.ensures

pub returns : goal.returns
unfolding load_cards
returns c =
    let s = c.args in
    loads_as
    (cond_yes _ c.if-not-readable.false (cond_yes _ (le-leb (length s.file.now) 65536 c.if-file-gt65536.false) (ap (loaded_by s.given.now) c.read_cards.ensures)))
    c.loaded_by.ensures
