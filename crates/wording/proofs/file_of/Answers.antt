-- Behind the words, where they stand.
use mathlib.Core.Path.{refl, sym, ◌∙◌}
use native.Mathlib.Omega.{arith}
use borrow.Author.Tests.{le-leb, lt-leb}
use lib.ListN.{length}
use Rattle.laws.proofs.Branches.{cond_yes, cond_rest}
use Rattle.wording.specs.Summary.{file_of}
use Rattle.wording.proofs.Wording.{part_inside}
use Rattle.wording.proofs.file_of.Goals as goal

pub returns-then-line-gt1024 : goal.returns-then-line-gt1024
unfolding file_of
returns-then-line-gt1024 c = record { value = cond_rest _ (lt-leb (length c.args.line.now) 1024 c.if-line-gt1024.true) refl; from_le_end = (omega arith, omega arith) }

pub returns-then-begins_with : goal.returns-then-begins_with
unfolding file_of
returns-then-begins_with c =
    let s = c.args.line.now in
    let b = c.begins_with.ensures in
    let p = c.part_behind.ensures in
    record { value = cond_yes _ (le-leb (length s) 1024 (omega arith)) (cond_yes _ (sym b ∙ c.if-begins_with.true) p); from_le_end = part_inside 13 s p }

pub returns-then-begins_with-2 : goal.returns-then-begins_with-2
unfolding file_of
returns-then-begins_with-2 c =
    let s = c.args.line.now in
    let b = c.begins_with.ensures in
    let d = c.begins_with-2.ensures in
    let p = c.part_behind-then-begins_with-2.ensures in
    record { value = cond_yes _ (le-leb (length s) 1024 (omega arith)) (cond_rest _ (sym b ∙ c.if-begins_with.false) (cond_yes _ (sym d ∙ c.if-begins_with-2.true) p)); from_le_end = part_inside 12 s p }

pub returns : goal.returns
unfolding file_of
returns c =
    let s = c.args.line.now in
    let b = c.begins_with.ensures in
    let d = c.begins_with-2.ensures in
    record { value = cond_yes _ (le-leb (length s) 1024 (omega arith)) (cond_rest _ (sym b ∙ c.if-begins_with.false) (cond_rest _ (sym d ∙ c.if-begins_with-2.false) refl)); from_le_end = (omega arith, omega arith) }
