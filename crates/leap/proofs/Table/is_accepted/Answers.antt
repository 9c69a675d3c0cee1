-- The count, then every place, then the month.
use mathlib.Core.Path.{sym, ◌∙◌}
use Prim.Native.Nat.{◌≤◌}
use borrow.Author.Rules.{rules}
use borrow.Author.Tests.{le-leb}
use Rattle.laws.proofs.Branches.{and_no, and_rest}
use Rattle.leap.specs.Leap.{accepted}
use Rattle.leap.proofs.Table.is_accepted.Goals as goal

pub returns-else-all_right : goal.returns-else-all_right
unfolding accepted
returns-else-all_right c =
    let n = c.args.self.now.count in
    let some : 1 ≤ n = search rules in
    let few : n ≤ 64 = search rules in
    and_rest (le-leb 1 n some) (and_rest (le-leb n 64 few) (c.if-all_right.false ∙ and_no _ (sym c.all_right.ensures ∙ c.if-all_right.false)))

pub returns-then-all_right : goal.returns-then-all_right
unfolding accepted
returns-then-all_right c =
    let n = c.args.self.now.count in
    let some : 1 ≤ n = search rules in
    let few : n ≤ 64 = search rules in
    and_rest (le-leb 1 n some) (and_rest (le-leb n 64 few) (and_rest (sym c.all_right.ensures ∙ c.if-all_right.true) c.vouched_right.ensures))
