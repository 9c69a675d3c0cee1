-- Each byte is looked for up to the end.
use mathlib.Core.Path.{sym, ◌∙◌}
use native.Mathlib.Nat.{zero-add}
use native.Mathlib.Omega.{arith}
use borrow.Author.Rules.{rules}
use borrow.Author.Tests.{le-leb, lt-leb, eq-eqb, ne_eqb}
use Prim.Native.Nat.{◌≤◌, ◌<◌}
use lib.ListN.{length}
use Rattle.lines.specs.Words.{before}
use Rattle.stampwords.specs.Spans.{real_name}
use Rattle.stampwords.proofs.real_name.Goals as goal

pub returns-then-is_empty : goal.returns-then-is_empty
unfolding real_name
returns-then-is_empty c =
    let none : length c.args.name.now < 1 = search rules in
    rw (lt-leb 1 (length c.args.name.now) none)

pub returns-then-until-name : goal.returns-then-until-name
unfolding real_name
returns-then-until-name c =
    let s = c.args.name.now in
    let some : 1 ≤ length s = search rules in
    let u = c.until.ensures.value in
    rw (le-leb 1 (length s) some, ne_eqb (length (before 44 s)) (length s) (λ e. c.if-until-name.true (u ∙ zero-add _ ∙ e)))

pub returns : goal.returns
unfolding real_name
returns c =
    let s = c.args.name.now in
    let some : 1 ≤ length s = search rules in
    let u = c.until.ensures.value in
    rw (le-leb 1 (length s) some, eq-eqb (length (before 44 s)) (length s) (sym (zero-add _) ∙ sym u ∙ c.if-until-name.false), c.until-2.ensures.value, zero-add)
