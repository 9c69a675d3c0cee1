-- Nothing, or the numbers of the first and how many more.
use mathlib.Core.Path.{refl, ap}
use borrow.Author.Tests.{eq-eqb, ne_eqb}
use Rattle.laws.proofs.Branches.{cond_yes, cond_rest}
use Rattle.phrases.proofs.Puts.{puts_as, then}
use Rattle.wording.specs.Summary.{numbers_text}
use Rattle.wording.proofs.put_bad.Goals as goal

pub returns-then-bad-eq0 : goal.returns-then-bad-eq0
returns-then-bad-eq0 c =
    puts_as (cond_yes _ (eq-eqb c.args.bad 0 c.if-bad-eq0.true) refl) c.put.ensures

pub returns : goal.returns
returns c =
    let a = c.args in
    puts_as (cond_rest _ (ne_eqb a.bad 0 c.if-bad-eq0.false) refl)
    (then c.put-a.ensures (then (puts_as (ap (numbers_text a.first.now) c.min.ensures) c.put_numbers-b.ensures) c.put_more.ensures))
