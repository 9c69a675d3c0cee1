-- A number, and one text or the other.
use mathlib.Core.Path.{refl}
use borrow.Author.Tests.{eq-eqb, ne_eqb}
use Rattle.laws.proofs.Branches.{cond_yes, cond_rest}
use Rattle.phrases.proofs.Puts.{puts_as, then}
use Rattle.tablewords.specs.Words.{count_text}
use Rattle.tablewords.proofs.put_count.Goals as goal

pub returns-then-n-eq1 : goal.returns-then-n-eq1
unfolding count_text
returns-then-n-eq1 c =
    then c.put_unsigned-a.ensures (puts_as (cond_yes _ (eq-eqb _ _ c.if-n-eq1.true) refl) c.put.ensures)

pub returns : goal.returns
unfolding count_text
returns c =
    then c.put_unsigned-a.ensures (puts_as (cond_rest _ (ne_eqb _ _ c.if-n-eq1.false) refl) c.put-2.ensures)
