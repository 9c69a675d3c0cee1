-- No step, or their number in words.
use mathlib.Core.Path.{refl, sym, ap, ◌∙◌}
use borrow.Author.Tests.{eq-eqb, ne_eqb}
use lib.IntN.{nat_abs}
use mir.Facts.{to_z-of_z}
use Rattle.laws.proofs.Branches.{cond_yes, cond_rest}
use Rattle.digits.specs.Decimals.{decimal_text}
use Rattle.phrases.proofs.Puts.{puts_as, then}
use Rattle.stampwords.specs.Spans.{step_word, plural_text, count_text}
use Rattle.stampwords.proofs.put_count.Goals as goal

pub returns-then-n-eq0 : goal.returns-then-n-eq0
unfolding count_text
returns-then-n-eq0 c =
    let m = c.magnitude-n.ensures ∙ ap nat_abs (to_z-of_z c.ranges.z) in
    puts_as (cond_yes _ (eq-eqb _ 0 (sym m ∙ c.if-n-eq0.true)) refl) c.put.ensures

pub returns : goal.returns
unfolding count_text
returns c =
    let z = to_z-of_z c.ranges.z in
    let m = c.magnitude-n.ensures ∙ ap nat_abs z in
    puts_as (cond_rest _ (ne_eqb _ 0 (λ e. c.if-n-eq0.false (m ∙ e))) refl)
    (then (puts_as (ap decimal_text m) c.put_unsigned-a.ensures) (then (puts_as (ap plural_text m) c.put_plural-b.ensures) (puts_as (ap step_word z) c.put_step_word.ensures)))
