-- In the order of the definition.
use mathlib.Core.Path.{◌≡◌, sym, ap, ◌∙◌}
use borrow.Author.Rules.{rules}
use borrow.Author.Tests.{le-leb, lt-leb}
use Rattle.std.specs.Prelude.{Err, ok_or}
use Rattle.answer.specs.declared.Refusal.TheVariants.{Ask as ASK}
use Rattle.answer.proofs.Orders.{refused, passed}
use Rattle.listing.specs.Listing.{count_line}
use Rattle.listing.proofs.count_line.Goals as goal

pub returns-then-line-gt1024 : goal.returns-then-line-gt1024
unfolding count_line
returns-then-line-gt1024 c = refused _ _ (lt-leb _ _ c.if-line-gt1024.true)

pub returns-in_err-n : goal.returns-in_err-n
unfolding count_line
returns-in_err-n c =
    let e : c.from_residual.result ≡ Err c.in_err-n.field-0.0 = search rules in
    passed _ (le-leb _ _ c.if-line-gt1024.false) (e ∙ sym (c.in_err-n.was) ∙ c.ok_or.ensures.value ∙ ap (λ n. ok_or n ASK) c.decimal.ensures)

pub returns : goal.returns
unfolding count_line
returns c =
    passed _ (le-leb _ _ c.if-line-gt1024.false) (sym (c.in_ok-n.was) ∙ c.ok_or.ensures.value ∙ ap (λ n. ok_or n ASK) c.decimal.ensures)
