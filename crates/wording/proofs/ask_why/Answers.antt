-- A number from 1 to 15, or a refusal.
use mathlib.Core.Path.{refl, sym, ap, subst, ◌∙◌}
use native.Mathlib.Omega.{arith}
use borrow.Author.Tests.{le-leb, lt-leb}
use Rattle.laws.proofs.Branches.{cond_yes, cond_rest}
use Rattle.digits.specs.Decimals.{Within}
use Rattle.digits.proofs.Decimals.{decimal_within}
use Rattle.phrases.proofs.Replies.{says_as}
use Rattle.wording.specs.Wording.{why_answer, ask_why}
use Rattle.wording.proofs.ask_why.Goals as goal

pub returns-in_default : goal.returns-in_default
unfolding ask_why
returns-in_default c =
    says_as (ap (why_answer c.args.given.now) (sym c.in_default.is ∙ c.decimal.ensures)) c.refuse_request.ensures

pub returns-then-n-lt1 : goal.returns-then-n-lt1
unfolding ask_why
returns-then-n-lt1 c =
    let g = c.args.given.now in
    says_as (cond_rest _ (lt-leb 1 c.in-Some.n c.if-n-lt1.true) refl ∙ ap (why_answer g) (sym c.in-Some.is ∙ c.decimal.ensures)) c.refuse_request-then-n-lt1.ensures

pub overflow_cast-n : goal.overflow_cast-n
overflow_cast-n c =
    let h = subst (Within 15) (sym c.decimal.ensures ∙ c.in-Some.is) (decimal_within 15 c.args.given.now) in
    record { fits = omega arith }

pub returns : goal.returns
unfolding ask_why
returns c =
    let g = c.args.given.now in
    says_as (cond_yes _ (le-leb 1 c.in-Some.n (omega arith)) refl ∙ ap (why_answer g) (sym c.in-Some.is ∙ c.decimal.ensures)) (record { puts = c.put_why.ensures; good = refl })
