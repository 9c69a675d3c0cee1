-- A refusal, or the same entries with another month.
use mathlib.Core.Path.{refl, sym, ap, ◌∙◌}
use native.Mathlib.Omega.{arith}
use Rattle.laws.proofs.Branches.{cond_yes, cond_rest}
use Rattle.leap.specs.Leap.{accepted}
use Rattle.tablewords.specs.Loading.{taking, vouched_by, vouch}
use Rattle.tablewords.proofs.Loading.{loads_as, at_most}
use Rattle.tablewords.proofs.vouch.Goals as goal

pub returns-in_default : goal.returns-in_default
unfolding vouch
returns-in_default c =
    let q = ap (vouched_by c.args.t.now c.args.month.now) (sym c.in_default.is ∙ c.month_given.ensures.0) in
    loads_as q (record { says = c.refuse_request.ensures; table = refl })

pub overflow_cast-v : goal.overflow_cast-v
overflow_cast-v c =
    omega (arith, at_most c.in-Some.is c.month_given.ensures.1)

pub returns-then-not-is_accepted : goal.returns-then-not-is_accepted
unfolding vouch
returns-then-not-is_accepted c =
    let q = ap (vouched_by c.args.t.now c.args.month.now) (sym c.in-Some.is ∙ c.month_given.ensures.0) in
    loads_as (cond_rest _ (sym (ap accepted c.new-vouched.ensures) ∙ sym c.is_accepted.ensures ∙ c.if-not-is_accepted.true) refl ∙ q) (record { says = c.refuse.ensures; table = refl })

pub returns : goal.returns
unfolding vouch
returns c =
    let q = ap (vouched_by c.args.t.now c.args.month.now) (sym c.in-Some.is ∙ c.month_given.ensures.0) in
    loads_as (cond_yes _ (sym (ap accepted c.new-vouched.ensures) ∙ sym c.is_accepted.ensures ∙ c.if-not-is_accepted.false) (ap taking c.new-vouched.ensures) ∙ q) c.take_up.ensures
