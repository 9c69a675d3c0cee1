-- By the first byte.
use mathlib.Core.Path.{sym, ap, ◌∙◌}
use native.Mathlib.Omega.{arith}
use Rattle.seconds.specs.Seconds.{ahead, backward}
use Rattle.seconds.proofs.Seconds.{moved_on, moved_back, move_none, move_minus, move_plus, move_plain}
use Rattle.seconds.proofs.move_given.Goals as goal

pub returns-in_err-first : goal.returns-in_err-first
returns-in_err-first c = move_none c.args.given.now c.from_residual.ensures c.in_err-first.ensures.item.3

pub returns-in-45 : goal.returns-in-45
returns-in-45 c =
    let m = c.micros.ensures in
    moved_back c.micros.result c.map.result m.1 c.map.ensures.cases (ap backward m.0 ∙ move_minus c.args.given.now c.in_ok-first.ensures.item.0 c.in_ok-first.field-0.now (sym c.in_ok-first.ensures.item.1 ∙ c.in-45.is))

pub returns-in-43 : goal.returns-in-43
returns-in-43 c =
    let m = c.micros-in-43.ensures in
    moved_on c.micros-in-43.result c.map-in-43.result m.1 c.map-in-43.ensures.cases (ap ahead m.0 ∙ move_plus c.args.given.now c.in_ok-first.ensures.item.0 c.in_ok-first.field-0.now (sym c.in_ok-first.ensures.item.1 ∙ c.in-43.is))

pub returns-in_default : goal.returns-in_default
returns-in_default c =
    let m = c.micros-in_default.ensures in
    moved_on c.micros-in_default.result c.map-in_default.result m.1 c.map-in_default.ensures.cases (ap ahead m.0 ∙ move_plain c.args.given.now c.in_ok-first.ensures.item.0 c.in_ok-first.field-0.now c.in_ok-first.ensures.item.1 (λ p. omega arith) (λ p. omega arith))
