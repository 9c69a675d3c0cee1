-- `block::read_from` meets its contract: the count, and then the entries.
use mathlib.Core.Path.{◌≡◌, refl, ap, ◌∙◌}
use native.Mathlib.Omega.{arith}
use borrow.Author.Rules.{rules}
use lib.ListN.{drop}
use Rattle.std.specs.Prelude.{Ok, Err}
use Rattle.leap.specs.Outcomes.{table_read}
use Rattle.block.specs.Faults.{within}
use Rattle.block.specs.Reading.{NumberRead, answered, read_number}
use Rattle.block.proofs.Reading.{rest_number, rest_fault, on_count, count_entries, count_within}
use Rattle.block.proofs.read_from.Goals as goal
use Rattle.block.proofs.read_from.Goals.{In_ok-count}

-- the number that was read
count_read : (c : In_ok-count) → ◌≡◌ {A = NumberRead} (Ok (c.in_ok-count.count, c.in_ok-count.size)) (read_number (within 1 64) (drop c.args.start c.args.s.now))
count_read c = rest_number (within 1 64) c.args.s.now c.args.start c.read_number.ensures c.in_ok-count.ensures

pub returns-in_err-count : goal.returns-in_err-count
returns-in_err-count c =
    let e : c.from_residual.result ≡ Err c.in_err-count.field-0.0 = search rules in
    ap (λ r. answered r c.args.t.now) e ∙ ap table_read (rest_fault (within 1 64) c.args.s.now c.args.start c.read_number.ensures _ c.in_err-count.ensures ∙ on_count c.args.vouched c.args.s.now c.args.start refl)

pub overflow_add-start : goal.overflow_add-start
overflow_add-start c = omega (arith, count_within _ _ (count_read c) c.requires.start_in_bounds)

pub read_entries-requires-clause-start_in_bounds : goal.read_entries-requires-clause-start_in_bounds
read_entries-requires-clause-start_in_bounds c = count_within _ _ (count_read (goal.at.read_entries-requires-clause-start_in_bounds c).In_ok-count) c.requires.start_in_bounds

pub returns : goal.returns
returns c = c.read_entries.ensures ∙ ap table_read (count_entries c.args.vouched c.args.s.now c.args.start (count_read (goal.at.returns c).In_ok-count))
