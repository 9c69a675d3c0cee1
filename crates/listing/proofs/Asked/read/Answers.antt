-- The lines, in their order.
use mathlib.Core.Path.{◌≡◌, sym, ap, ◌∙◌}
use borrow.Author.Rules.{rules}
use Rattle.std.specs.Prelude.{Ok, Err}
use Rattle.lines.specs.Words.{line_of}
use Rattle.listing.specs.Listing.{block_line, stamp_line, count_line, shown}
use Rattle.listing.proofs.Deciding.{without_place, bad_block, bad_stamp, bad_count, all_good, block_good}
use Rattle.listing.proofs.Judged.{stamp_good, count_most}
use Rattle.listing.proofs.Asked.read.Goals as goal
use Rattle.listing.proofs.Asked.read.Goals.{After-map_err, In_ok-table, In_ok-stamp, In_ok-count}

block_told : (c : After-map_err) → c.map_err.result ≡ without_place (block_line (line_of c.args.input.now 0))
block_told c =
    let e : c.map_err.result ≡ without_place c.block_line.result = search rules in
    e ∙ ap without_place c.block_line.ensures ∙ ap (λ s. without_place (block_line s)) c.nth_line.ensures

block_read : (c : In_ok-table) → block_line (line_of c.args.input.now 0) ≡ Ok c.in_ok-table.table
block_read c = block_good _ (sym (block_told (goal.at.In_ok-table c).After-map_err) ∙ c.in_ok-table.was)

stamp_read : (c : In_ok-stamp) → stamp_line c.in_ok-table.table (line_of c.args.input.now 1) ≡ Ok (c.in_ok-stamp.field-0-0, c.in_ok-stamp.stamp)
stamp_read c = ap (stamp_line c.in_ok-table.table) (sym c.nth_line-2.ensures) ∙ sym c.stamp_line.ensures ∙ c.in_ok-stamp.was

count_read : (c : In_ok-count) → count_line (line_of c.args.input.now 2) ≡ Ok c.in_ok-count.count
count_read c = ap count_line (sym c.nth_line-3.ensures) ∙ sym c.count_line.ensures ∙ c.in_ok-count.was

pub returns-in_err-table : goal.returns-in_err-table
returns-in_err-table c =
    let e : c.from_residual.result ≡ Err c.in_err-table.field-0.0 = search rules in
    ap shown e ∙ bad_block c.args.input.now (sym (block_told (goal.at.returns-in_err-table c).After-map_err) ∙ c.in_err-table.was)

pub returns-in_err-stamp : goal.returns-in_err-stamp
returns-in_err-stamp c =
    let e : c.from_residual-in_err-stamp.result ≡ Err c.in_err-stamp.field-0.0 = search rules in
    let b = ap (stamp_line c.in_ok-table.table) (sym c.nth_line-2.ensures) ∙ sym c.stamp_line.ensures ∙ c.in_err-stamp.was in
    ap shown e ∙ bad_stamp c.args.input.now (block_read (goal.at.returns-in_err-stamp c).In_ok-table) b

pub returns-in_err-count : goal.returns-in_err-count
returns-in_err-count c =
    let e : c.from_residual-in_err-count.result ≡ Err c.in_err-count.field-0.0 = search rules in
    let at = goal.at.returns-in_err-count c in
    let b = ap count_line (sym c.nth_line-3.ensures) ∙ sym c.count_line.ensures ∙ c.in_err-count.was in
    ap shown e ∙ bad_count c.args.input.now (block_read at.In_ok-table) (stamp_read at.In_ok-stamp) b

pub returns : goal.returns
returns c =
    let at = goal.at.returns c in
    all_good c.args.input.now (block_read at.In_ok-table) (stamp_read at.In_ok-stamp) (count_read at.In_ok-count)

pub invariant_of-result : goal.invariant_of-result
invariant_of-result c =
    let at = goal.at.invariant_of-result c in
    let g = stamp_good c.in_ok-table.table (line_of c.args.input.now 1) (stamp_read at.In_ok-stamp) in
    (g.0, g.1, count_most (line_of c.args.input.now 2) (count_read at.In_ok-count))
