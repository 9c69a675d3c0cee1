-- `block::read_opening` meets its contract: nothing; or the number 0, and that of the month.
use Prim.Native.Nat.{◌+◌}
use mathlib.Core.Path.{◌≡◌, refl, ◌∙◌}
use native.Mathlib.Omega.{arith}
use borrow.Author.Rules.{rules}
use lib.ListN.{drop}
use Rattle.std.specs.Prelude.{Ok, Err}
use Rattle.leap.specs.Leap.{last_entry_month}
use Rattle.block.specs.Faults.{within}
use Rattle.block.specs.Reading.{NumberRead, read_number}
use Rattle.block.proofs.Reading.{rest_number, rest_fault, on_zero, on_vouched, zero_within, vouched_block, vouched_within}
use Rattle.block.proofs.read_opening.Goals as goal
use Rattle.block.proofs.read_opening.Goals.{In_ok-vouched-in-New}

-- the number of the month
month_read : (c : In_ok-vouched-in-New) → ◌≡◌ {A = NumberRead} (Ok (c.in_ok-vouched-in-New.vouched, c.in_ok-vouched-in-New.size)) (read_number (within 0 (last_entry_month + 1)) (drop 1 c.args.s.now))
month_read c = rest_number (within 0 (last_entry_month + 1)) c.args.s.now 1 c.read_number-month.ensures c.in_ok-vouched-in-New.ensures

pub returns-in_err-vouched-in-New : goal.returns-in_err-vouched-in-New
returns-in_err-vouched-in-New c =
    let s = c.args.s.now in
    let e : c.from_residual-in_err-vouched-in-New.result ≡ Err c.in_err-vouched-in-New.field-0.0 = search rules in
    let f = rest_fault (within 0 (last_entry_month + 1)) s 1 c.read_number-month.ensures _ c.in_err-vouched-in-New.ensures in
    rw (e, c.in-New.is) (f ∙ on_vouched s refl ∙ on_zero s c.in_ok-read_number-in-New.ensures, omega arith)

pub overflow_add-result : goal.overflow_add-result
overflow_add-result c = omega (arith, vouched_within c.args.s.now (month_read (goal.at.overflow_add-result c).In_ok-vouched-in-New))

pub returns-in_ok-vouched-in-New : goal.returns-in_ok-vouched-in-New
returns-in_ok-vouched-in-New c =
    let s = c.args.s.now in
    let m = month_read (goal.at.returns-in_ok-vouched-in-New c).In_ok-vouched-in-New in
    rw c.in-New.is (vouched_block s m ∙ on_zero s c.in_ok-read_number-in-New.ensures, vouched_within s m)

pub slice_bounds-read_number-count : goal.slice_bounds-read_number-count
slice_bounds-read_number-count c = zero_within c.args.s.now c.in_ok-read_number-in-New.ensures

pub slice_bounds-read_number-start : goal.slice_bounds-read_number-start
slice_bounds-read_number-start c = let l = zero_within c.args.s.now c.in_ok-read_number-in-New.ensures in search (rules, l)
