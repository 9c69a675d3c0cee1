-- `block::read_entries` meets its contract: what is left to read, after what is read, is the whole.
use Prim.Native.Nat.{◌-◌, ◌<◌}
use mathlib.Core.Path.{◌≡◌, refl, ap, ◌∙◌}
use mathlib.Core.Bool.{true, false}
use mathlib.Core.List.{[]}
use native.Mathlib.Omega.{arith}
use borrow.Author.Rules.{rules}
use lib.Dec.{lit≤}
use lib.ListN.{get_or, set, drop}
use lib.IntN.{ℤ, pos}
use lib.Signed.{mag}
use mir.Syntax.{w32}
use mir.Val.{of_z, to_z}
use mir.Facts.{to_z-of_z}
use Rattle.std.specs.Prelude.{Ok, Err}
use Rattle.leap.specs.Entries.{first_entry}
use Rattle.leap.specs.Leap.{vouched_right}
use Rattle.leap.specs.Outcomes.{joined, table_read}
use Rattle.leap.proofs.Readers.{joined_none}
use Rattle.block.specs.Faults.{gap_fine}
use Rattle.block.specs.Reading.{NumberRead, answered, read_number, offset_after}
use Rattle.block.proofs.Reading.{rest_number, rest_fault, offset_is, on_read, on_size, on_answer, on_entry, on_tail, on_month, on_end}
use Rattle.block.proofs.read_entries.Goals as goal
use Rattle.block.proofs.read_entries.Goals.{In_ok-n}

pub loop-k-init : goal.loop-k-init
loop-k-init c =
    let h = c.requires.start_in_bounds in
    let z = c.requires.nothing_yet in
    record {
      prior = [];
      last = first_entry;
      goes = joined_none _;
      holds = record { months_are = ap (λ t. t.months) z; offsets_are = ap (λ t. set t.offsets 0 (pos 10)) z };
      sized = refl;
      inside = h.1;
      few = h.2;
      placed = h.0;
      early = lit≤ tt;
      near = lit≤ tt;
    }

-- the number that was read
gap_read : (c : In_ok-n) → ◌≡◌ {A = NumberRead} (Ok (c.in_ok-n.n, c.in_ok-n.size)) (read_number (gap_fine (get_or c.loop-k.t.months (c.loop-k.k - 1) 0)) (drop c.loop-k.at c.args.s.now))
gap_read c = rest_number (gap_fine (get_or c.loop-k.t.months (c.loop-k.k - 1) 0)) c.args.s.now c.loop-k.at c.read_gap.ensures c.in_ok-n.ensures

pub returns-in_err-n : goal.returns-in_err-n
returns-in_err-n c =
    let h = c.loop-k.invariant in
    let e : c.from_residual.result ≡ Err c.in_err-n.field-0.0 = search rules in
    ap (λ r. answered r c.loop-k.t) e
    ∙ ap table_read (ap (joined h.prior) (rest_fault (gap_fine (get_or c.loop-k.t.months (c.loop-k.k - 1) 0)) c.args.s.now c.loop-k.at c.read_gap.ensures _ c.in_err-n.ensures) ∙ on_answer h c.loop-k-test.true (on_read h refl))

pub overflow_add-at : goal.overflow_add-at
overflow_add-at c = let h = c.loop-k.invariant in omega (arith, on_size h (on_read h (gap_read (goal.at.overflow_add-at c).In_ok-n)))

pub loop-k-preserved : goal.loop-k-preserved
loop-k-preserved c =
    let h = c.loop-k.invariant in
    let n = c.in_ok-n.n in
    let r = c.next_offset in
    -- the offset of the entry before, as it reaches `next_offset`
    let before : ℤ = get_or c.loop-k.t.offsets (c.loop-k.k - 1) (pos 0) in
    let small : mag before < 1000 = rw (offset_is h) (omega (arith, h.near)) in
    let there : to_z w32 (of_z w32 before) ≡ before = to_z-of_z {w = w32} (record { sfits = omega (arith, small) }) in
    let e : to_z w32 (of_z w32 r.result) ≡ offset_after before n = to_z-of_z {w = w32} (record { sfits = r.type_inv }) ∙ r.ensures ∙ ap (λ z. offset_after z n) there in
    rw e (on_entry h c.loop-k-test.true (on_read h (gap_read (goal.at.loop-k-preserved c).In_ok-n)))

pub returns-then-at-s : goal.returns-then-at-s
returns-then-at-s c = ap table_read (on_tail c.loop-k.invariant c.loop-k-test.false (omega arith))

pub returns-then-not-vouched_right : goal.returns-then-not-vouched_right
returns-then-not-vouched_right c =
    let no : vouched_right (get_or c.loop-k.t.months (c.args.count - 1) 0) c.args.vouched ≡ false = cc in
    ap table_read (on_month c.loop-k.invariant c.loop-k-test.false (omega arith) no)

pub returns : goal.returns
returns c =
    let yes : vouched_right (get_or c.loop-k.t.months (c.args.count - 1) 0) c.args.vouched ≡ true = cc in
    on_end c.loop-k.invariant c.loop-k-test.false (omega arith) yes
