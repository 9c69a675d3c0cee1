-- `block::block_in` meets its contract: what is stored, with what is still to come, is the block.
use Prim.Native.Nat.{ℕ, ◌+◌, ◌-◌, ◌<◌, ◌≤◌}
use mathlib.Core.Path.{◌≡◌, ap, ◌∙◌}
use mathlib.Core.List.{List, ◌++◌}
use native.Mathlib.Omega.{arith}
use borrow.Author.Rules.{rules}
use lib.ListN.{length, get_or}
use lib.IntN.{pos}
use mir.Syntax.{w32}
use mir.Val.{SFits}
use mir.Facts.{to_z-of_z}
use Rattle.leap.specs.declared.Table.{Table}
use Rattle.leap.proofs.Facts.{Accepted, accepted_to}
use Rattle.block.proofs.Blocks.{month_small, opened_room, opened_front, step_after, stored_first, stored_last, stored_small, stored_more}
use Rattle.block.specs.Numbers.{number_bytes}
use Rattle.block.specs.Blocks.{block_of}
use Rattle.block.proofs.block_in.Goals as goal
use Rattle.block.proofs.block_in.Goals.{After-open_block-start, After-step_number-n}

-- once the block is opened: its table, and the room in it
module _ (c : goal.After-open_block-start) where
  abbrev whole : Table
  whole = c.args.t.now

  right : Accepted whole
  right = accepted_to whole c.requires

  abbrev given : List ℕ
  given = c.args.bytes.now

  long : length given ≡ 196
  long = search rules

  room : c.open_block-start.result + length (number_bytes whole.count) ≤ length c.open_block-start.new.out
  room = opened_room c.args.form whole given long c.open_block-start.ensures.0 c.open_block-start.ensures.1

-- in a turn: the entry after entry k - 1 is entry k
module _ (c : After-step_number-n) where
  abbrev before : ℕ
  before = c.loop-k.k - 1

  next : before + 1 ≡ c.loop-k.k
  next = omega arith

  more : before + 1 < c.args.t.now.count
  more = omega arith

  number : c.step_number-n.result ≡ step_after c.args.t.now before
  number =
      let os = c.args.t.now.offsets in
      let here : SFits w32 (get_or os before (pos 0)) = search rules in
      let there : SFits w32 (get_or os c.loop-k.k (pos 0)) = search rules in
      rw next (simp to_z-of_z at c.step_number-n.ensures)

pub open_block-start-requires : goal.open_block-start-requires
open_block-start-requires c = (month_small (accepted_to _ c.requires), let long : length c.args.bytes.now ≡ 196 = search rules in omega arith)

pub overflow_cast-t : goal.overflow_cast-t
overflow_cast-t c = omega (arith, (accepted_to _ c.requires).few)

pub write_number-len-requires : goal.write_number-len-requires
write_number-len-requires c =
    let o = (goal.at.write_number-len-requires c).After-open_block-start in
    record { n_bound = omega (arith, (right o).few); n_in_bounds = room o }

pub loop-k-init : goal.loop-k-init
loop-k-init c =
    let o = (goal.at.loop-k-init c).After-open_block-start in
    let e = c.write_number-len.ensures in
    stored_first c.args.form (whole o) (given o) (long o) c.open_block-start.ensures.0 c.open_block-start.ensures.1 e.out_after (right o) e.value

pub write_number-len-requires-in-loop-k : goal.write_number-len-requires-in-loop-k
write_number-len-requires-in-loop-k c =
    let n = (goal.at.write_number-len-requires-in-loop-k c).After-step_number-n in
    let s = stored_small c.loop-k.invariant (more n) (number n) in
    record { n_bound = s.0; n_in_bounds = s.1 }

pub loop-k-preserved : goal.loop-k-preserved
loop-k-preserved c =
    let n = (goal.at.loop-k-preserved c).After-step_number-n in
    let e = c.write_number-len-in-loop-k.ensures in
    let next : c.loop-k.k + 1 - 1 ≡ c.loop-k.k - 1 + 1 = omega arith in
    rw next (stored_more c.loop-k.invariant (more n) (number n) e.value e.out_after)

pub returns : goal.returns
returns c =
    let h = c.loop-k.invariant in
    let o = (goal.at.returns c).After-open_block-start in
    let opened = opened_front c.args.form (whole o) (given o) (long o) c.open_block-start.ensures.0 c.open_block-start.ensures.1 c.write_number-len.ensures.out_after in
    stored_last h (omega arith) ∙ ap (λ x. x ++ block_of (whole o)) opened
