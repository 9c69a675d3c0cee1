-- The desk's blocks, the edges, the rows of the new form and the moves are right.
-- Assumes nothing.
use mathlib.Core.Path.{refl}
use Rattle.laws.specs.Tests.{eq_z, all_below, All}
use Rattle.leap.specs.Leap.{one_apart, place_right, vouched_right, accepted}
use Rattle.leap.specs.Entries.{entries_from, table_of}
use Rattle.block.specs.Numbers.{groups_of}
use Rattle.block.specs.Blocks.{step_bytes, block_of}
use Rattle.block.specs.Reading.{read_groups, read_entries, in_block, in_vouched}
use Rattle.block.specs.Desk.{BlockRight, named, edges, renewed, MovesRight}

pub named_right : All BlockRight named
unfolding vouched_right entries_from table_of groups_of read_groups step_bytes block_of read_entries in_block
named_right = (refl, ((refl, refl), ((refl, refl), ((refl, refl), tt))))

pub edged : All BlockRight edges
unfolding vouched_right entries_from table_of groups_of read_groups step_bytes block_of read_entries in_block
edged = ((refl, refl), ((refl, refl), (refl, (refl, (refl, (refl, (refl, (refl, (refl, tt)))))))))

pub renewed_right : All BlockRight renewed
unfolding vouched_right entries_from table_of groups_of read_groups step_bytes block_of read_entries in_block in_vouched
renewed_right = (refl, ((refl, refl), ((refl, refl), ((refl, refl), (refl, (refl, (refl, (refl, (refl, (refl, (refl, (refl, (refl, (refl, tt))))))))))))))

pub moves_right : MovesRight
unfolding eq_z all_below one_apart place_right vouched_right accepted entries_from table_of groups_of read_groups step_bytes block_of read_entries in_block in_vouched
moves_right = record {
  renew_refused = λ buffer. (refl, refl);
  vouched_there = (refl, refl);
  and_back = (refl, refl);
  renew_cut = λ v buffer. refl;
  revert_refused = λ buffer. refl;
  no_room = (refl, refl);
}
