-- Each call's own contract settles it: nothing is asked for, and the answer, with every byte of a lent buffer afterwards, is the one that the definition gives and no other.
-- `clock_start` and so on are the contracts themselves, as their crates pass them on: one that says less does not settle its call, and this breaks.
-- Assumes nothing.
use Rattle.std.specs.Prelude.{List, [], ℕ, ℤ}
use Rattle.answer.specs.Buffers.{written, buffer_after}
use Rattle.leap.specs.declared.Table.{Table}
use Rattle.leap.specs.Leap.{bulletin_c}
use Rattle.labels.specs.declared.Label.{Label}
use Rattle.labels.specs.declared.Reading.{Reading}
use Rattle.stamp.specs.Marks.{instant_of_marked, stamp_of_marked}
use Rattle.clock.specs.Marks.{start_marked, tick_marked}
use Rattle.block.specs.Blocks.{write_block, write_block_after, write_new_block, write_new_block_after}
use Rattle.block.specs.Reading.{read_block, read_new_block}
use Rattle.block.specs.Moves.{renew, renew_after, revert, revert_after}
use Rattle.kernel.specs.Reading.{read_kernel}
use Rattle.kernel.specs.Writing.{write_kernel, write_kernel_after}
use Rattle.cards.specs.Reading.{read_cards}
use Rattle.cards.specs.Writing.{write_cards, write_cards_after}
use Rattle.text.specs.Text.{write_text_after}
use Rattle.text.specs.Marks.{read_text_marked, write_text_marked}
use Rattle.julian.specs.declared.JulianDate.{JulianDate}
use Rattle.julian.specs.Marks.{write_julian_marked, read_julian_marked}
use Rattle.listing.specs.Listing.{listed}
use Rattle.laws.specs.Settles.{◌&◌, Lent, Shown, ◌becomes◌, Returns, Leaves}
use Rattle.leap.proofs.bulletin_c.Reads as leap_bulletin_c
use Rattle.block.proofs.read_block.Reads as block_read_block
use Rattle.block.proofs.write_block.Reads as block_write_block
use Rattle.block.proofs.read_new_block.Reads as block_read_new_block
use Rattle.block.proofs.write_new_block.Reads as block_write_new_block
use Rattle.block.proofs.renew.Reads as block_renew
use Rattle.block.proofs.revert.Reads as block_revert
use Rattle.kernel.proofs.read_kernel.Reads as kernel_read_kernel
use Rattle.kernel.proofs.write_kernel.Reads as kernel_write_kernel
use Rattle.cards.proofs.read_cards.Reads as cards_read_cards
use Rattle.cards.proofs.write_cards.Reads as cards_write_cards
use Rattle.stamp.proofs.instant_of.Reads as stamp_instant_of
use Rattle.stamp.proofs.stamp_of.Reads as stamp_stamp_of
use Rattle.text.proofs.read_text.Reads as text_read_text
use Rattle.text.proofs.write_text.Reads as text_write_text
use Rattle.julian.proofs.write_julian.Reads as julian_write_julian
use Rattle.julian.proofs.read_julian.Reads as julian_read_julian
use Rattle.clock.proofs.start.Reads as clock_start
use Rattle.clock.proofs.tick.Reads as clock_tick
use Rattle.listing.proofs.list.Reads as listing_list

-- the calls of the scope and of the requests, and what `ticks` prints for an input
pub record Settled : Type 0 where
  pub bulletin_c_lem : Returns leap_bulletin_c.Pre leap_bulletin_c.Post tt bulletin_c
  pub read_block_lem : (s : Shown (List ℕ)) → Returns block_read_block.Pre block_read_block.Post (s & tt) (read_block s.now)
  pub write_block_lem : (t : Shown Table) (out : Lent (List ℕ)) →
      Leaves block_write_block.Pre block_write_block.Post (t & out & tt) (λ bytes. t & out becomes bytes & tt)
      (write_block t.now out.now, write_block_after t.now out.now)
  pub read_new_block_lem : (s : Shown (List ℕ)) → Returns block_read_new_block.Pre block_read_new_block.Post (s & tt) (read_new_block s.now)
  pub write_new_block_lem : (t : Shown Table) (out : Lent (List ℕ)) →
      Leaves block_write_new_block.Pre block_write_new_block.Post (t & out & tt) (λ bytes. t & out becomes bytes & tt)
      (write_new_block t.now out.now, write_new_block_after t.now out.now)
  pub renew : (s : Shown (List ℕ)) (v : ℕ) (out : Lent (List ℕ)) →
      Leaves block_renew.Pre block_renew.Post (s & v & out & tt) (λ bytes. s & v & out becomes bytes & tt)
      (renew s.now v out.now, renew_after s.now v out.now)
  pub revert : (s : Shown (List ℕ)) (out : Lent (List ℕ)) →
      Leaves block_revert.Pre block_revert.Post (s & out & tt) (λ bytes. s & out becomes bytes & tt)
      (revert s.now out.now, revert_after s.now out.now)
  pub read_kernel_lem : (s : Shown (List ℕ)) → Returns kernel_read_kernel.Pre kernel_read_kernel.Post (s & tt) (read_kernel s.now)
  pub write_kernel_lem : (t : Shown Table) (out : Lent (List ℕ)) →
      Leaves kernel_write_kernel.Pre kernel_write_kernel.Post (t & out & tt) (λ bytes. t & out becomes bytes & tt)
      (write_kernel t.now out.now, write_kernel_after t.now out.now)
  pub read_cards_lem : (s : Shown (List ℕ)) → Returns cards_read_cards.Pre cards_read_cards.Post (s & tt) (read_cards s.now)
  pub write_cards_lem : (t : Shown Table) (out : Lent (List ℕ)) →
      Leaves cards_write_cards.Pre cards_write_cards.Post (t & out & tt) (λ bytes. t & out becomes bytes & tt)
      (write_cards t.now out.now, write_cards_after t.now out.now)
  pub instant_of_lem : (t : Shown Table) (scale : ℕ) (r : Reading) → Returns stamp_instant_of.Pre stamp_instant_of.Post (t & scale & r & tt) (instant_of_marked t.now scale r)
  pub stamp_of_lem : (t : Shown Table) (instant : ℤ) (scale : ℕ) → Returns stamp_stamp_of.Pre stamp_stamp_of.Post (t & instant & scale & tt) (stamp_of_marked t.now instant scale)
  pub read_text_lem : (t : Shown Table) (scale : ℕ) (text : Shown (List ℕ)) → Returns text_read_text.Pre text_read_text.Post (t & scale & text & tt) (read_text_marked t.now scale text.now)
  pub write_text_lem : (t : Shown Table) (instant : ℤ) (picture scale digits : ℕ) (out : Lent (List ℕ)) →
      Leaves text_write_text.Pre text_write_text.Post (t & instant & picture & scale & digits & out & tt) (λ bytes. t & instant & picture & scale & digits & out becomes bytes & tt)
      (write_text_marked t.now instant picture scale digits out.now, write_text_after t.now instant picture scale digits out.now)
  pub write_julian_lem : (t : Shown Table) (instant : ℤ) (scale : ℕ) → Returns julian_write_julian.Pre julian_write_julian.Post (t & instant & scale & tt) (write_julian_marked t.now instant scale)
  pub read_julian_lem : (t : Shown Table) (scale : ℕ) (date : JulianDate) → Returns julian_read_julian.Pre julian_read_julian.Post (t & scale & date & tt) (read_julian_marked t.now scale date)
  pub clock_starts : (t : Shown Table) → Returns clock_start.Pre clock_start.Post (t & tt) (start_marked t.now)
  pub clock_ticks : (t : Shown Table) (l : Label) → Returns clock_tick.Pre clock_tick.Post (t & l & tt) (tick_marked t.now l)
  pub list : (input : Shown (List ℕ)) (out : Lent (List ℕ)) →
      Leaves listing_list.Pre listing_list.Post (input & out & tt) (λ bytes. input & out becomes bytes & tt)
      (written [] (listed input.now) out.now, buffer_after [] (listed input.now) out.now)
