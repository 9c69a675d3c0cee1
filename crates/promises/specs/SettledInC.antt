-- Each call of the C interface is settled by its own contract, over what is handed over as words: the number that it returns, and everything that it writes; so are a table and its words.
-- Assumes nothing.
use Rattle.std.specs.Prelude.{List, ℕ, ℤ, Float}
use Rattle.answer.specs.Buffers.{written_results}
use Rattle.leap.specs.declared.Table.{Table}
use Rattle.leap.specs.Leap.{bulletin_c}
use Rattle.stamp.specs.Marks.{instant_of_marked, stamp_of_marked}
use Rattle.clock.specs.Marks.{start_marked, tick_marked}
use Rattle.block.specs.Blocks.{write_block, write_block_after, write_new_block, write_new_block_after}
use Rattle.block.specs.Reading.{read_block, read_new_block}
use Rattle.block.specs.Moves.{move_results, renew, renew_after, revert, revert_after}
use Rattle.kernel.specs.Reading.{read_kernel}
use Rattle.kernel.specs.Writing.{write_kernel, write_kernel_after}
use Rattle.cards.specs.Reading.{read_cards}
use Rattle.cards.specs.Writing.{write_cards, write_cards_after}
use Rattle.text.specs.Text.{write_text_after}
use Rattle.text.specs.Marks.{read_text_marked, write_text_marked}
use Rattle.julian.specs.Marks.{write_julian_marked, read_julian_marked}
use Rattle.words.specs.Words.{table_from, table_words}
use Rattle.mundreff.specs.Answers.{table_numbers, instant_with_marks, stamp_with_marks, text_with_marks, length_with_marks, label_with_marks, pair_with_marks}
use Rattle.mundreff.specs.Calls.{label_from, scale_from, reading_from, pair}
use Rattle.laws.specs.Settles.{◌&◌, Lent, Shown, ◌becomes◌, Returns, Leaves, LeavesTwo, LeavesThree, also, also_three}
use Rattle.words.proofs.table_of.Reads as words_table_of
use Rattle.words.proofs.store_table.Reads as words_store_table
use Rattle.mundreff.proofs.mundreff_bulletin_c.Reads as c_bulletin_c
use Rattle.mundreff.proofs.mundreff_read_block.Reads as c_read_block
use Rattle.mundreff.proofs.mundreff_write_block.Reads as c_write_block
use Rattle.mundreff.proofs.mundreff_read_new_block.Reads as c_read_new_block
use Rattle.mundreff.proofs.mundreff_write_new_block.Reads as c_write_new_block
use Rattle.mundreff.proofs.mundreff_renew.Reads as c_renew
use Rattle.mundreff.proofs.mundreff_revert.Reads as c_revert
use Rattle.mundreff.proofs.mundreff_read_kernel.Reads as c_read_kernel
use Rattle.mundreff.proofs.mundreff_write_kernel.Reads as c_write_kernel
use Rattle.mundreff.proofs.mundreff_read_cards.Reads as c_read_cards
use Rattle.mundreff.proofs.mundreff_write_cards.Reads as c_write_cards
use Rattle.mundreff.proofs.mundreff_instant_of.Reads as c_instant_of
use Rattle.mundreff.proofs.mundreff_stamp_of.Reads as c_stamp_of
use Rattle.mundreff.proofs.mundreff_read_text.Reads as c_read_text
use Rattle.mundreff.proofs.mundreff_write_text.Reads as c_write_text
use Rattle.mundreff.proofs.mundreff_write_julian.Reads as c_write_julian
use Rattle.mundreff.proofs.mundreff_read_julian.Reads as c_read_julian
use Rattle.mundreff.proofs.mundreff_start.Reads as c_start
use Rattle.mundreff.proofs.mundreff_tick_in_place.Reads as c_tick_in_place

pub record SettledInC : Type 0 where
  -- a table out of its words, and back
  pub table_of : (words : Shown (List ℕ)) → Returns words_table_of.Pre words_table_of.Post (words & tt) (table_from words.now)
  pub table_stored : (t : Shown Table) (out : Lent (List ℕ)) →
      Leaves words_store_table.Pre words_store_table.Post (t & out & tt) (λ words. t & out becomes words & tt) (tt, table_words t.now)
  pub bulletin_c_lem : (table : Lent (List ℕ)) → Leaves c_bulletin_c.Pre c_bulletin_c.Post (table & tt) (λ words. table becomes words & tt) (0, table_words bulletin_c)
  pub read_block_lem : (block : Shown (List ℕ)) (place : Lent ℕ) (table : Lent (List ℕ)) →
      LeavesTwo c_read_block.Pre c_read_block.Post (block & place & table & tt) (λ at words. block & place becomes at & table becomes words & tt)
      (table_numbers (read_block block.now))
  pub write_block_lem : (table : Shown (List ℕ)) (out : Lent (List ℕ)) (length : Lent ℕ) →
      LeavesTwo c_write_block.Pre c_write_block.Post (table & out & length & tt) (λ n bytes. table & out becomes bytes & length becomes n & tt)
      (also (written_results (write_block (table_from table.now) out.now)) (write_block_after (table_from table.now) out.now))
  pub read_new_block_lem : (block : Shown (List ℕ)) (place : Lent ℕ) (table : Lent (List ℕ)) →
      LeavesTwo c_read_new_block.Pre c_read_new_block.Post (block & place & table & tt) (λ at words. block & place becomes at & table becomes words & tt)
      (table_numbers (read_new_block block.now))
  pub write_new_block_lem : (table : Shown (List ℕ)) (out : Lent (List ℕ)) (length : Lent ℕ) →
      LeavesTwo c_write_new_block.Pre c_write_new_block.Post (table & out & length & tt) (λ n bytes. table & out becomes bytes & length becomes n & tt)
      (also (written_results (write_new_block (table_from table.now) out.now)) (write_new_block_after (table_from table.now) out.now))
  pub renews : (block : Shown (List ℕ)) (vouched : ℕ) (out : Lent (List ℕ)) (place length : Lent ℕ) →
      LeavesThree c_renew.Pre c_renew.Post (block & vouched & out & place & length & tt)
      (λ at n bytes. block & vouched & out becomes bytes & place becomes at & length becomes n & tt)
      (also_three (move_results (renew block.now vouched out.now)) (renew_after block.now vouched out.now))
  pub reverts : (block : Shown (List ℕ)) (out : Lent (List ℕ)) (place length : Lent ℕ) →
      LeavesThree c_revert.Pre c_revert.Post (block & out & place & length & tt) (λ at n bytes. block & out becomes bytes & place becomes at & length becomes n & tt)
      (also_three (move_results (revert block.now out.now)) (revert_after block.now out.now))
  pub read_kernel_lem : (file : Shown (List ℕ)) (place : Lent ℕ) (table : Lent (List ℕ)) →
      LeavesTwo c_read_kernel.Pre c_read_kernel.Post (file & place & table & tt) (λ at words. file & place becomes at & table becomes words & tt)
      (table_numbers (read_kernel file.now))
  pub write_kernel_lem : (table : Shown (List ℕ)) (out : Lent (List ℕ)) (length : Lent ℕ) →
      LeavesTwo c_write_kernel.Pre c_write_kernel.Post (table & out & length & tt) (λ n bytes. table & out becomes bytes & length becomes n & tt)
      (also (written_results (write_kernel (table_from table.now) out.now)) (write_kernel_after (table_from table.now) out.now))
  pub read_cards_lem : (file : Shown (List ℕ)) (place : Lent ℕ) (table : Lent (List ℕ)) →
      LeavesTwo c_read_cards.Pre c_read_cards.Post (file & place & table & tt) (λ at words. file & place becomes at & table becomes words & tt)
      (table_numbers (read_cards file.now))
  pub write_cards_lem : (table : Shown (List ℕ)) (out : Lent (List ℕ)) (length : Lent ℕ) →
      LeavesTwo c_write_cards.Pre c_write_cards.Post (table & out & length & tt) (λ n bytes. table & out becomes bytes & length becomes n & tt)
      (also (written_results (write_cards (table_from table.now) out.now)) (write_cards_after (table_from table.now) out.now))
  pub instant_of_lem : (table stamp : Shown (List ℕ)) (instant : Lent ℤ) (marks : Lent ℕ) →
      LeavesTwo c_instant_of.Pre c_instant_of.Post (table & stamp & instant & marks & tt) (λ x m. table & stamp & instant becomes x & marks becomes m & tt)
      (instant_with_marks (instant_of_marked (table_from table.now) (scale_from stamp.now) (reading_from stamp.now)))
  pub stamp_of_lem : (table : Shown (List ℕ)) (instant : ℤ) (scale : ℕ) (stamp : Lent (List ℕ)) (marks : Lent ℕ) →
      LeavesTwo c_stamp_of.Pre c_stamp_of.Post (table & instant & scale & stamp & marks & tt) (λ words m. table & instant & scale & stamp becomes words & marks becomes m & tt)
      (stamp_with_marks (stamp_of_marked (table_from table.now) instant scale))
  pub read_text_lem : (table : Shown (List ℕ)) (scale : ℕ) (text : Shown (List ℕ)) (instant : Lent ℤ) (stamp : Lent (List ℕ)) (marks : Lent ℕ) →
      LeavesThree c_read_text.Pre c_read_text.Post (table & scale & text & instant & stamp & marks & tt)
      (λ x words m. table & scale & text & instant becomes x & stamp becomes words & marks becomes m & tt)
      (text_with_marks (read_text_marked (table_from table.now) scale text.now))
  pub write_text_lem : (table : Shown (List ℕ)) (instant : ℤ) (picture scale digits : ℕ) (out : Lent (List ℕ)) (length marks : Lent ℕ) →
      LeavesThree c_write_text.Pre c_write_text.Post (table & instant & picture & scale & digits & out & length & marks & tt)
      (λ n m bytes. table & instant & picture & scale & digits & out becomes bytes & length becomes n & marks becomes m & tt)
      (also_three (length_with_marks (write_text_marked (table_from table.now) instant picture scale digits out.now)) (write_text_after (table_from table.now) instant picture scale digits out.now))
  pub write_julian_lem : (table : Shown (List ℕ)) (instant : ℤ) (scale : ℕ) (midnight fraction : Lent Float) (marks : Lent ℕ) →
      LeavesThree c_write_julian.Pre c_write_julian.Post (table & instant & scale & midnight & fraction & marks & tt)
      (λ d f m. table & instant & scale & midnight becomes d & fraction becomes f & marks becomes m & tt)
      (pair_with_marks (write_julian_marked (table_from table.now) instant scale))
  pub read_julian_lem : (table : Shown (List ℕ)) (scale : ℕ) (midnight fraction : Float) (instant : Lent ℤ) (marks : Lent ℕ) →
      LeavesTwo c_read_julian.Pre c_read_julian.Post (table & scale & midnight & fraction & instant & marks & tt)
      (λ x m. table & scale & midnight & fraction & instant becomes x & marks becomes m & tt)
      (instant_with_marks (read_julian_marked (table_from table.now) scale (pair midnight fraction)))
  pub clock_starts : (table : Shown (List ℕ)) (label : Lent (List ℕ)) (marks : Lent ℕ) →
      LeavesTwo c_start.Pre c_start.Post (table & label & marks & tt) (λ words m. table & label becomes words & marks becomes m & tt)
      (label_with_marks (start_marked (table_from table.now)))
  pub clock_ticks_in_place : (table : Shown (List ℕ)) (label : Lent (List ℕ)) (marks : Lent ℕ) →
      LeavesTwo c_tick_in_place.Pre c_tick_in_place.Post (table & label & marks & tt) (λ words m. table & label becomes words & marks becomes m & tt)
      (label_with_marks (tick_marked (table_from table.now) (label_from 0 label.now)))
