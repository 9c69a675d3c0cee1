-- Each export has the contract of the library's call, which `SettledInC` of `promises` settles: what C links is what is promised.
-- It stands here, since no crate can name what a static library exports.
-- Assumes nothing.
use mathlib.Core.Path.{◌≡◌, refl}
use Rattle.mundreff_c.proofs.mundreff_bulletin_c.Reads as c_bulletin_c
use Rattle.mundreff_c.proofs.mundreff_read_block.Reads as c_read_block
use Rattle.mundreff_c.proofs.mundreff_write_block.Reads as c_write_block
use Rattle.mundreff_c.proofs.mundreff_read_new_block.Reads as c_read_new_block
use Rattle.mundreff_c.proofs.mundreff_write_new_block.Reads as c_write_new_block
use Rattle.mundreff_c.proofs.mundreff_renew.Reads as c_renew
use Rattle.mundreff_c.proofs.mundreff_revert.Reads as c_revert
use Rattle.mundreff_c.proofs.mundreff_read_kernel.Reads as c_read_kernel
use Rattle.mundreff_c.proofs.mundreff_write_kernel.Reads as c_write_kernel
use Rattle.mundreff_c.proofs.mundreff_read_cards.Reads as c_read_cards
use Rattle.mundreff_c.proofs.mundreff_write_cards.Reads as c_write_cards
use Rattle.mundreff_c.proofs.mundreff_instant_of.Reads as c_instant_of
use Rattle.mundreff_c.proofs.mundreff_stamp_of.Reads as c_stamp_of
use Rattle.mundreff_c.proofs.mundreff_read_text.Reads as c_read_text
use Rattle.mundreff_c.proofs.mundreff_write_text.Reads as c_write_text
use Rattle.mundreff_c.proofs.mundreff_write_julian.Reads as c_write_julian
use Rattle.mundreff_c.proofs.mundreff_read_julian.Reads as c_read_julian
use Rattle.mundreff_c.proofs.mundreff_start.Reads as c_start
use Rattle.mundreff_c.proofs.mundreff_tick_in_place.Reads as c_tick_in_place
use Rattle.mundreff.proofs.mundreff_bulletin_c.Reads as bulletin_c_lem
use Rattle.mundreff.proofs.mundreff_read_block.Reads as read_block_lem
use Rattle.mundreff.proofs.mundreff_write_block.Reads as write_block_lem
use Rattle.mundreff.proofs.mundreff_read_new_block.Reads as read_new_block_lem
use Rattle.mundreff.proofs.mundreff_write_new_block.Reads as write_new_block_lem
use Rattle.mundreff.proofs.mundreff_renew.Reads as renew_lem
use Rattle.mundreff.proofs.mundreff_revert.Reads as revert_lem
use Rattle.mundreff.proofs.mundreff_read_kernel.Reads as read_kernel_lem
use Rattle.mundreff.proofs.mundreff_write_kernel.Reads as write_kernel_lem
use Rattle.mundreff.proofs.mundreff_read_cards.Reads as read_cards_lem
use Rattle.mundreff.proofs.mundreff_write_cards.Reads as write_cards_lem
use Rattle.mundreff.proofs.mundreff_instant_of.Reads as instant_of_lem
use Rattle.mundreff.proofs.mundreff_stamp_of.Reads as stamp_of_lem
use Rattle.mundreff.proofs.mundreff_read_text.Reads as read_text_lem
use Rattle.mundreff.proofs.mundreff_write_text.Reads as write_text_lem
use Rattle.mundreff.proofs.mundreff_write_julian.Reads as write_julian_lem
use Rattle.mundreff.proofs.mundreff_read_julian.Reads as read_julian_lem
use Rattle.mundreff.proofs.mundreff_start.Reads as start_lem
use Rattle.mundreff.proofs.mundreff_tick_in_place.Reads as tick_in_place_lem

-- they ask for the same, and allow the same
pub record Same {K A R E : Type 0} (pre : K → A → Type 0) (post : K → A → R → E → Type 0) (pre' : K → A → Type 0) (post' : K → A → R → E → Type 0) : Type 1 where
  pub asked : pre ≡ pre'
  pub allowed : post ≡ post'

pub record SameContracts : Type 1 where
  pub bulletin_c : Same c_bulletin_c.Pre c_bulletin_c.Post bulletin_c_lem.Pre bulletin_c_lem.Post
  pub read_block : Same c_read_block.Pre c_read_block.Post read_block_lem.Pre read_block_lem.Post
  pub write_block : Same c_write_block.Pre c_write_block.Post write_block_lem.Pre write_block_lem.Post
  pub read_new_block : Same c_read_new_block.Pre c_read_new_block.Post read_new_block_lem.Pre read_new_block_lem.Post
  pub write_new_block : Same c_write_new_block.Pre c_write_new_block.Post write_new_block_lem.Pre write_new_block_lem.Post
  pub renew : Same c_renew.Pre c_renew.Post renew_lem.Pre renew_lem.Post
  pub revert : Same c_revert.Pre c_revert.Post revert_lem.Pre revert_lem.Post
  pub read_kernel : Same c_read_kernel.Pre c_read_kernel.Post read_kernel_lem.Pre read_kernel_lem.Post
  pub write_kernel : Same c_write_kernel.Pre c_write_kernel.Post write_kernel_lem.Pre write_kernel_lem.Post
  pub read_cards : Same c_read_cards.Pre c_read_cards.Post read_cards_lem.Pre read_cards_lem.Post
  pub write_cards : Same c_write_cards.Pre c_write_cards.Post write_cards_lem.Pre write_cards_lem.Post
  pub instant_of : Same c_instant_of.Pre c_instant_of.Post instant_of_lem.Pre instant_of_lem.Post
  pub stamp_of : Same c_stamp_of.Pre c_stamp_of.Post stamp_of_lem.Pre stamp_of_lem.Post
  pub read_text : Same c_read_text.Pre c_read_text.Post read_text_lem.Pre read_text_lem.Post
  pub write_text : Same c_write_text.Pre c_write_text.Post write_text_lem.Pre write_text_lem.Post
  pub write_julian : Same c_write_julian.Pre c_write_julian.Post write_julian_lem.Pre write_julian_lem.Post
  pub read_julian : Same c_read_julian.Pre c_read_julian.Post read_julian_lem.Pre read_julian_lem.Post
  pub start : Same c_start.Pre c_start.Post start_lem.Pre start_lem.Post
  pub tick_in_place : Same c_tick_in_place.Pre c_tick_in_place.Post tick_in_place_lem.Pre tick_in_place_lem.Post

-- one and the same term
same : {K A R E : Type 0} {pre : K → A → Type 0} {post : K → A → R → E → Type 0} → Same pre post pre post
same = record { asked = refl; allowed = refl }

pub same_contracts : SameContracts
same_contracts =
    record {
      bulletin_c = same;
      read_block = same;
      write_block = same;
      read_new_block = same;
      write_new_block = same;
      renew = same;
      revert = same;
      read_kernel = same;
      write_kernel = same;
      read_cards = same;
      write_cards = same;
      instant_of = same;
      stamp_of = same;
      read_text = same;
      write_text = same;
      write_julian = same;
      read_julian = same;
      start = same;
      tick_in_place = same;
    }
