-- Every call's contract is an equation, or one for the answer and one for the bytes.
-- Assumes nothing.
use Rattle.laws.proofs.Settles.{equal, each}
use Rattle.promises.specs.Settled.{Settled}

pub settled : Settled
settled =
    record {
      bulletin_c_lem = λ k. equal;
      read_block_lem = λ s k. equal;
      write_block_lem = λ t out k. each;
      read_new_block_lem = λ s k. equal;
      write_new_block_lem = λ t out k. each;
      renew = λ s v out k. each;
      revert = λ s out k. each;
      read_kernel_lem = λ s k. equal;
      write_kernel_lem = λ t out k. each;
      read_cards_lem = λ s k. equal;
      write_cards_lem = λ t out k. each;
      instant_of_lem = λ t scale r k. equal;
      stamp_of_lem = λ t x scale k. equal;
      read_text_lem = λ t scale s k. equal;
      write_text_lem = λ t x p scale d out k. each;
      write_julian_lem = λ t x scale k. equal;
      read_julian_lem = λ t scale date k. equal;
      clock_starts = λ t k. equal;
      clock_ticks = λ t l k. equal;
      list = λ input out k. each;
    }
