-- Every contract is an equation for the number and all that is written; a writer's has one for the bytes beside it.
-- Assumes nothing.
use mathlib.Core.Path.{◌≡◌, ap}
use Rattle.laws.specs.Settles.{Settles}
use Rattle.laws.proofs.Settles.{equal, each, beside, beside_three}
use Rattle.mundreff.proofs.Settled.{write_text_settled}
use Rattle.promises.specs.SettledInC.{SettledInC}

-- an equation for what is left, where nothing is answered
left : {W : Type 0} {w : W} → Settles Unit (λ (a : Unit {0} × W). a.1 ≡ w) (tt, w)
left = record { asks_nothing = tt; allows_it_alone = λ a. (λ p. ap (λ x. (tt, x)) p, λ p. ap (λ x. x.1) p) }

pub settled_in_c : SettledInC
settled_in_c =
    record {
      table_of = λ words k. equal;
      table_stored = λ t out k. left;
      bulletin_c_lem = λ table k. each;
      read_block_lem = λ block place table k. equal;
      write_block_lem = λ table out length k. beside;
      read_new_block_lem = λ block place table k. equal;
      write_new_block_lem = λ table out length k. beside;
      renews = λ block v out place length k. beside_three;
      reverts = λ block out place length k. beside_three;
      read_kernel_lem = λ file place table k. equal;
      write_kernel_lem = λ table out length k. beside;
      read_cards_lem = λ file place table k. equal;
      write_cards_lem = λ table out length k. beside;
      instant_of_lem = λ table stamp instant marks k. equal;
      stamp_of_lem = λ table x scale stamp marks k. equal;
      read_text_lem = λ table scale text instant stamp marks k. equal;
      write_text_lem = write_text_settled;
      write_julian_lem = λ table x scale midnight fraction marks k. equal;
      read_julian_lem = λ table scale m f instant marks k. equal;
      clock_starts = λ table label marks k. equal;
      clock_ticks_in_place = λ table label marks k. equal;
    }
