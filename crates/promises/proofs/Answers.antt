-- The answers in the scope's numbers.
-- Assumes nothing.
use mathlib.Core.Path.{refl}
use Rattle.answer.proofs.Orders.{number_some, numbers_differ}
use Rattle.words.specs.Words.{table_words}
use Rattle.words.proofs.Words.{undone}
use Rattle.promises.specs.Answers.{Answers}

pub answers : Answers
unfolding table_words
answers =
    record {
      a_table_in_c = refl;
      minus_one_in_c = refl;
      table_and_words = undone;
      stamp_and_numbers = λ z. (refl, refl);
      label_and_numbers = λ l. refl;
      zero_in_the_rest = λ why. record { writing = refl; an_instant = refl; a_stamp = refl; a_label = refl; a_text = refl; a_pair = refl; a_block = λ place. refl; a_move = λ place. refl; a_block_in_c = λ place. refl };
      success_as_it_is =
          record { writing = λ n. refl; an_instant = λ x. refl; a_stamp = λ z. refl; a_label = λ l. refl; a_text = λ x z. refl; a_pair = λ p. refl; a_block = λ t. refl; a_move = λ n. refl };
      in_a_row = record { a_stamp = λ z. refl; a_label = λ l. refl; a_text = λ x z. refl; a_pair = λ p. refl };
      marks_behind = λ b. record { an_instant = λ a. refl; a_stamp = λ a. refl; a_text = λ a. refl; writing_text = λ a. refl; a_label = λ a. refl; a_pair = λ a. refl };
      beyond_is_one = (refl, refl);
      numbers_differ = numbers_differ;
      none_is_success = number_some;
    }
