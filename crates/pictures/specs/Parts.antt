-- Facts that the contracts of private functions cite. A reader may skip this file.
-- Assumes nothing.
use Rattle.std.specs.Prelude.{◌≡◌, true, List, ℕ, ◌+◌, ◌≤◌, length}
use Rattle.digits.specs.Bytes.{bytes_at}
use Rattle.digits.specs.Decimals.{all_digits}

-- w digits from place i on
pub record Digits (s : List ℕ) (i w : ℕ) : Type 0 where
  pub inside : i + w ≤ length s
  pub all : all_digits (bytes_at s i w) ≡ true

-- digits where a text in full with its clock from place `at` on has its numbers, but for the date
pub record Numbers (s : List ℕ) (at : ℕ) : Type 0 where
  pub year : Digits s 0 4
  pub hour : Digits s at 2
  pub minute : Digits s (at + 3) 2
  pub second : Digits s (at + 6) 2
  pub micro : Digits s (at + 9) 6
