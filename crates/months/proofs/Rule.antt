-- The months' lengths, as the code's branches find them.
-- Assumes nothing.
use mathlib.Core.Path.{◌≡◌, sym, ◌∙◌}
use mathlib.Core.Bool.{Bool}
use Prim.Native.Nat.{ℕ, ◌/◌, ◌%◌}
use lib.ListN.{get_or}
use Rattle.months.specs.Months.{leap_year, lengths, month_length}

pub length_is : (m : ℕ) {r : Bool} (leap : Bool) → r ≡ leap_year (m / 12) → r ≡ leap → get_or (lengths leap) (m % 12) 0 ≡ month_length m
unfolding month_length
length_is m leap p q = rw (sym p ∙ q)
