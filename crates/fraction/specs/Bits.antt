-- What the contracts of private functions cite: the fields of a double's bit pattern. A reader may skip this file.
-- Assumes nothing.
use Rattle.std.specs.Prelude.{ℕ, ◌+◌, ◌/◌, ◌%◌, ◌^◌}

abbrev pub field_of : ℕ → ℕ
field_of bits = bits % 2 ^ 63 / 2 ^ 52

-- with the leading one, which is not among the bits
abbrev pub digits_of : ℕ → ℕ
digits_of bits = bits % 2 ^ 52 + 2 ^ 52
