-- Shifts and masks of a group of seven bits, as arithmetic.
-- Assumes nothing.
use Prim.Native.Nat.{ℕ, ◌+◌, ◌*◌, ◌%◌, ◌<◌}
use mathlib.Core.Path.{◌≡◌, ap, ◌∙◌}
use native.Mathlib.Omega.{arith}
use lib.Bits.{bit_and, bit_or, and_mask, or_shifted, or_shifted_r}

-- the low seven bits
pub low_bits : (n : ℕ) → bit_and n 127 ≡ n % 128
low_bits n = and_mask n 7

-- a group with the mark for more
pub marked : (n : ℕ) → bit_or (bit_and n 127) 128 ≡ 128 + n % 128
marked n = rw (low_bits n) (or_shifted_r 1 7 (n % 128) (omega arith))

-- a group below a number
pub joined : (high low : ℕ) → high < 128 * 128 → low < 128 → bit_or (high * 128 % 4294967296) low ≡ high * 128 + low
joined high low h l =
    let e : high * 128 % 4294967296 ≡ high * 128 = omega arith in
    ap (λ (x : ℕ). bit_or x low) e ∙ or_shifted high 7 low l
