-- A part of a whole as a double, and the part that a double stands for. `num x` / `den x` is the size of a finite double, exactly.
-- Assumes nothing.
use Rattle.std.specs.Prelude.{ℕ, ◌+◌, ◌*◌, ◌/◌, ◌%◌, ◌^◌, ◌<◌, ◌≤◌, Bool, false, cond, not, ◌&&◌, pos, ◌==◌, nat_le, nat_lt, Float}
use Rattle.std.specs.Float.{fin, binary64}
use Rattle.std.specs.Float.Ieee.{of_int, div, le, lt}
use Rattle.std.specs.Float.Ieee.Scale.{finite}
use Rattle.std.specs.Float.Ieee.Positive.{num, den}

-- `fraction_of`: one division of doubles, rounded once
unfoldable pub fraction_of : ℕ → ℕ → Float
fraction_of whole part = div binary64 (of_int binary64 (pos part)) (of_int binary64 (pos whole))

-- `is_fraction`: at least 0 and below 1. Minus zero is in, infinities and NaN are not
unfoldable pub is_fraction : Float → Bool
is_fraction x = le (fin false 0 (pos 0)) x && lt x (fin false 1 (pos 0))

-- `is_half`: a whole number and a half, of either sign: twice it is whole, and it is not. Infinities and NaN, whose `num` is 0, are not
unfoldable pub is_half : Float → Bool
is_half x = 2 * num x % den x == 0 && not (num x % den x == 0)

-- the part of the whole that is nearest to the size of x, a tie to the larger: the whole number in size * whole + 1 / 2
unfoldable pub nearest_of : ℕ → Float → ℕ
nearest_of whole x = (2 * (num x * whole) + den x) / (2 * den x)

-- the wholes factor * 2 ^ shift that are served
abbrev pub is_whole : ℕ → ℕ → Bool
is_whole factor shift = nat_lt factor (2 ^ 37) && nat_le shift 26

-- finite, and above -1 and below 1
unfoldable pub size_below_one : Float → Bool
size_below_one x = finite x && nat_lt (num x) (den x)

-- `nearest_of`: of such a double and such a whole, and else 0
unfoldable pub nearest_at : ℕ → ℕ → Float → ℕ
nearest_at factor shift x = cond (size_below_one x && is_whole factor shift) (nearest_of (factor * 2 ^ shift) x) 0

-- ---- what is promised of them

-- the size of x and part / whole differ by at most 2 ^ -54
pub record Close (whole : ℕ) (x : Float) (part : ℕ) : Type 0 where
  pub above : 2 ^ 54 * (num x * whole) ≤ 2 ^ 54 * (part * den x) + whole * den x
  pub under : 2 ^ 54 * (part * den x) ≤ 2 ^ 54 * (num x * whole) + whole * den x

-- u is the part of the whole nearest to the size of x, a tie to the larger
abbrev pub Nearest : ℕ → Float → ℕ → Type 0
Nearest whole x u = (2 * (u * den x) ≤ 2 * (num x * whole) + den x) × (2 * (num x * whole) < 2 * (u * den x) + den x)
