-- Offsets by months, of TAI from a scale: all that a theory of labels has to know of them. A table's and a uniform scale's are such.
-- To use: state laws of labels over any `Steps o`; `uniform_steps` serves a scale without leap seconds.
-- Assumes nothing.
use mathlib.Core.Path.{◌≡◌, refl}
use Prim.Native.Nat.{ℕ, ◌+◌, ◌≤◌}
use native.Mathlib.Omega.{arith}
use lib.IntN.{ℤ, pos}
use Rattle.laws.proofs.Difference.{up, down}

-- z is at most one away from x
abbrev pub Beside : ℤ → ℤ → Type 0
Beside x z = (up z + down x ≤ up x + down z + 1) × (up x + down z ≤ up z + down x + 1)

-- from a month to the next they move by at most one; they rest after December 9999, which is month 119,999, and are small
pub record Steps (o : ℕ → ℤ) : Type 0 where
  pub by_one : (m : ℕ) → Beside (o m) (o (m + 1))
  pub at_rest : o 120000 ≡ o 119999
  pub low : (m : ℕ) → (up (o m) ≤ 73) × (down (o m) ≤ 63)

pub uniform_steps : Steps (λ m. pos 0)
uniform_steps = record { by_one = λ m. omega arith; at_rest = refl; low = λ m. omega arith }
