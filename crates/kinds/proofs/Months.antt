-- The last of the first m months is the m-th, or one before it.
-- Assumes nothing.
use Prim.Native.Nat.{ℕ, zero, suc, ◌-◌, ◌<◌}
use mathlib.Core.Path.{◌≡◌}
use mathlib.Core.Bool.{cond}
use native.Mathlib.Omega.{arith}
use Rattle.kinds.specs.Parts.{goes_on, month_on}

pub last_month : (from k c m : ℕ) → 0 < m → month_on from k c m ≡ cond (goes_on from k c m) m (month_on from k c (m - 1))
unfolding month_on
last_month from k c zero l = elim l [ ]
last_month from k c (suc m) l = let h : suc m - 1 ≡ m = omega arith in rw h
