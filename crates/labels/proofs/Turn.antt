-- The turn of a month: its last minute has 59 to 61 seconds, and is longer or shorter by what the offset moves to the next month.
-- Assumes nothing.
use mathlib.Core.Path.{◌≡◌, refl}
use mathlib.Core.Bool.{Bool, true, false, cond}
use Prim.Native.Nat.{ℕ, ◌+◌, ◌≤◌}
use native.Mathlib.Omega.{arith}
use lib.IntN.{ℤ}
use lib.Signed.{lt_z}
use Rattle.laws.proofs.Cases.{pick}
use Rattle.laws.proofs.Difference.{up, down, lt_z_true, lt_z_false}
use Rattle.laws.proofs.Offsets.{Beside}
use Rattle.labels.specs.Labels.{last_minute}

module _ (x z : ℤ) (n : Beside x z) where
  pub turn : up z + down x + 60 ≡ last_minute x z + (up x + down z)
  unfolding last_minute
  turn = go (lt_z x z) refl (lt_z z x) refl
    where
      go : (a : Bool) → lt_z x z ≡ a → (b : Bool) → lt_z z x ≡ b → up z + down x + 60 ≡ cond a 61 (cond b 59 60) + (up x + down z)
      go true p b q = omega (arith, n, lt_z_true)
      go false p true q = omega (arith, n, lt_z_true)
      go false p false q = omega (arith, n, lt_z_false)

-- whatever the offsets are
pub last_range : (x z : ℤ) → (59 ≤ last_minute x z) × (last_minute x z ≤ 61)
unfolding last_minute
last_range x z =
    pick (λ (n : ℕ). (59 ≤ n) × (n ≤ 61)) (lt_z x z) (λ e. omega arith) (λ e. pick (λ (n : ℕ). (59 ≤ n) × (n ≤ 61)) (lt_z z x) (λ e. omega arith) (λ e. omega arith))
