-- What a loop that stores a number keeps: what is left to store, after what is stored, is the whole.
-- Assumes nothing.
use Prim.Native.Nat.{ℕ, ◌<◌, ◌≤◌, ◌+◌, ◌/◌, ◌^◌}
use mathlib.Core.Path.{◌≡◌}
use mathlib.Core.List.{List}
use native.Mathlib.Omega.{arith}
use native.Mathlib.Numerals.{add-one}
use lib.Bits.{bit_and, bit_or}
use lib.ListN.{length, set, length-set}
use lib.Seq.{sets}
use Rattle.block.specs.Numbers.{number_bytes}
use Rattle.block.proofs.Numbers.{number_last, number_more}
use Rattle.block.proofs.Masks.{marked}

-- storing n from i on, after what is stored in `out`, makes `whole`, and ends at `end`
pub record Storing (n : ℕ) (out : List ℕ) (i : ℕ) (whole : List ℕ) (end size : ℕ) : Type 0 where
  pub small : n < 128 ^ 3
  pub long : length out ≡ size
  pub ends : i + length (number_bytes n) ≡ end
  pub makes : sets out i (number_bytes n) ≡ whole

module _ {n : ℕ} {out : List ℕ} {i : ℕ} {whole : List ℕ} {end size : ℕ} (h : Storing n out i whole end size) where
  pub one_more : 128 ≤ n → Storing (n / 128) (set out i (bit_or (bit_and n 127) 128)) (i + 1) whole end size
  one_more l =
      let e = number_more n l h.small in
      record { small = omega arith; long = simp length-set h.long; ends = omega (arith, rw e at h.ends); makes = rw (marked n, add-one i) (rw e at h.makes) }

  pub last : n < 128 → (i + 1 ≡ end) × (set out i n ≡ whole)
  last l = let e = number_last n l in (rw e at h.ends, rw e at h.makes)
