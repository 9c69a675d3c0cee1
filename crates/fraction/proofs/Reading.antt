-- The part that a size below 1 is nearest to, from its bit pattern's field and digits: a product that is shifted, and halved.
-- Assumes nothing.
use Rattle.std.proofs.Common.{◌≡◌, ℕ, ◌+◌, ◌-◌, ◌*◌, ◌/◌, ◌%◌, ◌^◌, ◌<◌, ◌≤◌, sym, ap, ◌∙◌, lt_of_lt_of_le, le_of_lt, mul_assoc, mul_comm, mul-le-mul, mul-le-mul_left, mul_right_comm, mul_left_comm, arith, pow_pos, pow_mono, pow-add, shl_lt, shr-shr, min}
use native.Mathlib.Nat.{add-div_right, div-div-eq-div-mul, div-eq_of_lt}
use lib.Pow.{shr_le}
use lib.Ieee.{Float, binary64, of_bits}
use lib.Ieee.Nearest.{div_same}
use lib.Ieee.Positive.{num, den, den_pos}
use Rattle.fraction.specs.Fraction.{nearest_of}
use Rattle.fraction.specs.Bits.{field_of, digits_of}
use Rattle.fraction.proofs.Pattern.{smaller, pattern, by_digits}

-- ---- what the shift leaves of the product of digits and factor fits

pub halves_few : (q f t : ℕ) → q < 2 ^ 53 → f < 2 ^ 37 → 26 ≤ t → q * f / 2 ^ t + 1 < 2 ^ 64
halves_few q f t h k l =
    let q' : q ≤ 2 ^ 53 - 1 = omega arith in
    let f' : f ≤ 2 ^ 37 - 1 = omega arith in
    let back : 26 + (t - 26) ≡ t = omega arith in
    let parts : q * f / 2 ^ 26 / 2 ^ (t - 26) ≡ q * f / 2 ^ t = shr-shr (q * f) 26 (t - 26) ∙ ap (λ (z : ℕ). q * f / 2 ^ z) back in
    omega (arith, mul-le-mul q' f', shr_le (q * f / 2 ^ 26) (t - 26), parts)

-- ---- rounding by halves: the whole part of z / w + 1 / 2

abbrev pub rounded : ℕ → ℕ
rounded h = h / 2 + min 1 (h % 2)

plus_one : (h : ℕ) → (h + 1) / 2 ≡ rounded h
plus_one h = omega arith

halves : (z w : ℕ) → 0 < w → (z + w) / (2 * w) ≡ rounded (z / w)
halves z w W = ap (λ (k : ℕ). (z + w) / k) (mul_comm 2 w) ∙ sym (div-div-eq-div-mul (z + w) w 2) ∙ ap (λ (k : ℕ). k / 2) (add-div_right z W) ∙ plus_one (z / w)

-- ---- a pattern below 1 and its field, and a whole of f * 2 ^ s
module _ (b x : ℕ) (is : x ≡ field_of b) (h : x < 1023) (f s : ℕ) (few : f < 2 ^ 37) (low : s ≤ 26) where
  abbrev v : Float
  v = of_bits binary64 b

  -- below 2 ^ -(38 + s)
  pub none : x + s < 985 → 0 ≡ nearest_of (f * 2 ^ s) (of_bits binary64 b)
  unfolding nearest_of
  none g =
      let r = pattern b x is (omega arith) in
      let k = 37 + s in
      let c = 1036 - s in
      let less : 53 + (x - 1) ≤ c = omega arith in
      let all : k + 1 + c ≡ 1074 = omega arith in
      let units : num v * 2 ^ (k + 1) * 2 ^ c ≡ r.q * 2 ^ (x - 1) * den v = mul_assoc (num v) (2 ^ (k + 1)) (2 ^ c) ∙ ap (λ (z : ℕ). num v * z) (sym (pow-add 2 (k + 1) c) ∙ ap (λ (z : ℕ). 2 ^ z) all) ∙ r.value in
      let small : num v * 2 ^ (k + 1) < den v = smaller (num v * 2 ^ (k + 1)) (den v) (r.q * 2 ^ (x - 1)) (2 ^ c) (den_pos v) units (lt_of_lt_of_le (shl_lt 53 (x - 1) r.small) (pow_mono less)) in
      let twice : num v * 2 ^ (k + 1) ≡ num v * 2 ^ k * 2 = ap (λ (z : ℕ). num v * z) (pow-add 2 k 1) ∙ sym (mul_assoc (num v) (2 ^ k) 2) in
      let under : num v * (f * 2 ^ s) ≤ num v * 2 ^ k = mul-le-mul_left (num v) (le_of_lt (shl_lt 37 s few)) in
      sym (div-eq_of_lt (omega arith))

  regroup : (n p w : ℕ) → 2 * (n * (f * p)) * w ≡ n * (w * (p * 2)) * f
  regroup n p w = simp (mul_assoc, mul_comm, mul_left_comm)

  pub some : 985 ≤ x + s → rounded (digits_of b * f / 2 ^ (1074 - (x + s))) ≡ nearest_of (f * 2 ^ s) (of_bits binary64 b)
  unfolding nearest_of
  some g =
      let t = 1074 - (x + s) in
      let q = digits_of b in
      let z = 2 * (num v * (f * 2 ^ s)) in
      let scale : t + (s + 1) ≡ 1075 - x = omega arith in
      let power : 2 ^ t * (2 ^ s * 2) ≡ 2 ^ (1075 - x) = ap (λ (z : ℕ). 2 ^ t * z) (sym (pow-add 2 s 1)) ∙ sym (pow-add 2 t (s + 1)) ∙ ap (λ (z : ℕ). 2 ^ z) scale in
      let size : z * 2 ^ t ≡ q * f * den v = regroup (num v) (2 ^ s) (2 ^ t) ∙ ap (λ (z : ℕ). num v * z * f) power ∙ ap (λ (z : ℕ). z * f) (by_digits b x is (omega arith) (omega arith)) ∙ mul_right_comm q (den v) f in
      sym (halves z (den v) (den_pos v) ∙ ap rounded (div_same z (den v) (q * f) (2 ^ t) (den_pos v) (pow_pos t) size))
