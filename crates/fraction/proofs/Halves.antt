-- Whole numbers and a half, from a double's bit pattern: its bit of one half is set and none below it.
-- Assumes nothing.
use Rattle.std.proofs.Common.{◌≡◌, ℕ, ◌+◌, ◌-◌, ◌*◌, ◌/◌, ◌%◌, ◌^◌, ◌<◌, ◌≤◌, false, eqb, sym, refl, ap, ◌∙◌, subst, true≢false, lt_of_lt_of_le, mul_assoc, mul_comm, add-mul, div-add-mod', mul_right_comm, arith, lit<, pow_pos, pow_mono, pow-add, shl_lt, eq-eqb, ne_eqb, eqb-true, ap₂, mod-eq_of_lt, one-mul}
use lib.Pow.{pow-lt}
use native.Mathlib.Nat.{eq_of_mul-eq-mul_right, mod-le, mul-mod_left}
use lib.Ieee.{Float, nan, inf, fin, binary64, of_bits}
use lib.Ieee.Nearest.{div_same}
use lib.Ieee.Scale.{finite}
use lib.Ieee.Positive.{num, den, den_pos}
use Rattle.laws.proofs.Cases.{by_order, by_truth}
use Rattle.fraction.specs.Fraction.{is_half}
use Rattle.fraction.specs.Bits.{field_of, digits_of}
use Rattle.fraction.proofs.Fraction.{half_is}
use Rattle.fraction.proofs.Pattern.{Read, pattern, not_real, by_digits}

same_test : (a b c d : ℕ) → (a ≡ b → c ≡ d) → (c ≡ d → a ≡ b) → eqb a b ≡ eqb c d
same_test a b c d f g = by_truth (eqb a b) (eqb c d) (λ e. eq-eqb c d (f (eqb-true a b e))) (λ e. eq-eqb a b (g (eqb-true c d e)))

-- ---- a fraction n / d that is a / c: so are their rests by 1, and if one of these is 1 / 2, both are

rests : (n d a c : ℕ) → 0 < d → 0 < c → n * c ≡ a * d → n % d * c ≡ a % c * d
rests n d a c D C v =
    let w : n / d ≡ a / c = div_same n d a c D C v in
    let x : n / d * d * c + n % d * c ≡ n * c = sym (add-mul (n / d * d) (n % d) c) ∙ ap (λ (z : ℕ). z * c) (div-add-mod' n d) in
    let y : a / c * c * d + a % c * d ≡ a * d = sym (add-mul (a / c * c) (a % c) d) ∙ ap (λ (z : ℕ). z * d) (div-add-mod' a c) in
    let z : n / d * d * c ≡ a / c * c * d = mul_right_comm (n / d) d c ∙ ap (λ (k : ℕ). k * c * d) w in
    omega arith

halved : (n d a c : ℕ) → 0 < d → n * c ≡ a * d → n * 2 ≡ d → a * 2 ≡ c
halved n d a c D v h = eq_of_mul-eq-mul_right d D (a * 2) c (mul_right_comm a 2 d ∙ ap (λ (z : ℕ). z * 2) (sym v) ∙ mul_right_comm n c 2 ∙ ap (λ (z : ℕ). z * c) h ∙ mul_comm d c)

by_value : (v : Float) (a c : ℕ) → 0 < c → num v * c ≡ a * den v → eqb (a % c * 2) c ≡ is_half v
by_value v a c C e =
    let r : num v % den v * c ≡ a % c * den v = rests (num v) (den v) a c (den_pos v) C e in
    same_test (a % c * 2) c (num v % den v * 2) (den v) (halved (a % c) c (num v % den v) (den v) C (sym r)) (halved (num v % den v) (den v) (a % c) c (den_pos v) r)
    ∙ half_is v

small_rest : (a h c : ℕ) → h * 2 ≡ c → a < h → a % c * 2 ≡ c → ⊥
small_rest a h c e l d = omega (arith, mod-le a c)

no_rest : (a c : ℕ) → 0 < c → a * c % c * 2 ≡ c → ⊥
no_rest a c C d = omega (arith, mul-mod_left a c)

only_real : (v : Float) → finite v ≡ false → false ≡ is_half v
unfolding is_half
only_real nan h = refl
only_real (inf s) h = refl
only_real (fin s m e) h = absurd (true≢false h)

-- 2 ^ k as the machine's shift gives it
bit : (k : ℕ) → k < 64 → 1 * 2 ^ k % 2 ^ 64 ≡ 2 ^ k
bit k h = ap (λ (z : ℕ). z % 2 ^ 64) (one-mul (2 ^ k)) ∙ mod-eq_of_lt (pow-lt h)

-- ---- a pattern and its field
module _ (b x : ℕ) (is : x ≡ field_of b) where
  abbrev v : Float
  v = of_bits binary64 b

  -- so many units of 2 ^ -1074
  by_units : (r : Read x (b % 2 ^ 52) v) → (r.q * 2 ^ (x - 1) % 2 ^ 1074 * 2 ≡ 2 ^ 1074 → ⊥) → false ≡ is_half v
  by_units r n = let units = r.q * 2 ^ (x - 1) in sym (ne_eqb (units % 2 ^ 1074 * 2) (2 ^ 1074) n) ∙ by_value v units (2 ^ 1074) (pow_pos 1074) r.value

  -- below a half
  pub low : x < 1022 → false ≡ is_half (of_bits binary64 b)
  low g =
      let r = pattern b x is (omega arith) in
      let few : 53 + (x - 1) ≤ 1073 = omega arith in
      by_units r (small_rest (r.q * 2 ^ (x - 1)) (2 ^ 1073) (2 ^ 1074) (sym (pow-add 2 1073 1)) (lt_of_lt_of_le (shl_lt 53 (x - 1) r.small) (pow_mono few)))

  whole : 1074 < x → x < 2047 → false ≡ is_half v
  whole g l =
      let r = pattern b x is l in
      let k = x - 1075 in
      let split : x - 1 ≡ k + 1074 = omega arith in
      let units : r.q * 2 ^ (x - 1) ≡ r.q * 2 ^ k * 2 ^ 1074 = ap (λ (z : ℕ). r.q * 2 ^ z) split ∙ ap (λ (z : ℕ). r.q * z) (pow-add 2 k 1074) ∙ sym (mul_assoc r.q (2 ^ k) (2 ^ 1074)) in
      by_units r (subst (λ (z : ℕ). z % 2 ^ 1074 * 2 ≡ 2 ^ 1074 → ⊥) (sym units) (no_rest (r.q * 2 ^ k) (2 ^ 1074) (pow_pos 1074)))

  -- whole, or no number
  pub high : 1074 < x → false ≡ is_half (of_bits binary64 b)
  high g = by_order x 2047 (whole g) (λ l. only_real v (not_real b x is l))

  -- the digits' last 1075 - x bits are the rest
  pub middle : 1022 ≤ x → x ≤ 1074 → eqb (digits_of b % 2 ^ (1075 - x)) (2 ^ (1074 - x)) ≡ is_half (of_bits binary64 b)
  middle l h =
      let t = 1075 - x in
      let q = digits_of b in
      let one : t ≡ 1074 - x + 1 = omega arith in
      let twice : 2 ^ t ≡ 2 ^ (1074 - x) * 2 = ap (λ (z : ℕ). 2 ^ z) one ∙ pow-add 2 (1074 - x) 1 in
      same_test (q % 2 ^ t) (2 ^ (1074 - x)) (q % 2 ^ t * 2) (2 ^ t) (λ d. ap (λ (z : ℕ). z * 2) d ∙ sym twice) (λ d. eq_of_mul-eq-mul_right 2 (lit< tt) (q % 2 ^ t) (2 ^ (1074 - x)) (d ∙ twice))
      ∙ by_value v q (2 ^ t) (pow_pos t) (by_digits b x is (omega arith) (omega arith))

  -- as the machine's shifts give both powers
  pub middle_bits : 1022 ≤ x → x ≤ 1074 → eqb (digits_of b % (1 * 2 ^ (1075 - x) % 2 ^ 64)) (1 * 2 ^ (1074 - x) % 2 ^ 64) ≡ is_half (of_bits binary64 b)
  middle_bits l h = ap₂ (λ (d h : ℕ). eqb (digits_of b % d) h) (bit (1075 - x) (omega arith)) (bit (1074 - x) (omega arith)) ∙ middle l h
