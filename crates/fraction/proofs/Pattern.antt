-- What a double's bit pattern says of its size num / den: the digits, times 2 to the exponent's field less one, in units of 2 ^ -1074.
-- Assumes nothing.
use Rattle.std.proofs.Common.{◌≡◌, ℕ, zero, suc, ◌+◌, ◌-◌, ◌*◌, ◌%◌, ◌^◌, ◌<◌, ◌≤◌, Bool, true, false, eqb, ltb, leb, sym, refl, ap, ◌∙◌, subst, lt_of_lt_of_le, lt_irrefl, mul-le-mul_right, mod-lt, mul_assoc, mul_comm, mul-le-mul, add_comm, lt_of_mul-lt-mul_right, mul-lt-mul_of_pos_right, mul_right_comm, le_of_mul-le-mul_right, arith, pow_pos, pow_mono, pow-add, shl_lt, le-ltb, lt-ltb, eqb-true, pos, true≢false}
use native.Mathlib.Nat.{eq_of_mul-eq-mul_right}
use lib.Ieee.{Float, nan, inf, fin, binary64, odd, of_fields, is_nan, of_bits}
use lib.Ieee.Digits.{Equals, odd_val}
use lib.Ieee.Scale.{finite}
use lib.Ieee.Positive.{num, den, den_pos}
use Rattle.laws.proofs.Branches.{and_no, and_rest}
use Rattle.laws.proofs.Cases.{pick, by_order, join}
use Rattle.fraction.specs.Fraction.{size_below_one}
use Rattle.fraction.specs.Bits.{field_of, digits_of}

-- ---- a fraction n / d that is u / p

pub smaller : (n d u p : ℕ) → 0 < d → n * p ≡ u * d → u < p → n < d
smaller n d u p D e h = lt_of_mul-lt-mul_right p (omega (arith, mul-lt-mul_of_pos_right h D, mul_comm p d))

larger : (n d u p : ℕ) → 0 < p → n * p ≡ u * d → p ≤ u → d ≤ n
larger n d u p P e h = le_of_mul-le-mul_right (omega (arith, mul-le-mul_right d h, mul_comm p d)) P

-- ---- what the fields say

-- v is finite and its size is q * 2 ^ (x - 1) units, for q of 53 digits; for a field above 0 the leading digit is put back
pub record Read (x t : ℕ) (v : Float) : Type 0 where
  pub real : finite v ≡ true
  pub q : ℕ
  pub small : q < 2 ^ 53
  pub lead : 0 < x → q ≡ t + 2 ^ 52
  pub value : num v * 2 ^ 1074 ≡ q * 2 ^ (x - 1) * den v

cross : (v : Float) (a c : ℕ) → Equals v a c → (finite v ≡ true) × (num v * c ≡ a * den v)
cross nan a c h = absurd h
cross (inf s) a c h = absurd h
cross (fin s m e) a c h = (refl, h)

fields : (s : Bool) (x t : ℕ) → t < 2 ^ 52 → x < 2047 → Read x t (of_fields binary64 s x t)
unfolding of_fields
fields s zero t h p =
    let v = cross (odd 53 s t 0 1074) (t * 2 ^ 0) (2 ^ 1074) (odd_val 53 s t 0 1074) in
    record { real = v.0; q = t; small = omega arith; lead = λ l. absurd (lt_irrefl 0 l); value = v.1 }
fields s (suc j) t h p =
    let v = cross (odd 53 s (2 ^ 52 + t) j 1074) ((2 ^ 52 + t) * 2 ^ j) (2 ^ 1074) (odd_val 53 s (2 ^ 52 + t) j 1074) in
    let less : j ≡ suc j - 1 = omega arith in
    pick (Read (suc j) t) (eqb (suc j) 2047) (λ e. absurd (omega (arith, eqb-true (suc j) 2047 e)))
    (λ e.
    record {
      real = v.0;
      q = 2 ^ 52 + t;
      small = omega arith;
      lead = λ l. add_comm (2 ^ 52) t;
      value = v.1 ∙ ap (λ (i : ℕ). (2 ^ 52 + t) * 2 ^ i * den (odd 53 s (2 ^ 52 + t) j 1074)) less;
    })

-- the last field is that of the infinities and NaN
endless : (s : Bool) (t : ℕ) → finite (of_fields binary64 s 2047 t) ≡ false
unfolding of_fields
endless s t = pick (λ (v : Float). finite v ≡ false) (eqb t 0) (λ e. refl) (λ e. refl)

-- ---- a number's pattern, and the patterns of the code's constants

pub nan_read : (x : Float) → is_nan x ≡ true → of_bits binary64 0x7ff8_0000_0000_0000 ≡ x
unfolding is_nan of_bits
nan_read nan e = refl
nan_read (inf s) e = absurd (true≢false (sym e))
nan_read (fin s m k) e = absurd (true≢false (sym e))

pub zero_read : of_bits binary64 0 ≡ fin false 0 (pos 0)
unfolding of_bits
zero_read = refl

pub one_read : of_bits binary64 0x3ff0_0000_0000_0000 ≡ fin false 1 (pos 0)
unfolding of_bits
one_read = refl

-- ---- a pattern and its field
module _ (b x : ℕ) (is : x ≡ field_of b) where
  abbrev v : Float
  v = of_bits binary64 b

  pub pattern : x < 2047 → Read x (b % 2 ^ 52) (of_bits binary64 b)
  unfolding of_bits
  pattern h = subst (λ (k : ℕ). Read x (b % 2 ^ 52) (of_fields binary64 (leb (2 ^ 63) b) k (b % 2 ^ 52))) is (fields (leb (2 ^ 63) b) x (b % 2 ^ 52) (mod-lt b (pow_pos 52)) h)

  pub not_real : 2047 ≤ x → finite (of_bits binary64 b) ≡ false
  unfolding of_bits
  not_real h =
      let last : 2047 ≡ field_of b = omega arith in
      subst (λ (k : ℕ). finite (of_fields binary64 (leb (2 ^ 63) b) k (b % 2 ^ 52)) ≡ false) last (endless (leb (2 ^ 63) b) (b % 2 ^ 52))

  -- a field above 0 and at most 1075: the size is the digits with their leading one, over a power of 2
  pub by_digits : 0 < x → x ≤ 1075 → num (of_bits binary64 b) * 2 ^ (1075 - x) ≡ digits_of b * den (of_bits binary64 b)
  by_digits l h =
      let t = 1075 - x in
      let q = digits_of b in
      let r = pattern (omega arith) in
      let joined : t + (x - 1) ≡ 1074 = omega arith in
      eq_of_mul-eq-mul_right (2 ^ (x - 1)) (pow_pos (x - 1)) (num v * 2 ^ t) (q * den v)
      (mul_assoc (num v) (2 ^ t) (2 ^ (x - 1))
      ∙ ap (λ (z : ℕ). num v * z) (sym (pow-add 2 t (x - 1)) ∙ ap (λ (z : ℕ). 2 ^ z) joined)
      ∙ r.value
      ∙ ap (λ (z : ℕ). z * 2 ^ (x - 1) * den v) (r.lead l)
      ∙ mul_right_comm q (2 ^ (x - 1)) (den v))

  -- ---- below 1 in size: the field is less than that of 1

  pub under_one : x < 1023 → size_below_one (of_bits binary64 b) ≡ true
  unfolding size_below_one
  under_one h =
      let r = pattern (omega arith) in
      let few : 53 + (x - 1) ≤ 1074 = omega arith in
      join r.real (lt-ltb (num v) (den v) (smaller (num v) (den v) (r.q * 2 ^ (x - 1)) (2 ^ 1074) (den_pos v) r.value (lt_of_lt_of_le (shl_lt 53 (x - 1) r.small) (pow_mono few))))

  pub over_one : 1023 ≤ x → size_below_one (of_bits binary64 b) ≡ false
  unfolding size_below_one
  over_one h =
      by_order x 2047
      (λ l.
      let r = pattern l in
      let lead : 2 ^ 52 ≤ r.q = omega (arith, r.lead (omega arith)) in
      let less : 1022 ≤ x - 1 = omega arith in
      sym (and_rest r.real (sym (le-ltb (num v) (den v) (larger (num v) (den v) (r.q * 2 ^ (x - 1)) (2 ^ 1074) (pow_pos 1074) r.value (mul-le-mul lead (pow_mono less)))))))
      (λ l. sym (and_no (ltb (num v) (den v)) (not_real l)))
