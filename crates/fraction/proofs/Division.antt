-- The fraction that one rounded division gives for a part of a whole: within 2 ^ -54 of the exact one, and so nearest to its own part.
-- Assumes nothing.
use Rattle.std.proofs.Common.{◌≡◌, ℕ, suc, ◌+◌, ◌*◌, ◌/◌, ◌^◌, ◌<◌, ◌≤◌, true, false, eqb, pos, sym, refl, ap, ◌∙◌, true≢false, le_of_eq, lt_of_lt_of_le, lt_of_le_of_lt, le_of_lt, mul-le-mul_right, mul_assoc, suc-mul, mul_comm, div-lt_iff_lt-mul, add-mul, mul-le-mul_left, mul-lt-mul_of_pos_right, mul-pos, lt_of_not-le, mul_right_comm, le_of_mul-le-mul_right, mul_left_comm, arith, lit<, lit≤, pow_pos, pow_mono, lt-ltb, eqb-true}
use native.Mathlib.Nat.{div-eq_of_lt-le}
use lib.Ieee.{Float, nan, inf, fin, binary64, up, down, size, round, of_int, div, le, lt}
use lib.Ieee.Digits.{size-le}
use lib.Ieee.Bits.{is_true}
use lib.Ieee.Fits.{down_pos}
use lib.Ieee.Exact.{HasValue}
use lib.Ieee.Back.{round_whole}
use lib.Ieee.Order.{drop, kept, le_of_values}
use lib.Ieee.Scale.{grid, overflow, round_val, round_same}
use lib.Ieee.Positive.{num, den, den_pos, value→cross}
use Rattle.laws.proofs.Cases.{pick, join}
use Rattle.fraction.specs.Fraction.{fraction_of, is_fraction, nearest_of, Close}
use Rattle.fraction.proofs.Rounding.{closest_near}

-- ---- a quotient of two whole numbers is one rounding of the exact fraction

whole_value : (a : ℕ) → a ≤ 2 ^ 53 → HasValue (of_int binary64 (pos a)) false a 1
unfolding of_int
whole_value a h = round_whole binary64 false a h

moved : (a d f b : ℕ) → a * d * f * b ≡ a * (b * f * d)
moved a d f b = simp (mul_assoc, mul_comm, mul_left_comm)

quotient : (x y : Float) (a b : ℕ) → 0 < b → HasValue x false a 1 → HasValue y false b 1 → div binary64 x y ≡ round binary64 false a b
unfolding div
quotient nan y a b B h k = absurd h
quotient (inf s) y a b B h k = absurd h
quotient (fin true m e) y a b B h k = absurd (true≢false h.0)
quotient (fin false m e) nan a b B h k = absurd k
quotient (fin false m e) (inf s) a b B h k = absurd k
quotient (fin false m e) (fin true n f) a b B h k = absurd (true≢false k.0)
quotient (fin false m e) (fin false n f) a b B h k =
    let D = mul-pos B (down_pos f) in
    let top : m * up e ≡ a * down e = omega (arith, h.1) in
    let low : n * up f ≡ b * down f = omega (arith, k.1) in
    pick (λ (z : Float). z ≡ round binary64 false a b) (eqb n 0) (λ z. absurd (omega (arith, ap (λ (w : ℕ). w * up f) (eqb-true n 0 z))))
    (λ z.
    round_same binary64 false (m * up e * down f) (n * up f * down e) a b (mul-pos (omega arith) (down_pos e)) B
    (ap (λ (w : ℕ). w * down f * b) top ∙ moved a (down e) (down f) b ∙ ap (λ (w : ℕ). a * (w * down e)) (sym low)))

-- ---- laws over any numbers: a part u of a whole L, a fraction n / d

-- x and y differ by z at most
abbrev Within : ℕ → ℕ → ℕ → Type 0
Within x y z = (x ≤ y + z) × (y ≤ x + z)

weaken : (x x' y w p : ℕ) → x ≡ x' → w ≤ p → Within (2 * x) (2 * y) w → Within (2 * x') (2 * y) p
weaken x x' y w p e h k = (omega arith, omega arith)

carry : (x y z x' y' z' d p : ℕ) → 0 < p → x * d ≡ x' * p → y * d ≡ y' * p → z * d ≡ z' * p → x ≤ y + z → x' ≤ y' + z'
carry x y z x' y' z' d p P a b c h = le_of_mul-le-mul_right (omega (arith, mul-le-mul_right d h, add-mul y z d, add-mul y' z' p)) P

-- the same distance by another common measure
measured : (L c p u g n d : ℕ) → 0 < p → n * (c * p) ≡ g * d → Within (2 * (L * g)) (2 * (u * (c * p))) (L * p) → Within (2 * c * (n * L)) (2 * c * (u * d)) (L * d)
measured L c p u g n d P v h =
    let a : 2 * (L * g) * d ≡ 2 * c * (n * L) * p = mul_assoc 2 (L * g) d ∙ ap (λ (z : ℕ). 2 * z) (mul_assoc L g d ∙ ap (λ (z : ℕ). L * z) (sym v)) ∙ simp (mul_assoc, mul_comm, mul_left_comm) in
    let b : 2 * (u * (c * p)) * d ≡ 2 * c * (u * d) * p = simp (mul_assoc, mul_comm, mul_left_comm) in
    let e : L * p * d ≡ L * d * p = mul_right_comm L p d in
    (carry (2 * (L * g)) (2 * (u * (c * p))) (L * p) (2 * c * (n * L)) (2 * c * (u * d)) (L * d) d p P a b e h.0, carry (2 * (u * (c * p))) (2 * (L * g)) (L * p) (2 * c * (u * d)) (2 * c * (n * L)) (L * d) d p P b a e h.1)

-- what is within p of a fraction below 1 is at most 2
bounded : (L u g x p : ℕ) → u < L → p ≤ x → 2 * (L * g) ≤ 2 * (u * x) + L * p → g ≤ 2 * x
bounded L u g x p h l k =
    let a : u * x ≤ L * x = mul-le-mul_right x (le_of_lt h) in
    let b : L * p ≤ L * x = mul-le-mul_left L l in
    let c : g * L ≤ 2 * x * L = omega (arith, mul_comm g L, mul_assoc 2 x L, mul_comm x L) in
    le_of_mul-le-mul_right c (omega arith)

-- what is so close is nearer than a quarter of a part
quarter : (L x y d : ℕ) → L ≤ 2 ^ 52 → 2 ^ 54 * x ≤ 2 ^ 54 * y + L * d → 4 * x ≤ 4 * y + d
quarter L x y d h k = let m : L * d ≤ 2 ^ 52 * d = mul-le-mul_right d h in omega arith

rounds_to : (u x d : ℕ) → 0 < d → 4 * x ≤ 4 * (u * d) + d → 4 * (u * d) ≤ 4 * x + d → (2 * x + d) / (2 * d) ≡ u
rounds_to u x d D a b = div-eq_of_lt-le (2 * d) (omega (arith, mul_left_comm u 2 d)) (omega (arith, mul_left_comm u 2 d, add-mul u 1 (2 * d)))

less_than_one : (L u n d : ℕ) → u < L → 0 < d → 4 * (n * L) ≤ 4 * (u * d) + d → n < d
less_than_one L u n d h D k = lt_of_not-le (λ (g : d ≤ n). let m : suc u * d ≤ L * d = mul-le-mul_right d h in let w : d * L ≤ n * L = mul-le-mul_right L g in omega (arith, suc-mul u d, mul_comm d L))

is_fraction_lem : (x : Float) (a c : ℕ) → 0 < c → HasValue x false a c → num x < den x → is_fraction x ≡ true
unfolding is_fraction lt
is_fraction_lem nan a c C v h = absurd v
is_fraction_lem (inf s) a c C v h = absurd v
is_fraction_lem (fin true m e) a c C v h = absurd (true≢false v.0)
is_fraction_lem (fin false m e) a c C v h =
    let zero_is : HasValue (fin false 0 (pos 0)) false 0 1 = (refl, refl) in
    let least = le_of_values (fin false 0 (pos 0)) (fin false m e) 0 1 a c (lit< tt) C zero_is v (omega arith) in
    join (is_true (le (fin false 0 (pos 0)) (fin false m e)) least) (lt-ltb (m * up e * 1) (1 * down e) (omega arith))

-- ---- a part of a whole, in units of 2 ^ -1074
module _ (whole : ℕ) (most : whole ≤ 2 ^ 52) (part : ℕ) (h : part < whole) where
  abbrev x : Float
  x = fraction_of whole part

  abbrev units : ℕ
  units = grid binary64 part whole

  positive : 0 < whole
  positive = omega arith

  dropped : drop 53 (part * 2 ^ 1074) whole ≤ 1021
  dropped =
      let few : size (part * 2 ^ 1074 / whole) ≤ 1074 = size-le (part * 2 ^ 1074 / whole) 1074 ((div-lt_iff_lt-mul positive).1 (lt_of_lt_of_le (mul-lt-mul_of_pos_right h (pow_pos 1074)) (le_of_eq (mul_comm whole (2 ^ 1074))))) in
      omega arith

  -- half of 2 ^ 1021 units at most
  near : Within (2 * (whole * units)) (2 * (part * 2 ^ 1074)) (whole * 2 ^ 1021)
  near =
      let k = drop 53 (part * 2 ^ 1074) whole in
      let q = kept 53 (part * 2 ^ 1074) whole in
      weaken (q * (whole * 2 ^ k)) (whole * (q * 2 ^ k)) (part * 2 ^ 1074) (whole * 2 ^ k) (whole * 2 ^ 1021) (mul_left_comm q whole (2 ^ k)) (mul-le-mul_left whole (pow_mono dropped))
      (closest_near (part * 2 ^ 1074) (whole * 2 ^ k) (mul-pos positive (pow_pos k)))

  -- so it is far below the largest double
  under_largest : units < overflow binary64
  under_largest = lt_of_le_of_lt (bounded whole part units (2 ^ 1074) (2 ^ 1021) h (lit≤ tt) near.0) (lit< tt)

  value : HasValue x false units (2 ^ 1074)
  unfolding fraction_of
  value = rw (quotient (of_int binary64 (pos part)) (of_int binary64 (pos whole)) part whole positive (whole_value part (omega arith)) (whole_value whole (omega arith))) (round_val binary64 part whole under_largest)

  -- THE BOUND
  pub close : Close whole (fraction_of whole part) part
  close =
      let m = measured whole (2 ^ 53) (2 ^ 1021) part units (num x) (den x) (pow_pos 1021) (value→cross x units (2 ^ 1074) value) near in
      record { above = m.0; under = m.1 }

  above : 4 * (num x * whole) ≤ 4 * (part * den x) + den x
  above = quarter whole (num x * whole) (part * den x) (den x) most close.above

  -- THE ROUND TRIP
  pub comes_back : nearest_of whole (fraction_of whole part) ≡ part
  unfolding nearest_of
  comes_back = rounds_to part (num x * whole) (den x) (den_pos x) above (quarter whole (part * den x) (num x * whole) (den x) most close.under)

  pub fraction_fine : is_fraction (fraction_of whole part) ≡ true
  fraction_fine = is_fraction_lem x units (2 ^ 1074) (pow_pos 1074) value (less_than_one whole part (num x) (den x) h (den_pos x) above)
