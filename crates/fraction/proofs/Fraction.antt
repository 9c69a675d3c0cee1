-- Laws of the definitions, for their callers.
-- To use: `half_value` where a value is known, `below_one` and `nearest_at_lem` to pass to `nearest_of`, then `whole_most` and `is_nearest`.
-- Assumes nothing.
use Rattle.std.proofs.Common.{◌≡◌, ℕ, ◌+◌, ◌-◌, ◌*◌, ◌/◌, ◌%◌, ◌^◌, ◌<◌, ◌≤◌, true, false, not, ◌&&◌, eqb, ltb, pos, sym, refl, ap, ◌∙◌, true≢false, le_of_suc-le-suc, le_of_lt, mul-le-mul_right, mod-lt, mod-eq_of_lt, mul_assoc, suc-mul, mul_comm, div-lt_iff_lt-mul, add-mul, one-mul, div-add-mod', mul_left_comm, arith, ltb-true, lt-ltb, eq-eqb, ne_eqb, eqb-true, le-leb}
use native.Mathlib.Nat.{mul-add-mod_self_right, div-eq_of_lt-le}
use lib.Ieee.{Float, nan, inf, fin, up, down, le, lt, eq}
use lib.Ieee.Fits.{down_pos}
use lib.Ieee.Scale.{finite}
use lib.Ieee.Exact.{HasValue}
use lib.Ieee.Positive.{num, den, den_pos, value→cross}
use Rattle.laws.proofs.Branches.{cond_yes}
use Rattle.laws.proofs.Cases.{by_order, and_l, and_r, join, by_truth}
use Rattle.fraction.specs.Fraction.{is_fraction, is_half, nearest_of, size_below_one, nearest_at, Nearest}

-- ---- a whole number and a half: what is left of its size by 1 is 1 / 2

rest : (n d k s : ℕ) → n ≡ k * d + s → s < d → n % d ≡ s
rest n d k s e h = ap (λ (z : ℕ). z % d) e ∙ mul-add-mod_self_right k d s ∙ mod-eq_of_lt h

pub odd_times : (j d : ℕ) → (2 * j + 1) * d ≡ 2 * (j * d) + d
odd_times j d = simp (add-mul, mul_assoc, one-mul)

half_rest : (n d : ℕ) → 0 < d → eqb (n % d * 2) d ≡ (eqb (2 * n % d) 0 && not (eqb (n % d) 0))
half_rest n d D =
    let q = n / d in
    let r = n % d in
    let twice : 2 * n ≡ 2 * q * d + 2 * r = omega (arith, div-add-mod' n d, mul_assoc 2 q d) in
    by_truth (eqb (r * 2) d) (eqb (2 * n % d) 0 && not (eqb r 0))
    (λ e.
    let h = eqb-true (r * 2) d e in
    join (eq-eqb (2 * n % d) 0 (rest (2 * n) d (2 * q + 1) 0 (omega (arith, odd_times q d, mul_assoc 2 q d)) D)) (ap not (ne_eqb r 0 (λ z. omega arith))))
    (λ e.
    let some : r ≡ 0 → ⊥ = λ z. true≢false (sym (and_r (eqb (2 * n % d) 0) (not (eqb r 0)) e) ∙ ap not (eq-eqb r 0 z)) in
    let none : 2 * n % d ≡ 0 = eqb-true (2 * n % d) 0 (and_l (eqb (2 * n % d) 0) (not (eqb r 0)) e) in
    eq-eqb (r * 2) d
    (by_order (2 * r) d (λ l. absurd (some (omega (arith, rest (2 * n) d (2 * q) (2 * r) twice l)))) (λ l. omega (arith, rest (2 * n) d (2 * q + 1) (2 * r - d) (omega (arith, odd_times q d, mul_assoc 2 q d)) (omega (arith, mod-lt n D))))))

pub half_is : (x : Float) → eqb (num x % den x * 2) (den x) ≡ is_half x
unfolding is_half
half_is x = half_rest (num x) (den x) (den_pos x)

-- such a value is a half, and so many are its whole number
pub half_value : (x : Float) (j : ℕ) → HasValue x false (2 * j + 1) 2 → (is_half x ≡ true) × (num x / den x ≡ j)
half_value x j v =
    let n = num x in
    let d = den x in
    let w : n * 2 ≡ 2 * (j * d) + d = value→cross x (2 * j + 1) 2 v ∙ odd_times j d in
    let q : n / d ≡ j = div-eq_of_lt-le d (omega (arith, den_pos x)) (omega (arith, den_pos x, add-mul j 1 d)) in
    (sym (half_is x) ∙ eq-eqb (n % d * 2) d (omega (arith, ap (λ (z : ℕ). z * d + n % d) q, div-add-mod' n d)), q)

-- ---- sizes below 1

pub below_one : (x : Float) → is_fraction x ≡ true → size_below_one x ≡ true
unfolding is_fraction size_below_one le lt eq
below_one nan h = absurd (true≢false (sym h))
below_one (inf true) h = absurd (true≢false (sym h))
below_one (inf false) h = absurd (true≢false (sym h))
below_one (fin true m e) h =
    let n = m * up e in
    let d = down e in
    let none = and_l (eqb (0 * d) (n * 1)) (eqb (0 * d) 0) (and_l (eqb (0 * d) (n * 1) && eqb (0 * d) 0) (lt (fin true m e) (fin false 1 (pos 0))) h) in
    lt-ltb n d (omega (arith, down_pos e, eqb-true (0 * d) (n * 1) none))
below_one (fin false m e) h =
    let n = m * up e in
    let d = down e in
    lt-ltb n d (omega (arith, ltb-true (n * 1) (1 * d) (and_r (le (fin false 0 (pos 0)) (fin false m e)) (ltb (n * 1) (1 * d)) h)))

-- such a double is nearest to no more than the whole
pub whole_most : (whole : ℕ) (x : Float) → size_below_one x ≡ true → nearest_of whole x ≤ whole
unfolding nearest_of size_below_one
whole_most L x h =
    let less : num x < den x = ltb-true (num x) (den x) (and_r (finite x) (ltb (num x) (den x)) h) in
    let few : num x * L ≤ den x * L = mul-le-mul_right L (le_of_lt less) in
    le_of_suc-le-suc ((div-lt_iff_lt-mul (omega (arith, den_pos x))).1 (omega (arith, den_pos x, suc-mul L (2 * den x), mul_left_comm L 2 (den x), mul_comm L (den x))))

-- what `nearest_of` answers for it
pub nearest_at_lem : (factor shift : ℕ) (x : Float) → size_below_one x ≡ true → factor < 2 ^ 37 → shift ≤ 26 → nearest_at factor shift x ≡ nearest_of (factor * 2 ^ shift) x
unfolding nearest_at
nearest_at_lem f s x h a b = sym (cond_yes 0 (join h (join (lt-ltb f (2 ^ 37) a) (le-leb s 26 b))) refl)

-- THE NEAREST
pub is_nearest : (whole : ℕ) (x : Float) → Nearest whole x (nearest_of whole x)
unfolding nearest_of
is_nearest L x =
    let d = den x in
    let a : ℕ = 2 * (num x * L) + d in
    let some : 0 < 2 * d = omega (arith, den_pos x) in
    omega (arith, div-add-mod' a (2 * d), mod-lt a some, mul_left_comm (a / (2 * d)) 2 d)
