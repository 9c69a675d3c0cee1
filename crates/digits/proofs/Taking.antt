-- A digit found by taking a power of ten away, and the digits that come of it.
-- Assumes nothing.
use Prim.Native.Nat.{ℕ, zero, suc, ◌+◌, ◌-◌, ◌*◌, ◌/◌, ◌%◌, ◌^◌, ◌≤◌, ◌<◌}
use mathlib.Core.Path.{◌≡◌, refl, sym, ap, ap₂, ◌∙◌}
use mathlib.Core.List.{List, ◌∷◌, ◌++◌}
use native.Mathlib.Nat.{zero-add, suc-add, add_comm, one-mul, add-mul, mul_assoc, one-le-pow, pow-le-pow_right, mod-lt, mod-eq_of_lt, div-div-eq-div-mul}
use native.Mathlib.Omega.{arith}
use lib.Arith.{digits_div, digits_mod}
use lib.Dec.{lit<}
use lib.ListN.{take, drop}
use lib.Pow.{pow-add}
use Rattle.laws.specs.Placed.{place}
use Rattle.digits.specs.Decimals.{digit_at, digits_of}
use Rattle.digits.proofs.Decimals.{leading, power_once}

-- ---- a quotient and what is left

module _ {n p : ℕ} (q : ℕ) {r : ℕ} (e : n ≡ q * p + r) (l : r < p) where
  pub quotient : n / p ≡ q
  quotient = ap (λ (x : ℕ). x / p) e ∙ digits_div q l

  pub remainder : n % p ≡ r
  remainder = ap (λ (x : ℕ). x % p) e ∙ digits_mod q l

-- ---- one digit: `digit` counts how often the power p was taken away from n

module _ {n p digit r : ℕ} (low : 48 ≤ digit) (e : n ≡ (digit - 48) * p + r) where
  pub taken : digit ≤ 57 → r < p → (digit ≡ digit_at n p) × (r ≡ n % p)
  taken h l =
      let q : n / p % 10 ≡ digit - 48 = ap (λ (x : ℕ). x % 10) (quotient (digit - 48) e l) ∙ mod-eq_of_lt (omega arith) in
      (omega (arith, q), sym (remainder (digit - 48) e l))

-- ---- one digit behind another

-- m is what the places from 10 ^ w down have of n
module _ (w n : ℕ) {m : ℕ} (e : m ≡ n % 10 ^ suc w) where
  parts : m ≡ n / 10 ^ w % 10 * 10 ^ w + n % 10 ^ w
  parts = e ∙ sym (leading w n)

  inside : n % 10 ^ w < 10 ^ w
  inside = mod-lt n (one-le-pow w 10 (lit< tt))

  same_digit : digit_at m (10 ^ w) ≡ digit_at n (10 ^ w)
  same_digit = ap (λ (q : ℕ). 48 + q) (ap (λ (q : ℕ). q % 10) (quotient (n / 10 ^ w % 10) parts inside) ∙ mod-eq_of_lt (omega arith))

  same_rest : m % 10 ^ w ≡ n % 10 ^ w
  same_rest = remainder (n / 10 ^ w % 10) parts inside

-- ---- parts

low_digits : (w n : ℕ) → digits_of w (n % 10 ^ w) ≡ digits_of w n
low_digits zero n = refl
low_digits (suc w) n =
    let m = n % 10 ^ suc w in
    ap₂ (λ (d : ℕ) (l : List ℕ). d ∷ l) (same_digit w n refl)
    (sym (low_digits w m) ∙ ap (digits_of w) (same_rest w n refl) ∙ low_digits w n)

-- the digits of the part above 10 ^ w, and those below
apart : (j w n : ℕ) → digits_of j (n / 10 ^ w) ++ digits_of w n ≡ digits_of (j + w) n
apart zero w n = rw zero-add
apart (suc j) w n =
    let q : n / 10 ^ w / 10 ^ j ≡ n / 10 ^ (j + w) = div-div-eq-div-mul n (10 ^ w) (10 ^ j) ∙ ap (λ (p : ℕ). n / p) (sym (pow-add 10 w j) ∙ ap (λ (k : ℕ). 10 ^ k) (add_comm w j)) in
    rw (suc-add j w) (ap₂ (λ (x : ℕ) (t : List ℕ). (48 + x % 10) ∷ t) q (apart j w n))

-- the last 21 digits of a number by nines, the last three of the first stored in front
pub by_nines : (n : ℕ) {a b d l m o : List ℕ}
    → a ≡ digits_of 9 (n / 1000000000 / 1000000000) → b ≡ digits_of 9 (n / 1000000000 % 1000000000) → d ≡ digits_of 9 (n % 1000000000)
    → l ≡ place (digits_of 21 0) 0 (take 3 (drop 6 a)) → m ≡ place l 3 b → o ≡ place m 12 d → o ≡ digits_of 21 n
by_nines n {l = l} {m = m} ea eb ed el em eo =
    let q = n / 1000000000 in
    let first : l ≡ place (digits_of 21 0) 0 (digits_of 3 (q / 1000000000)) = el ∙ ap (λ (x : List ℕ). place (digits_of 21 0) 0 (take 3 (drop 6 x))) ea in
    let second : m ≡ digits_of 12 q ++ digits_of 9 0 = em ∙ ap₂ (λ (x y : List ℕ). place x 3 y) first (eb ∙ low_digits 9 q) ∙ ap (λ (x : List ℕ). x ++ digits_of 9 0) (apart 3 9 q) in
    eo ∙ ap₂ (λ (x y : List ℕ). place x 12 y) second (ed ∙ low_digits 9 n) ∙ apart 12 9 n

-- ---- thousand millions, in binary

abbrev pub piece : ℕ → ℕ
piece k = 1000000000 * 2 ^ k

pub shifted : (k : ℕ) → k < 35 → piece k % 2 ^ 64 ≡ piece k
shifted k h = mod-eq_of_lt (omega (arith, pow-le-pow_right {n = 2} (lit< tt) {i = k} {j = 34} (omega arith)))

pub double : (k : ℕ) → 1 ≤ k → piece k ≡ 2 * piece (k - 1)
double k h = omega (arith, power_once 2 k h)

-- a pieces, as twice so many of half the size, of which one more may be taken away
module _ (n a k r : ℕ) (h : 1 ≤ k) (e : n ≡ a * piece k + r) where
  pub halves : n ≡ a * 2 * piece (k - 1) + r
  halves = e ∙ ap (λ (x : ℕ). x + r) (ap (λ (x : ℕ). a * x) (double k h) ∙ sym (mul_assoc a 2 (piece (k - 1))))

  pub one_off : piece (k - 1) ≤ r → n ≡ (a * 2 + 1) * piece (k - 1) + (r - piece (k - 1))
  one_off l = omega (arith, halves, add-mul (a * 2) 1 (piece (k - 1)), one-mul (piece (k - 1)))
