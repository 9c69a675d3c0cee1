-- Digits in a text: a number in two parts, and digits that are those of the number which they spell.
-- Assumes nothing.
use mathlib.Core.Path.{◌≡◌, refl, sym, ap, ap₂, subst, ◌∙◌}
use mathlib.Core.Bool.{true}
use mathlib.Core.List.{List, [], ◌∷◌, ◌++◌}
use Prim.Native.Nat.{ℕ, zero, suc, ◌+◌, ◌-◌, ◌*◌, ◌/◌, ◌%◌, ◌^◌, ◌≤◌, ◌<◌}
use native.Mathlib.Nat.{zero-add, add-zero, suc-add, sub-zero, suc-sub-suc, add-mul, mul_assoc, add_assoc, pow-succ', one-le-pow, pow-le-pow_right, le_of_suc-le-suc, not-suc-le-zero, div-eq_of_lt, mul-add-div_right, add-mul-mod_self_right, zero-mod}
use native.Mathlib.Omega.{arith}
use borrow.Author.Tests.{le-leb}
use lib.Dec.{lit<}
use lib.ListN.{length, take, drop, get_or, replicate}
use Rattle.laws.proofs.Cases.{both, and_l, and_r, join}
use Rattle.digits.specs.Bytes.{bytes_at}
use Rattle.digits.specs.Decimals.{is_digit, digit_value, all_digits, digits_of, spelled, number_at}
use Rattle.digits.proofs.Bytes.{bytes_length}
use Rattle.pictures.specs.Parts.{Digits}
use Rattle.digits.proofs.Decimals.{digit_range, value_digit, value_most, leading, number_lt}

pub digit_yes : (d : ℕ) → is_digit (48 + d % 10) ≡ true
digit_yes d = join (le-leb 48 (48 + d % 10) (omega arith)) (le-leb (48 + d % 10) 57 (omega arith))

-- ---- all bytes of a text, by their places

behind : (x : ℕ) (l : List ℕ) (i w : ℕ) → bytes_at (x ∷ l) (suc i) w ≡ bytes_at l i w
behind x l i zero = refl
behind x l i (suc w) = rw (suc-add) (ap (λ (r : List ℕ). get_or l i 0 ∷ r) (behind x l (i + 1) w))

pub all_bytes : (l : List ℕ) → bytes_at l 0 (length l) ≡ l
all_bytes [] = refl
all_bytes (x ∷ l) = ap (λ (r : List ℕ). x ∷ r) (behind x l 0 (length l) ∙ all_bytes l)

-- ---- a number in two parts

spelled_from : (l : List ℕ) (a : ℕ) → spelled a l ≡ a * 10 ^ length l + spelled 0 l
unfolding spelled
spelled_from [] a = omega arith
spelled_from (b ∷ l) a =
    spelled_from l (a * 10 + digit_value b)
    ∙ rw (pow-succ', add-mul, mul_assoc, add_assoc)
    (ap (λ (n : ℕ). a * (10 * 10 ^ length l) + n) (sym (spelled_from l (0 * 10 + digit_value b) ∙ ap (λ (d : ℕ). d * 10 ^ length l + spelled 0 l) (omega arith))))

spelled_join : (s : List ℕ) (i w v a : ℕ) → spelled a (bytes_at s i (w + v)) ≡ spelled (spelled a (bytes_at s i w)) (bytes_at s (i + w) v)
unfolding spelled
spelled_join s i zero v a = rw (zero-add, add-zero)
spelled_join s i (suc w) v a =
    let e : i + 1 + w ≡ i + suc w = omega arith in
    rw (suc-add) (spelled_join s (i + 1) w v (a * 10 + digit_value (get_or s i 0)) ∙ ap (λ (j : ℕ). spelled (spelled (a * 10 + digit_value (get_or s i 0)) (bytes_at s (i + 1) w)) (bytes_at s j v)) e)

pub number_join : (s : List ℕ) (i w v : ℕ) → number_at s i (w + v) ≡ number_at s i w * 10 ^ v + number_at s (i + w) v
number_join s i w v =
    spelled_join s i w v 0 ∙ spelled_from (bytes_at s (i + w) v) (number_at s i w) ∙ rw (bytes_length s (i + w) v)

-- bytes that count nothing
pub number_none : (s : List ℕ) (i w : ℕ) → ((x : ℕ) → i ≤ x → digit_value (get_or s x 0) ≡ 0) → number_at s i w ≡ 0
unfolding spelled
number_none s i zero h = refl
number_none s i (suc w) h =
    let e : 0 * 10 + digit_value (get_or s i 0) ≡ 0 = omega (arith, h i (omega arith)) in
    ap (λ (a : ℕ). spelled a (bytes_at s (i + 1) w)) e ∙ number_none s (i + 1) w (λ x l. h x (omega arith))

-- so a number that ends with v such bytes is whole in tens to the v
pub number_whole : (s : List ℕ) (i w v : ℕ) → ((x : ℕ) → i + w ≤ x → digit_value (get_or s x 0) ≡ 0) → number_at s i (w + v) % 10 ^ v ≡ 0
number_whole s i w v h =
    let e : number_at s i (w + v) ≡ 0 + number_at s i w * 10 ^ v = number_join s i w v ∙ omega (arith, number_none s (i + w) v h) in
    ap (λ (n : ℕ). n % 10 ^ v) e ∙ add-mul-mod_self_right 0 (number_at s i w) (10 ^ v) ∙ zero-mod (10 ^ v)

-- ---- digits are those of the number that they spell

pub again : (l : List ℕ) (a : ℕ) → all_digits l ≡ true → digits_of (length l) (spelled a l) ≡ l
unfolding spelled all_digits
again [] a e = refl
again (b ∷ l) a e =
    let p = 10 ^ length l in
    let v = digit_value b in
    let n = spelled (a * 10 + v) l in
    let h : spelled 0 l < p = subst (λ (r : List ℕ). spelled 0 r < p) (all_bytes l) (number_lt l 0 (length l)) in
    let q : n / p ≡ a * 10 + v = ap (λ (m : ℕ). m / p) (spelled_from l (a * 10 + v)) ∙ mul-add-div_right {m = p} (one-le-pow (length l) 10 (lit< tt)) (a * 10 + v) (spelled 0 l) ∙ rw (div-eq_of_lt h) (omega arith) in
    let i : is_digit b ≡ true = and_l _ (all_digits l) e in
    let d : 48 + n / p % 10 ≡ b = rw q (omega (arith, value_most b, digit_range b i, value_digit b i)) in
    ap₂ ◌∷◌ d (again l (a * 10 + v) (and_r (is_digit b) _ e))

-- ---- some of the digits, and what they stand for

low_bits : (b : ℕ) → is_digit b ≡ true → b % 16 ≡ digit_value b
low_bits b e = omega (arith, digit_range b e, value_digit b e)

pub one_low : (s : List ℕ) (i : ℕ) → Digits s i 1 → get_or s i 0 % 16 ≡ number_at s i 1
unfolding spelled all_digits
one_low s i d = omega (arith, low_bits (get_or s i 0) (and_l _ true d.all))

digits_both : (s : List ℕ) (i w v : ℕ) → all_digits (bytes_at s i (w + v)) ≡ true → (all_digits (bytes_at s i w) ≡ true) × (all_digits (bytes_at s (i + w) v) ≡ true)
unfolding all_digits
digits_both s i zero v e = (refl, rw (add-zero) (rw (zero-add) at e))
digits_both s i (suc w) v e =
    let f = rw suc-add at e in
    let p = both (is_digit (get_or s i 0)) (all_digits (bytes_at s (i + 1) (w + v))) f in
    let r = digits_both s (i + 1) w v p.1 in
    let j : i + 1 + w ≡ i + suc w = omega arith in
    (join p.0 r.0, subst (λ (k : ℕ). all_digits (bytes_at s k v) ≡ true) j r.1)

pub digits_front : {s : List ℕ} {i : ℕ} (w v : ℕ) → Digits s i (w + v) → Digits s i w
digits_front {s} {i} w v d = record { inside = omega (arith, d.inside); all = (digits_both s i w v d.all).0 }

pub digits_end : {s : List ℕ} {i : ℕ} (w v : ℕ) → Digits s i (w + v) → Digits s (i + w) v
digits_end {s} {i} w v d = record { inside = omega (arith, d.inside); all = (digits_both s i w v d.all).1 }

-- one digit more
pub one_more : {s : List ℕ} {i w : ℕ} → Digits s i w → (k : ℕ) → k < w → number_at s i k * 10 + get_or s (i + k) 0 % 16 ≡ number_at s i (k + 1)
one_more {s} {i} {w} d k h =
    let v = w - (k + 1) in
    let e : w ≡ k + (1 + v) = omega arith in
    let one = digits_front 1 v (digits_end k (1 + v) (subst (λ (j : ℕ). Digits s i j) e d)) in
    omega (arith, number_join s i k 1, one_low s (i + k) one)

pub number_few : (s : List ℕ) (i k : ℕ) → k ≤ 6 → number_at s i k < 1000000
number_few s i k h = let p : 10 ^ k ≤ 10 ^ 6 = pow-le-pow_right (lit< tt) h in omega (arith, number_lt s i k)

-- ---- zeros in place of digits that are not shown

all_zeros : (w n : ℕ) → n % 10 ^ w ≡ 0 → replicate w 48 ≡ digits_of w n
all_zeros zero n e = refl
all_zeros (suc w) n e =
    let p = 10 ^ w in
    let q = n / p % 10 in
    let parts : q * p + n % p ≡ 0 = leading w n ∙ e in
    let least : q ≤ q * p = at_least q p (one-le-pow w 10 (lit< tt)) in
    let digit : 48 ≡ 48 + q = omega arith in
    ap₂ ◌∷◌ digit (all_zeros w n (omega arith))
  where
    at_least : (q p : ℕ) → 1 ≤ p → q ≤ q * p
    at_least q zero h = elim h [ ]
    at_least q (suc p) h = omega arith

pub filled_up : (w k n : ℕ) → k ≤ w → n % 10 ^ (w - k) ≡ 0 → take k (digits_of w n) ++ drop k (replicate w 48) ≡ digits_of w n
filled_up w zero n h e = all_zeros w n (rw sub-zero at e)
filled_up zero (suc k) n h e = absurd (not-suc-le-zero h)
filled_up (suc w) (suc k) n h e = ap (λ (l : List ℕ). (48 + n / 10 ^ w % 10) ∷ l) (filled_up w k n (le_of_suc-le-suc h) (rw suc-sub-suc at e))
