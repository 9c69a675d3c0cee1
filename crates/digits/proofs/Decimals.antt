-- Digits: what is written at a width is what is spelled there, a number of free width both ways, and its sign.
-- Assumes nothing.
use mathlib.Core.Path.{◌≡◌, refl, sym, ap, ap₂, subst, ◌∙◌}
use mathlib.Core.Bool.{Bool, true, false, cond, ◌&&◌}
use mathlib.Core.List.{List, [], ◌∷◌, ◌++◌}
use Prim.Native.Nat.{ℕ, zero, suc, ◌+◌, ◌-◌, ◌*◌, ◌/◌, ◌%◌, ◌^◌, ◌≤◌, ◌<◌}
use native.Mathlib.Nat.{zero-add, zero-mul, one-mul, add-mul, mul_assoc, add_assoc, sub-zero, suc-add, suc-sub-suc, pow-succ', mod-eq_of_lt, one-le-pow, mul-le-mul_right, lt_of_lt_of_le, le_of_suc-le-suc, not-suc-le-zero, div-add-mod', div-div-eq-div-mul, div-lt_iff_lt-mul, le-div_iff_mul-le, mul_comm, mul-div_cancel}
use native.Mathlib.Numerals.{add-one}
use native.Mathlib.Omega.{arith}
use borrow.Author.Tests.{leb-true, le-leb, lt-leb, lt-ltb, le-ltb, ltb-true}
use lib.Arith.{mod-mul}
use lib.Dec.{T, lit<, leb, ltb}
use lib.IntN.{ℤ, pos, negsuc, nat_abs}
use lib.ListN.{length, take, drop, get_or, set, drop_of_length-le}
use lib.Pow.{pow-add}
use lib.Seq.{drop-cons, drop_at, set_split, length-take-le}
use lib.Signed.{lt_z}
use mir.Syntax.{Width}
use mir.Val.{SFits, to_z, of_z}
use mir.Facts.{to_z-of_z}
use Rattle.std.specs.Prelude.{Option, Some, None}
use Rattle.laws.proofs.Cases.{pick, and_l, and_r, join}
use Rattle.digits.specs.Bytes.{bytes_at}
use Rattle.digits.specs.Decimals.{is_digit, digit_value, digit_at, all_digits, spelled, number_at, digits_of, width_of, decimal_text, signed_text, decimal_of, Within}
use Rattle.digits.proofs.Bytes.{bytes_length}

-- ---- a digit

module _ (b : ℕ) where
  pub digit_range : is_digit b ≡ true → (48 ≤ b) × (b ≤ 57)
  digit_range e = (leb-true 48 b (and_l _ (leb b 57) e), leb-true b 57 (and_r (leb 48 b) _ e))

  pub value_digit : is_digit b ≡ true → b - 48 ≡ digit_value b
  unfolding digit_value
  value_digit e = rw e

-- ---- at a fixed width

pub place_digit : (d : ℕ) → is_digit (48 + d % 10) ≡ true
place_digit d = join (le-leb 48 (48 + d % 10) (omega arith)) (le-leb (48 + d % 10) 57 (omega arith))

pub digits_all : (w n : ℕ) → all_digits (digits_of w n) ≡ true
unfolding all_digits
digits_all zero n = refl
digits_all (suc w) n = join (place_digit (n / 10 ^ w)) (digits_all w n)

value_back : (d : ℕ) → digit_value (48 + d % 10) ≡ d % 10
unfolding digit_value
value_back d = rw (le-leb 48 (48 + d % 10) (omega arith), le-leb (48 + d % 10) 57 (omega arith)) (omega arith)

pub value_most : (b : ℕ) → digit_value b ≤ 9
unfolding digit_value
value_most b = pick (λ (v : ℕ). v ≤ 9) (is_digit b) (λ e. omega (arith, digit_range b e)) (λ e. omega arith)

-- the leading digit and the others
pub leading : (w n : ℕ) → n / 10 ^ w % 10 * 10 ^ w + n % 10 ^ w ≡ n % 10 ^ suc w
leading w n = rw (pow-succ', mod-mul n {m = 10} {c = 10 ^ w} (lit< tt) (one-le-pow w 10 (lit< tt)))

lead : (w n a : ℕ) → (a * 10 + n / 10 ^ w % 10) * 10 ^ w + n % 10 ^ w ≡ a * 10 ^ suc w + n % 10 ^ suc w
lead w n a = rw (← leading w n, pow-succ', add-mul, mul_assoc, add_assoc)

spelled_digits : (w n a : ℕ) → spelled a (digits_of w n) ≡ a * 10 ^ w + n % 10 ^ w
unfolding spelled
spelled_digits zero n a = omega arith
spelled_digits (suc w) n a =
    ap (λ (d : ℕ). spelled (a * 10 + d) (digits_of w n)) (value_back (n / 10 ^ w)) ∙ spelled_digits w n _ ∙ lead w n a

pub number_back : (w : ℕ) {n : ℕ} → n < 10 ^ w → spelled 0 (digits_of w n) ≡ n
number_back w {n} h = spelled_digits w n 0 ∙ rw (zero-mul, zero-add) (mod-eq_of_lt h)

-- missing bytes are zeros
zeros : (w i a : ℕ) → spelled a (bytes_at [] i w) ≡ a * 10 ^ w
unfolding spelled digit_value
zeros zero i a = omega arith
zeros (suc w) i a = zeros w (i + 1) (a * 10 + 0) ∙ rw (pow-succ', ← mul_assoc) (ap (λ (b : ℕ). b * 10 ^ w) (omega arith))

shift : (x : ℕ) (l : List ℕ) (i w : ℕ) → bytes_at (x ∷ l) (suc i) w ≡ bytes_at l i w
shift x l i zero = refl
shift x l i (suc w) = rw (suc-add) (ap (λ (r : List ℕ). get_or l i 0 ∷ r) (shift x l (i + 1) w))

-- the first k of w digits, and zeros for the others
pub padded : (w k n a : ℕ) → k ≤ w → spelled a (bytes_at (take k (digits_of w n)) 0 w) + n % 10 ^ (w - k) ≡ a * 10 ^ w + n % 10 ^ w
unfolding spelled
padded w zero n a h = ap₂ (λ (v m : ℕ). v + n % 10 ^ m) (zeros w 0 a) (sub-zero w)
padded zero (suc k) n a h = absurd (not-suc-le-zero h)
padded (suc w) (suc k) n a h =
    rw (suc-sub-suc, shift (digit_at n (10 ^ w)) (take k (digits_of w n)) 0 w)
    (ap (λ (d : ℕ). spelled (a * 10 + d) (bytes_at (take k (digits_of w n)) 0 w) + n % 10 ^ (w - k)) (value_back (n / 10 ^ w))
    ∙ padded w k n _ (le_of_suc-le-suc h) ∙ lead w n a)

-- digits that are not shown may as well be zero
pub digits_cut : (w k j n : ℕ) → w ≡ k + j → take k (digits_of w n) ≡ take k (digits_of w (n - n % 10 ^ j))
digits_cut w zero j n e = refl
digits_cut zero (suc k) j n e = absurd (omega arith)
digits_cut (suc w) (suc k) j n e =
    let whole : n - n % 10 ^ j ≡ n / 10 ^ j * 10 ^ j = omega (arith, div-add-mod' n (10 ^ j)) in
    let places : w ≡ j + k = omega arith in
    let split : 10 ^ w ≡ 10 ^ j * 10 ^ k = ap (λ (v : ℕ). 10 ^ v) places ∙ pow-add 10 j k in
    let same : n / 10 ^ w ≡ (n - n % 10 ^ j) / 10 ^ w =
    rw (split, ← div-div-eq-div-mul, ← div-div-eq-div-mul, whole, mul-div_cancel (n / 10 ^ j) {n = 10 ^ j} (one-le-pow j 10 (lit< tt))) in
    ap₂ (λ (q : ℕ) (l : List ℕ). (48 + q % 10) ∷ l) same (digits_cut w k j n (omega arith))

-- ---- how large a spelled number is

pub spelled_append : (n : ℕ) (a b : List ℕ) → spelled n (a ++ b) ≡ spelled (spelled n a) b
unfolding spelled
spelled_append n [] b = refl
spelled_append n (x ∷ a) b = spelled_append (n * 10 + digit_value x) a b

spelled_lt : (l : List ℕ) (a : ℕ) → spelled a l < (a + 1) * 10 ^ length l
unfolding spelled
spelled_lt [] a = omega arith
spelled_lt (b ∷ l) a =
    lt_of_lt_of_le (spelled_lt l (a * 10 + digit_value b))
    (rw (pow-succ', ← mul_assoc) (mul-le-mul_right (10 ^ length l) (omega (arith, value_most b))))

pub number_lt : (s : List ℕ) (i w : ℕ) → number_at s i w < 10 ^ w
number_lt s i w =
    let h = spelled_lt (bytes_at s i w) 0 in
    rw (bytes_length s i w, zero-add, one-mul) at h

spelled_low : (l : List ℕ) (a : ℕ) → a ≤ spelled a l
unfolding spelled
spelled_low [] a = omega arith
spelled_low (b ∷ l) a = omega (arith, spelled_low l (a * 10 + digit_value b))

-- ---- free width, in

-- what the bytes after a number give
abbrev pub judged : ℕ → ℕ → List ℕ → Option ℕ
judged most n s = cond (all_digits s && leb (spelled n s) most) (Some (spelled n s)) None

pub decimal_none : (most : ℕ) (s : List ℕ) → length s ≡ 0 → None ≡ decimal_of most s
unfolding decimal_of
decimal_none most s h = rw (lt-leb 1 (length s) (omega arith))

pub decimal_some : (most : ℕ) (s : List ℕ) → (length s ≡ 0 → ⊥) → judged most 0 s ≡ decimal_of most s
unfolding decimal_of
decimal_some most [] h = absurd (h refl)
decimal_some most (b ∷ s) h = rw (le-leb 1 (suc (length s)) (omega arith))

pub judged_end : (most n i : ℕ) (s : List ℕ) → length s ≤ i → n ≤ most → Some n ≡ judged most n (drop i s)
unfolding all_digits spelled
judged_end most n i s h l = rw (drop_of_length-le s h, le-leb n most l)

-- one turn: `d` is what the bytes from i on give
module _ (most n i : ℕ) (s : List ℕ) {d : Option ℕ} (h : i < length s) (inv : judged most n (drop i s) ≡ d) where
  pub turn_other : is_digit (get_or s i 0) ≡ false → None ≡ d
  unfolding all_digits
  turn_other e = rw (drop-cons s i 0 h, e) at inv

  module _ (e : is_digit (get_or s i 0) ≡ true) {v : ℕ} (p : v ≡ digit_value (get_or s i 0)) where
    next : judged most (n * 10 + v) (drop (i + 1) s) ≡ d
    unfolding all_digits spelled
    next =
        let q : drop i s ≡ get_or s i 0 ∷ drop (i + 1) s = rw add-one (drop-cons s i 0 h) in
        let f : judged most n (get_or s i 0 ∷ drop (i + 1) s) ≡ d = ap (judged most n) (sym q) ∙ inv in
        ap (λ (x : ℕ). judged most (n * 10 + x) (drop (i + 1) s)) p ∙ rw e at f

    pub turn_more : judged most (n * 10 + v) (drop (i + 1) s) ≡ d
    turn_more = next

    pub turn_large : most < n * 10 + v → None ≡ d
    turn_large l = never (all_digits (drop (i + 1) s)) _ (lt-leb _ most (omega (arith, spelled_low (drop (i + 1) s) (n * 10 + v)))) next
      where
        never : (t : Bool) {u : Bool} (x : Option ℕ) → u ≡ false → cond (t && u) x None ≡ d → None ≡ d
        never true x q f = rw q at f
        never false x q f = f

-- a number is at most what it may be
pub decimal_within : (most : ℕ) (s : List ℕ) → Within most (decimal_of most s)
unfolding decimal_of
decimal_within most s =
    pick (Within most) (leb 1 (length s) && (all_digits s && leb (spelled 0 s) most))
    (λ e. leb-true (spelled 0 s) most (and_r (all_digits s) _ (and_r (leb 1 (length s)) _ e))) (λ e. tt)

-- ---- free width, out

pub width_one : (m n : ℕ) → 1 ≤ m → n < 10 → width_of m n ≡ 1
unfolding width_of
width_one zero n h l = absurd (omega arith)
width_one (suc m) n h l = rw (lt-ltb n 10 l)

pub width_more : (m n : ℕ) → 10 ≤ n → width_of (suc m) n ≡ suc (width_of m (n / 10))
unfolding width_of
width_more m n h = rw (le-ltb n 10 h)

pub power_once : (b k : ℕ) → 1 ≤ k → b ^ k ≡ b * b ^ (k - 1)
power_once b k h =
    let s : k ≡ suc (k - 1) = omega arith in
    ap (λ (j : ℕ). b ^ j) s ∙ pow-succ' b (k - 1)

-- n against a power of ten, and what is above the place before it against ten
module _ (n k : ℕ) (h : 1 ≤ k) where
  pub few_tens : n < 10 ^ k → n / 10 ^ (k - 1) < 10
  few_tens l = (div-lt_iff_lt-mul (one-le-pow (k - 1) 10 (lit< tt))).1 (rw (power_once 10 k h) at l)

  pub more_tens : 10 ^ k ≤ n → 10 ≤ n / 10 ^ (k - 1)
  more_tens l = (le-div_iff_mul-le (one-le-pow (k - 1) 10 (lit< tt))).1 (rw (power_once 10 k h) at l)

  pub next_tens : n / 10 ^ (k - 1) / 10 ≡ n / 10 ^ (k + 1 - 1)
  next_tens =
      let s : k + 1 - 1 ≡ k = omega arith in
      div-div-eq-div-mul n (10 ^ (k - 1)) 10 ∙ ap (λ (p : ℕ). n / p) (mul_comm (10 ^ (k - 1)) 10 ∙ sym (power_once 10 k h) ∙ ap (λ (j : ℕ). 10 ^ j) (sym s))

pub width_last : (n : ℕ) → width_of 1 n ≡ 1
unfolding width_of
width_last n = go (ltb n 10)
  where
    go : (t : Bool) → ◌≡◌ {A = ℕ} (cond t 1 1) 1
    go true = refl
    go false = refl

pub width_few : (m n : ℕ) → width_of m n ≤ m
unfolding width_of
width_few zero n = omega arith
width_few (suc m) n = pick (λ (k : ℕ). k ≤ suc m) (ltb n 10) (λ e. omega arith) (λ e. omega (arith, width_few m (n / 10)))

pub digits_length : (w n : ℕ) → length (digits_of w n) ≡ w
digits_length zero n = refl
digits_length (suc w) n = ap suc (digits_length w n)

pub decimal_few : (n : ℕ) → length (decimal_text n) ≤ 20
unfolding decimal_text
decimal_few n = omega (arith, digits_length (width_of 20 n) n, width_few 20 n)

-- the last w of more digits
last_digits : (j w n : ℕ) → drop j (digits_of (j + w) n) ≡ digits_of w n
last_digits zero w n = rw zero-add
last_digits (suc j) w n = rw suc-add (last_digits j w n)

pub last_are : (n : ℕ) {k : ℕ} → k ≡ width_of 20 n → k ≤ 20 → drop (21 - k) (digits_of 21 n) ≡ decimal_text n
unfolding decimal_text
last_are n {k} e h =
    let q : 21 ≡ 21 - k + k = omega arith in
    ap (λ (m : ℕ). drop (21 - k) (digits_of m n)) q ∙ last_digits (21 - k) k n ∙ ap (λ (m : ℕ). digits_of m n) e

-- ---- the sign

pub text_low : (z : ℤ) → lt_z z (pos 0) ≡ true → 45 ∷ decimal_text (nat_abs z) ≡ signed_text z
unfolding signed_text
text_low (pos n) e = let h = ltb-true n 0 e in absurd (omega arith)
text_low (negsuc n) e = refl

pub text_high : (z : ℤ) → lt_z z (pos 0) ≡ false → decimal_text (nat_abs z) ≡ signed_text z
unfolding signed_text
text_high (pos n) e = refl
text_high (negsuc n) e = absurd (subst T e tt)

-- what a test on the bits says of the integer
pub sign_is : {w : Width} {z : ℤ} {b : Bool} → SFits w z → lt_z (to_z w (of_z w z)) (pos 0) ≡ b → lt_z z (pos 0) ≡ b
sign_is f e = ap (λ y. lt_z y (pos 0)) (sym (to_z-of_z f)) ∙ e

pub signed_few : (z : ℤ) → length (signed_text z) ≤ 21
unfolding signed_text
signed_few (pos n) = omega (arith, decimal_few n)
signed_few (negsuc n) = omega (arith, decimal_few (suc n))

-- a byte stored before the text
pub put_before : (l : List ℕ) (i v : ℕ) {t : List ℕ} → 1 ≤ i → i ≤ length l → drop i l ≡ t → drop (i - 1) (set l (i - 1) v) ≡ v ∷ t
put_before l i v h g e =
    let n : suc (i - 1) ≡ i = omega arith in
    ap (drop (i - 1)) (set_split l (i - 1) v (omega arith))
    ∙ drop_at (take (i - 1) l) (v ∷ drop (suc (i - 1)) l) (i - 1) (length-take-le (i - 1) l (omega arith))
    ∙ ap (λ (k : ℕ). v ∷ drop k l) n ∙ ap (λ (k : List ℕ). v ∷ k) e
