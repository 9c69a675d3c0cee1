-- The parts of a field one after another, as the reader finds them: blanks, one byte of a kind, digits.
-- Assumes nothing.
use Prim.Native.Nat.{ℕ, suc, ◌+◌, ◌*◌, ◌^◌, ◌≤◌, ◌<◌}
use mathlib.Core.Path.{◌≡◌, refl, sym, ap, ◌∙◌}
use mathlib.Core.Bool.{Bool, true, false, cond}
use mathlib.Core.List.{List, [], ◌∷◌}
use native.Mathlib.Nat.{pow-succ', pow-le-pow_right, lt_of_lt_of_le}
use native.Mathlib.Numerals.{add-one}
use native.Mathlib.Omega.{arith}
use borrow.Author.Tests.{eq-eqb, eqb-true}
use lib.Dec.{eqb, lit<}
use lib.ListN.{length, drop, get_or}
use Rattle.laws.proofs.Cases.{by_truth, and_l, and_r, join}
use Rattle.digits.specs.Decimals.{is_digit, digit_value, spelled}
use Rattle.lines.specs.Words.{leading, is_blank}
use Rattle.lines.proofs.Words.{leading_more, leading_stop, leading_none}
use Rattle.columns.specs.Columns.{all_blank}
use Rattle.columns.specs.Decimals.{Digits}

-- ---- blanks

pub leading_all : (s : List ℕ) → all_blank s ≡ true → leading is_blank s ≡ s
unfolding all_blank leading
leading_all [] e = refl
leading_all (b ∷ s) e = rw (and_l (is_blank b) (all_blank s) e) (ap (λ (l : List ℕ). b ∷ l) (leading_all s (and_r (is_blank b) (all_blank s) e)))

all_leading : (s : List ℕ) → length (leading is_blank s) ≡ length s → all_blank s ≡ true
unfolding all_blank leading
all_leading [] e = refl
all_leading (b ∷ s) e = go (is_blank b) refl e (all_leading s)
  where
    go : (t : Bool) → is_blank b ≡ t → length (cond t (b ∷ leading is_blank s) []) ≡ suc (length s) → (length (leading is_blank s) ≡ length s → all_blank s ≡ true) → all_blank (b ∷ s) ≡ true
    go true p q ih = join p (ih (omega arith))
    go false p q ih = absurd (omega arith)

-- blank is what blanks fill
pub blank_is : (s : List ℕ) {r : ℕ} → r ≡ length (leading is_blank s) → eqb r (length s) ≡ all_blank s
blank_is s {r} e = by_truth (eqb r (length s)) (all_blank s)
    (λ h. all_leading s (sym e ∙ eqb-true r (length s) h))
    (λ h. eq-eqb r (length s) (e ∙ ap length (leading_all s h)))

-- ---- digits

-- a number of so many digits
below : (n i k : ℕ) → n < 10 ^ i → i ≤ k → n < 10 ^ k
below n i k h l = lt_of_lt_of_le h (pow-le-pow_right (lit< tt) {i = i} {j = k} l)

pub low : (n i : ℕ) → n < 10 ^ i → i ≤ 17 → n < 100000000000000000
low n i h l = below n i 17 h l

pub later_low : {n i j : ℕ} → n < 10 ^ i → i ≤ j → n < 10 ^ j
later_low {n} {i} {j} h l = below n i j h l

-- up to place i the digits from `from` on are read
pub record Reads (s : List ℕ) (from before number i : ℕ) : Type 0 where
  pub same : spelled number (leading is_digit (drop i s)) ≡ spelled before (leading is_digit (drop from s))
  pub ends : i + length (leading is_digit (drop i s)) ≡ from + length (leading is_digit (drop from s))
  pub small : number < 10 ^ i
  pub inside : i ≤ length s
  pub few : length s ≤ 18

module _ {s : List ℕ} {from before : ℕ} where
  pub reads_none : from ≤ length s → length s ≤ 18 → before < 10 ^ from → Reads s from before before from
  reads_none l h b = record { same = refl; ends = refl; small = b; inside = l; few = h }

  module _ {number i : ℕ} (r : Reads s from before number i) where
    pub reads_low : i < length s → number < 100000000000000000
    reads_low l = low number i r.small (omega (arith, r.few))

    module _ (l : i < length s) (e : is_digit (get_or s i 0) ≡ true) {d : ℕ} (p : d ≡ digit_value (get_or s i 0)) (m : d ≤ 9) where
      pub reads_more : Reads s from before (number * 10 + d) (i + 1)
      unfolding spelled
      reads_more =
          let q = leading_more is_digit s i l e in
          let t : 10 ^ (i + 1) ≡ 10 * 10 ^ i = ap (λ (k : ℕ). 10 ^ k) (add-one i) ∙ pow-succ' 10 i in
          record {
            same = ap (λ (v : ℕ). spelled (number * 10 + v) (leading is_digit (drop (i + 1) s))) p ∙ ap (spelled number) (sym q) ∙ r.same;
            ends = omega (arith, ap length q, r.ends);
            small = omega (arith, t, r.small);
            inside = omega arith;
            few = r.few;
          }

    ended_at : leading is_digit (drop i s) ≡ [] → Digits s from before number i
    unfolding spelled
    ended_at q = record { is_number = ap (spelled number) (sym q) ∙ r.same; is_end = omega (arith, ap length q, r.ends); inside = r.inside; small = r.small }

    pub reads_stop : i < length s → is_digit (get_or s i 0) ≡ false → Digits s from before number i
    reads_stop l e = ended_at (leading_stop is_digit s i l e)

    pub reads_end : length s ≤ i → Digits s from before number i
    reads_end l = ended_at (leading_none is_digit s i l)
