-- Words: the next one of a line, one by its first byte, and what each gives.
-- Assumes nothing.
use mathlib.Core.Path.{◌≡◌, refl}
use mathlib.Core.Bool.{Bool, true, false, cond}
use mathlib.Core.List.{List, [], ◌∷◌}
use Prim.Native.Nat.{ℕ, zero, suc, ◌+◌, ◌-◌, ◌*◌, ◌^◌, ◌≤◌, ◌<◌}
use native.Mathlib.Nat.{pow-suc, lt_of_lt_of_le, pow-le-pow_right}
use native.Mathlib.Numerals.{add-one}
use native.Mathlib.Omega.{arith}
use borrow.Author.Tests.{lt-ltb, le-ltb, eq-eqb, ne_eqb}
use lib.Dec.{eqb, lit<}
use lib.ListN.{length, take, drop, get_or, drop_of_length-le, get_or-eq_default}
use lib.Seq.{drop-cons, take_all}
use mir.Syntax.{Width}
use mir.Val.{SFits, hbits}
use Rattle.std.specs.Prelude.{Option, Some, None}
use lib.IntN.{ℤ}
use Rattle.digits.specs.Decimals.{decimal_of, Within}
use Rattle.digits.proofs.Decimals.{decimal_within}
use Rattle.lines.specs.Words.{before}
use Rattle.lines.specs.Pairs.{nibble, paired, hex_of, hex_into}
use Rattle.lines.proofs.Words.{before_front}
use Rattle.lines.proofs.Pairs.{into_none}
use Rattle.fields.specs.Words.{word_at, end_at, dashed, natural_of, negative, positive, integer_of, hex_word, nibbled, pattern_of}

-- ---- the next word and its end

module _ (s : List ℕ) (i : ℕ) where
  pub word_none : (get_or s i 0 ≡ 32 → ⊥) → ([] ≡ word_at s i) × (0 ≡ end_at s i)
  unfolding word_at end_at
  word_none n = (rw (ne_eqb (get_or s i 0) 32 n), rw (ne_eqb (get_or s i 0) 32 n))

  pub word_past : length s ≤ i → ([] ≡ word_at s i) × (0 ≡ end_at s i)
  word_past h = word_none (λ e. let z : get_or s i 0 ≡ 0 = get_or-eq_default s 0 h in omega arith)

  pub word_some : {e : ℕ} → get_or s i 0 ≡ 32 → e ≡ i + 1 + length (before 32 (drop (i + 1) s)) → (take (e - (i + 1)) (drop (i + 1) s) ≡ word_at s i) × (e ≡ end_at s i)
  unfolding word_at end_at
  word_some {e} q p =
      let n : e - (i + 1) ≡ length (before 32 (drop (i + 1) s)) = omega arith in
      (rw (eq-eqb (get_or s i 0) 32 q, n) (before_front 32 (drop (i + 1) s)), rw (eq-eqb (get_or s i 0) 32 q) p)

-- ---- a word by its first byte

module _ {A : Type 0} (none : A) (minus plain : List ℕ → A) where
  pub dash_empty : (s : List ℕ) → length s ≡ 0 → none ≡ dashed none minus plain s
  unfolding dashed
  dash_empty [] h = refl
  dash_empty (b ∷ s) h = absurd (omega arith)

  pub dash_minus : (s : List ℕ) → (length s ≡ 0 → ⊥) → get_or s 0 0 ≡ 45 → minus (take (length s - 1) (drop 1 s)) ≡ dashed none minus plain s
  unfolding dashed
  dash_minus [] h e = absurd (h refl)
  dash_minus (b ∷ s) h e = rw (eq-eqb b 45 e, take_all (suc (length s) - 1) s (omega arith))

  pub dash_plain : (s : List ℕ) → (length s ≡ 0 → ⊥) → (get_or s 0 0 ≡ 45 → ⊥) → plain s ≡ dashed none minus plain s
  unfolding dashed
  dash_plain [] h e = absurd (h refl)
  dash_plain (b ∷ s) h e = rw (ne_eqb b 45 e)

-- ---- numbers

pub within_more : (m n : ℕ) (a : Option ℕ) → m ≤ n → Within m a → Within n a
within_more m n (Some k) h w = omega arith
within_more m n None h w = tt

pub natural_within : (most : ℕ) (s : List ℕ) → Within most (natural_of most s)
unfolding natural_of dashed
natural_within most [] = tt
natural_within most (b ∷ s) = go (eqb b 45)
  where
    go : (t : Bool) → Within most (cond t (decimal_of 0 s) (decimal_of most (b ∷ s)))
    go true = within_more 0 most (decimal_of 0 s) (omega arith) (decimal_within 0 s)
    go false = decimal_within most (b ∷ s)

abbrev pub Fitting : Width → Option ℤ → Type 0
Fitting w (Some z) = SFits w z
Fitting w None = Unit {0}

module _ (w : Width) (most : ℕ) (h : most < 2 ^ hbits w) where
  negative_fits : (a : Option ℕ) → Within (most + 1) a → Fitting w (negative a)
  negative_fits None k = tt
  negative_fits (Some zero) k = record { sfits = omega arith }
  negative_fits (Some (suc n)) k = record { sfits = omega arith }

  positive_fits : (a : Option ℕ) → Within most a → Fitting w (positive a)
  positive_fits None k = tt
  positive_fits (Some n) k = record { sfits = omega arith }

  pub integer_fits : (s : List ℕ) → Fitting w (integer_of most s)
  unfolding integer_of dashed
  integer_fits [] = tt
  integer_fits (b ∷ s) = go (eqb b 45)
    where
      go : (t : Bool) → Fitting w (cond t (negative (decimal_of (most + 1) s)) (positive (decimal_of most (b ∷ s))))
      go true = negative_fits (decimal_of (most + 1) s) (decimal_within (most + 1) s)
      go false = positive_fits (decimal_of most (b ∷ s)) (decimal_within most (b ∷ s))

-- ---- bytes

dash_none : (s : List ℕ) → get_or s 0 0 ≡ 45 → paired s ≡ []
unfolding paired nibble
dash_none [] e = refl
dash_none (a ∷ []) e = refl
dash_none (a ∷ b ∷ s) e = rw e

after_dash : List ℕ → Option ℕ
after_dash rest = cond (eqb (length rest) 0) (Some 0) None

module _ (room : ℕ) (s : List ℕ) (some : length s ≡ 0 → ⊥) where
  word_dash : get_or s 0 0 ≡ 45 → after_dash (take (length s - 1) (drop 1 s)) ≡ hex_word room s
  unfolding hex_word after_dash
  word_dash e = dash_minus None after_dash (hex_of room) s some e

  pub word_plain : (get_or s 0 0 ≡ 45 → ⊥) → hex_of room s ≡ hex_word room s
  unfolding hex_word after_dash
  word_plain e = dash_plain None after_dash (hex_of room) s some e

empty_none : (s : List ℕ) → length s ≡ 0 → paired s ≡ []
unfolding paired
empty_none [] h = refl
empty_none (b ∷ s) h = absurd (omega arith)

module _ (out s : List ℕ) where
  pub hex_empty : length s ≡ 0 → (None ≡ hex_word (length out) s) × (out ≡ hex_into out s)
  unfolding hex_word
  hex_empty h = (dash_empty None _ (hex_of (length out)) s h, into_none out s (empty_none s h))

  module _ (some : length s ≡ 0 → ⊥) (e : get_or s 0 0 ≡ 45) where
    module _ {empty : Bool} (h : eqb (length (take (length s - 1) (drop 1 s))) 0 ≡ empty) where
      pub hex_dash : empty ≡ true → (Some 0 ≡ hex_word (length out) s) × (out ≡ hex_into out s)
      unfolding after_dash
      hex_dash q = (rw (h, q) at (word_dash (length out) s some e), into_none out s (dash_none s e))

      pub hex_dashed : empty ≡ false → (None ≡ hex_word (length out) s) × (out ≡ hex_into out s)
      unfolding after_dash
      hex_dashed q = (rw (h, q) at (word_dash (length out) s some e), into_none out s (dash_none s e))

-- ---- sixteen digits
pub nibbled_more : (n i b : ℕ) (s : List ℕ) → i < length s → b ≡ nibble (get_or s i 0) → b < 16 → nibbled n (drop i s) ≡ nibbled (n * 16 + b) (drop (i + 1) s)
unfolding nibbled
nibbled_more n i b s h e l = rw (drop-cons s i 0 h, ← e, lt-ltb b 16 l, add-one)

pub nibbled_bad : (n i b : ℕ) (s : List ℕ) → i < length s → b ≡ nibble (get_or s i 0) → 16 ≤ b → nibbled n (drop i s) ≡ None
unfolding nibbled
nibbled_bad n i b s h e l = rw (drop-cons s i 0 h, ← e, le-ltb b 16 l)

pub nibbled_end : (n i : ℕ) (s : List ℕ) → length s ≤ i → nibbled n (drop i s) ≡ Some n
unfolding nibbled
nibbled_end n i s h = rw (drop_of_length-le s h)

pub pattern_short : (s : List ℕ) → (length s ≡ 16 → ⊥) → None ≡ pattern_of s
unfolding pattern_of
pattern_short s h = rw (ne_eqb (length s) 16 h)

pub pattern_of_lem : (s : List ℕ) → length s ≡ 16 → nibbled 0 s ≡ pattern_of s
unfolding pattern_of
pattern_of_lem s h = rw (eq-eqb (length s) 16 h)

pub below : (n i : ℕ) → n < 16 ^ i → i < 16 → n < 16 ^ 15
below n i h l = lt_of_lt_of_le h (pow-le-pow_right (lit< tt) {i = i} {j = 15} (omega arith))

pub more_digits : (n i b : ℕ) → n < 16 ^ i → b < 16 → n * 16 + b < 16 ^ (i + 1)
more_digits n i b h l = rw (add-one, pow-suc) (omega arith)
