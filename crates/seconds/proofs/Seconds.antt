-- Seconds: their sign, a fraction over zeros, both joined, and what stands in front of them.
-- Assumes nothing.
use mathlib.Core.Path.{◌≡◌, refl, sym, ap, ap₂, subst, ◌∙◌}
use mathlib.Core.Bool.{true, false}
use mathlib.Core.List.{List, [], ◌∷◌}
use Prim.Native.Nat.{ℕ, suc, ◌+◌, ◌-◌, ◌≤◌, ◌<◌}
use native.Mathlib.Nat.{zero-add}
use native.Mathlib.Omega.{arith}
use borrow.Author.Tests.{le-leb, lt-leb, ltb-true, eq-eqb, ne_eqb}
use lib.Dec.{T, leb, ltb}
use lib.IntN.{ℤ, pos, negsuc}
use lib.ListN.{length, take, drop, get_or, length-drop}
use lib.Seq.{take_all}
use lib.Signed.{lt_z}
use Rattle.std.specs.Prelude.{Option, Some, None, IfSome, MatchOption, IsSomeAnd}
use Rattle.seconds.specs.declared.Move.{Move}
use Rattle.seconds.specs.declared.Move.TheVariants.{On, Back}
use Rattle.laws.specs.Placed.{over}
use Rattle.laws.proofs.Cases.{pick}
use Rattle.digits.specs.Bytes.{ascii}
use Rattle.digits.specs.Decimals.{decimal_of, Within}
use Rattle.digits.proofs.Decimals.{decimal_within}
use Rattle.lines.specs.Words.{before, past}
use Rattle.lines.proofs.Words.{before_front}
use Rattle.lines.proofs.Lines.{past_drops}
use Rattle.seconds.specs.Seconds.{sign_text, fraction_given, joined, micros_given, ahead, backward, move_given, Short}

-- ---- the sign

pub sign_low : (z : ℤ) → lt_z z (pos 0) ≡ true → ascii "-" ≡ sign_text z
sign_low (pos n) e = let h = ltb-true n 0 e in absurd (omega arith)
sign_low (negsuc n) e = refl

pub sign_high : (z : ℤ) → lt_z z (pos 0) ≡ false → [] ≡ sign_text z
sign_high (pos n) e = refl
sign_high (negsuc n) e = absurd (subst T e tt)

-- ---- a fraction

module _ (s : List ℕ) where
  pub fraction_long : 6 < length s → None ≡ fraction_given s
  unfolding fraction_given
  fraction_long h = rw (lt-leb (length s) 6 h)

  pub fraction_short : length s ≤ 6 → decimal_of 999999 (over s (ascii "000000")) ≡ fraction_given s
  unfolding fraction_given
  fraction_short h = rw (le-leb (length s) 6 h)

  fraction_within : Within 999999 (fraction_given s)
  unfolding fraction_given
  fraction_within = pick (Within 999999) (leb (length s) 6) (λ e. decimal_within 999999 (over s (ascii "000000"))) (λ e. tt)

-- ---- seconds and their fraction

-- what stands before the point
pub front_is : (s : List ℕ) {e : ℕ} → e ≡ 0 + length (before 46 s) → take e s ≡ before 46 s
front_is s {e} p = let n : e ≡ length (before 46 s) = p ∙ zero-add _ in rw n (before_front 46 s)

module _ (s : List ℕ) {e i : ℕ} (p : e ≡ 0 + length (before 46 s)) (q : i ≡ past 46 s 0) where
  behind_is : take (length s - i) (drop i s) ≡ drop (length (before 46 s) + 1) s
  behind_is = take_all (length s - i) (drop i s) (simp length-drop (omega arith)) ∙ ap (λ (k : ℕ). drop k s) q ∙ past_drops 46 s 0

  pub joined_is : {w f : Option ℕ} → w ≡ decimal_of 999999999999 (take e s) → f ≡ fraction_given (take (length s - i) (drop i s)) → joined w f ≡ micros_given s
  unfolding micros_given
  joined_is a b = ap₂ joined (a ∙ ap (decimal_of 999999999999) (front_is s p)) (b ∙ ap fraction_given behind_is)

pub none_is : (s : List ℕ) {r : Option ℕ} → r ≡ None → None ≡ micros_given s → (r ≡ micros_given s) × Within 999999999999999999 r
none_is s e p = (e ∙ p, subst (Within 999999999999999999) (sym e) tt)

-- both are small
pub small : (s t : List ℕ) {w f : Option ℕ} {m n : ℕ} → w ≡ decimal_of 999999999999 s → f ≡ fraction_given t → w ≡ Some m → f ≡ Some n → (m ≤ 999999999999) × (n ≤ 999999)
small s t a b c d = (subst (Within 999999999999) (sym a ∙ c) (decimal_within 999999999999 s), subst (Within 999999) (sym b ∙ d) (fraction_within t))

-- ---- on or back

pub move_none : (s : List ℕ) {r : Option Move} → r ≡ None → length s ≤ 0 → (r ≡ move_given s) × IfSome r Short
unfolding move_given
move_none [] e h = (e, subst (λ (m : Option Move). IfSome m Short) (sym e) tt)
move_none (b ∷ s) e h = absurd (omega arith)

pub move_minus : (s : List ℕ) → true ≡ ltb 0 (length s) → (d : ℕ) → get_or s 0 d ≡ 45 → backward (micros_given (take (length s - 1) (drop 1 s))) ≡ move_given s
unfolding move_given
move_minus [] h d e = cc
move_minus (b ∷ s) h d e = rw (eq-eqb b 45 e, take_all (suc (length s) - 1) s (omega arith))

pub move_plus : (s : List ℕ) → true ≡ ltb 0 (length s) → (d : ℕ) → get_or s 0 d ≡ 43 → ahead (micros_given (take (length s - 1) (drop 1 s))) ≡ move_given s
unfolding move_given
move_plus [] h d e = cc
move_plus (b ∷ s) h d e = rw (ne_eqb b 45 (omega arith), eq-eqb b 43 e, take_all (suc (length s) - 1) s (omega arith))

pub move_plain : (s : List ℕ) → true ≡ ltb 0 (length s) → (d : ℕ) → d ≡ get_or s 0 d → (d ≡ 45 → ⊥) → (d ≡ 43 → ⊥) → ahead (micros_given s) ≡ move_given s
unfolding move_given
move_plain [] h d e n m = cc
move_plain (a ∷ s) h d e n m = rw (ne_eqb a 45 (λ p. n (e ∙ p)), ne_eqb a 43 (λ p. m (e ∙ p)))

pub short_ahead : (n : Option ℕ) → Within 999999999999999999 n → IfSome (ahead n) Short
short_ahead (Some k) h = h
short_ahead None h = tt

pub short_back : (n : Option ℕ) → Within 999999999999999999 n → IfSome (backward n) Short
short_back (Some k) h = h
short_back None h = tt

-- what `map` answers
mapped_on : (n : Option ℕ) (r : Option Move) → MatchOption n (r ≡ None) (λ k. IsSomeAnd r (λ m. m ≡ On k)) → r ≡ ahead n
mapped_on None r h = h
mapped_on (Some k) None h = absurd h
mapped_on (Some k) (Some m) h = ap Some h

mapped_back : (n : Option ℕ) (r : Option Move) → MatchOption n (r ≡ None) (λ k. IsSomeAnd r (λ m. m ≡ Back k)) → r ≡ backward n
mapped_back None r h = h
mapped_back (Some k) None h = absurd h
mapped_back (Some k) (Some m) h = ap Some h

module _ (n : Option ℕ) (r : Option Move) {g : Option Move} (w : Within 999999999999999999 n) where
  pub moved_on : MatchOption n (r ≡ None) (λ k. IsSomeAnd r (λ m. m ≡ On k)) → ahead n ≡ g → (r ≡ g) × IfSome r Short
  moved_on h e = let p = mapped_on n r h in (p ∙ e, subst (λ (m : Option Move). IfSome m Short) (sym p) (short_ahead n w))

  pub moved_back : MatchOption n (r ≡ None) (λ k. IsSomeAnd r (λ m. m ≡ Back k)) → backward n ≡ g → (r ≡ g) × IfSome r Short
  moved_back h e = let p = mapped_back n r h in (p ∙ e, subst (λ (m : Option Move). IfSome m Short) (sym p) (short_back n w))
