-- Numbers below 100 as text: one digit or two, and a sign.
-- Assumes nothing.
use Prim.Native.Nat.{ℕ, suc, ◌/◌, ◌≤◌, ◌<◌}
use mathlib.Core.Path.{◌≡◌, sym, ap, subst, ◌∙◌}
use mathlib.Core.List.{List}
use native.Mathlib.Omega.{arith}
use lib.Dec.{lit≤}
use lib.IntN.{ℤ, pos, negsuc}
use lib.ListN.{length}
use lib.Signed.{mag}
use Rattle.laws.proofs.Cases.{by_order}
use Rattle.digits.specs.Decimals.{digits_of, decimal_text, signed_text}
use Rattle.digits.proofs.Decimals.{width_one, width_more}

module _ (n : ℕ) where
  pub one_digit : n < 10 → decimal_text n ≡ digits_of 1 n
  unfolding decimal_text
  one_digit l = ap (λ w. digits_of w n) (width_one 20 n (omega arith) l)

  two_digits : 10 ≤ n → n < 100 → decimal_text n ≡ digits_of 2 n
  unfolding decimal_text
  two_digits l h = ap (λ w. digits_of w n) (width_more 19 n l ∙ ap suc (width_one 19 (n / 10) (omega arith) (omega arith)))

  -- a number below 100 has one digit or two
  pub decimal_form : (P : List ℕ → Type 0) → n < 100 → (n < 10 → P (digits_of 1 n)) → (10 ≤ n → P (digits_of 2 n)) → P (decimal_text n)
  decimal_form P h f g = by_order n 10 (λ l. subst P (sym (one_digit l)) (f l)) (λ l. subst P (sym (two_digits l h)) (g l))

pub decimal_short : (n : ℕ) → n < 100 → length (decimal_text n) ≤ 2
decimal_short n h = decimal_form n (λ x. length x ≤ 2) h (λ l. lit≤ tt) (λ l. lit≤ tt)

pub signed_short : (z : ℤ) → mag z < 99 → length (signed_text z) ≤ 3
unfolding signed_text
signed_short (pos n) h = omega (arith, decimal_short n (omega arith))
signed_short (negsuc n) h = omega (arith, decimal_short (suc n) (omega arith))
