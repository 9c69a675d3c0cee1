-- The first two digits.
use Prim.Native.Nat.{ℕ, ◌+◌, ◌*◌, ◌≤◌, ◌<◌}
use mathlib.Core.Path.{◌≡◌, refl, ap, ◌∙◌}
use mathlib.Core.Bool.{cond}
use mathlib.Core.List.{List}
use native.Mathlib.Omega.{arith}
use lib.Dec.{ltb}
use lib.ListN.{get_or}
use Rattle.laws.proofs.Branches.{if_less, if_not_less}
use Rattle.digits.specs.Decimals.{digit_value, spelled, number_at}
use Rattle.cards.specs.Reading.{year_in}
use Rattle.cards.proofs.year_in.Goals as goal

module _ (s : List ℕ) {a b : ℕ} (p : a ≡ digit_value (get_or s 0 0)) (q : b ≡ digit_value (get_or s 1 0)) where
  two : a * 10 + b ≡ number_at s 0 2
  unfolding spelled
  two = rw (p, q) (omega arith)

  of_2000s : a * 10 + b < 50 → 2000 + (a * 10 + b) ≡ year_in s
  of_2000s l = if_less _ l refl ∙ ap (λ y. cond (ltb y 50) (2000 + y) (1900 + y)) two

  of_1900s : 50 ≤ a * 10 + b → 1900 + (a * 10 + b) ≡ year_in s
  of_1900s l = if_not_less _ l refl ∙ ap (λ y. cond (ltb y 50) (2000 + y) (1900 + y)) two

pub returns-then-yy-lt50 : goal.returns-then-yy-lt50
returns-then-yy-lt50 c = (of_2000s c.args.s.now c.digit_at.ensures.0 c.digit_at-2.ensures.0 c.if-yy-lt50.true, omega (arith, c.if-yy-lt50.true))

pub returns-else-yy-lt50 : goal.returns-else-yy-lt50
returns-else-yy-lt50 c = (of_1900s c.args.s.now c.digit_at.ensures.0 c.digit_at-2.ensures.0 c.if-yy-lt50.false, omega (arith, c.digit_at.ensures.1, c.digit_at-2.ensures.1))
