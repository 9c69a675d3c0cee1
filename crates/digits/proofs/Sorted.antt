-- Digits at a fixed width are in order as their numbers are, and so are rows of numbers, each at its own width.
-- Assumes nothing.
use mathlib.Core.Path.{sym, ap, ◌∙◌}
use mathlib.Core.Logic.{inl, inr, ⊎_elim}
use mathlib.Core.List.{List, [], ◌∷◌, ◌++◌}
use Prim.Native.Nat.{ℕ, zero, suc, ◌+◌, ◌*◌, ◌/◌, ◌%◌, ◌^◌, ◌<◌}
use native.Mathlib.Nat.{mod-eq_of_lt, mod-lt, one-le-pow, mul-le-mul_right}
use native.Mathlib.Omega.{arith}
use lib.Dec.{lit<}
use Rattle.laws.specs.Order.{Less}
use Rattle.laws.proofs.Cases.{lt_cases}
use Rattle.laws.proofs.Order.{less_front, less_behind}
use Rattle.digits.specs.Decimals.{digits_of}
use Rattle.digits.proofs.Decimals.{leading, digits_length}

-- the first digit that differs decides
digits_less : (w n m : ℕ) → n % 10 ^ w < m % 10 ^ w → Less (digits_of w n) (digits_of w m)
unfolding Less
digits_less zero n m h = absurd (omega arith)
digits_less (suc w) n m h =
    ⊎_elim (λ q. inl (omega arith))
    (⊎_elim (λ q. inr (ap (λ (d : ℕ). 48 + d) q, digits_less w n m (omega (arith, leading w n, leading w m, ap (λ (d : ℕ). d * 10 ^ w) q))))
    (λ q. absurd (omega (arith, leading w n, leading w m, mod-lt m (one-le-pow w 10 (lit< tt)), mul-le-mul_right (10 ^ w) q))))
    (lt_cases (n / 10 ^ w % 10) (m / 10 ^ w % 10))

-- a row of numbers as text: each at its width, and behind it the bytes that stand there
abbrev pub at_widths : List (ℕ × List ℕ) → List ℕ → List ℕ
at_widths [] ns = []
at_widths (c ∷ cs) [] = []
at_widths (c ∷ cs) (n ∷ ns) = digits_of c.0 n ++ (c.1 ++ at_widths cs ns)

-- each fits its width
abbrev pub Fit : List (ℕ × List ℕ) → List ℕ → Type 0
Fit [] [] = Unit {0}
Fit [] (n ∷ ns) = ⊥
Fit (c ∷ cs) [] = ⊥
Fit (c ∷ cs) (n ∷ ns) = (n < 10 ^ c.0) × Fit cs ns

-- the first number that differs decides
pub widths_less : (cs : List (ℕ × List ℕ)) (ns ms : List ℕ) → Fit cs ns → Fit cs ms → Less ns ms → Less (at_widths cs ns) (at_widths cs ms)
unfolding Less
widths_less [] [] [] f g h = h
widths_less [] [] (m ∷ ms) f g h = absurd g
widths_less [] (n ∷ ns) ms f g h = absurd f
widths_less (c ∷ cs) [] ms f g h = absurd f
widths_less (c ∷ cs) (n ∷ ns) [] f g h = absurd g
widths_less (c ∷ cs) (n ∷ ns) (m ∷ ms) f g (inl h) =
    less_front (digits_of c.0 n) (digits_of c.0 m) _ _ (digits_length c.0 n ∙ sym (digits_length c.0 m)) (digits_less c.0 n m (rw (mod-eq_of_lt f.0, mod-eq_of_lt g.0) h))
widths_less (c ∷ cs) (n ∷ ns) (m ∷ ms) f g (inr h) =
    rw h.0 (less_behind (digits_of c.0 m) _ _ (less_behind c.1 _ _ (widths_less cs ns ms f.1 g.1 h.1)))
