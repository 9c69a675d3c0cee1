-- A month's name letter by letter.
-- Assumes nothing.
use Prim.Native.Nat.{ℕ, zero, suc, ◌+◌, ◌≤◌, ◌<◌}
use mathlib.Core.Path.{◌≡◌, refl, sym, ap, ◌∙◌}
use mathlib.Core.Bool.{Bool, true, false, cond, ◌&&◌}
use mathlib.Core.List.{List, [], ◌∷◌}
use native.Mathlib.Omega.{arith}
use borrow.Author.Tests.{eqb-true}
use lib.Dec.{eqb, lit<}
use lib.ListN.{length}
use Rattle.laws.proofs.Cases.{both}
use Rattle.digits.specs.Months.{letter, month_name}
use Rattle.kinds.specs.Kinds.{upper}
use Rattle.kinds.specs.Parts.{goes_on, month_on}
use Rattle.grammar.specs.Grammar.{MonthName}

-- what is found goes on so
pub found : (from k c m : ℕ) → 0 < month_on from k c m → (month_on from k c m ≤ m) × (goes_on from k c (month_on from k c m) ≡ true)
unfolding month_on
found from k c zero h = absurd (omega arith)
found from k c (suc m) h = go (goes_on from k c (suc m)) refl h (λ l. found from k c m l)
  where
    go : (t : Bool) → goes_on from k c (suc m) ≡ t → 0 < cond t (suc m) (month_on from k c m)
        → (0 < month_on from k c m → (month_on from k c m ≤ m) × (goes_on from k c (month_on from k c m) ≡ true))
        → (cond t (suc m) (month_on from k c m) ≤ suc m) × (goes_on from k c (cond t (suc m) (month_on from k c m)) ≡ true)
    go true e l ih = (omega arith, e)
    go false e l ih = let r = ih l in (omega arith, r.1)

-- the letters of x lead from k letters of a month to the three of month q
abbrev pub LettersLeft : ℕ → ℕ → ℕ → List ℕ → Type 0
LettersLeft k from q [] = (k ≡ 3) × (from ≡ q)
LettersLeft k from q (b ∷ x) = (0 < month_on from k (upper b) 12) × LettersLeft (k + 1) (month_on from k (upper b) 12) q x

letters_long : (k from q : ℕ) (x : List ℕ) → LettersLeft k from q x → length x + k ≡ 3
letters_long k from q [] h = omega arith
letters_long k from q (b ∷ x) h = omega (arith, letters_long (k + 1) (month_on from k (upper b) 12) q x h.1)

three_same : {a b c d e f : ℕ} → a ≡ d → b ≡ e → c ≡ f → (a ∷ b ∷ c ∷ []) ≡ (d ∷ e ∷ f ∷ [])
three_same p q r = cc

three : (a b c m1 m2 m3 : ℕ) → goes_on 0 0 a m1 ≡ true → goes_on m1 1 b m2 ≡ true → goes_on m2 2 c m3 ≡ true → (a ∷ b ∷ c ∷ []) ≡ month_name m3
three a b c m1 m2 m3 f g h =
    let g1 = both (eqb (letter m2 0) (letter m1 0)) (eqb (letter m2 1) b) g in
    let h1 = both (eqb (letter m3 0) (letter m2 0)) (eqb (letter m3 1) (letter m2 1) && eqb (letter m3 2) c) h in
    let h2 = both (eqb (letter m3 1) (letter m2 1)) (eqb (letter m3 2) c) h1.1 in
    three_same
    (sym (eqb-true (letter m3 0) (letter m2 0) h1.0 ∙ eqb-true (letter m2 0) (letter m1 0) g1.0 ∙ eqb-true (letter m1 0) a f))
    (sym (eqb-true (letter m3 1) (letter m2 1) h2.0 ∙ eqb-true (letter m2 1) b g1.1))
    (sym (eqb-true (letter m3 2) c h2.1))

pub name_of : (q : ℕ) (x : List ℕ) → LettersLeft 0 0 q x → MonthName q x
name_of q [] h = absurd (omega (arith, letters_long 0 0 q [] h))
name_of q (a ∷ []) h = absurd (omega (arith, letters_long 0 0 q (a ∷ []) h))
name_of q (a ∷ b ∷ []) h = absurd (omega (arith, letters_long 0 0 q (a ∷ b ∷ []) h))
name_of q (a ∷ b ∷ c ∷ []) h = last (month_on 0 0 (upper a) 12) (found 0 0 (upper a) 12 h.0) h.1
  where
    last : (m1 : ℕ) → (m1 ≤ 12) × (goes_on 0 0 (upper a) m1 ≡ true) → LettersLeft 1 m1 q (b ∷ c ∷ []) → MonthName q (a ∷ b ∷ c ∷ [])
    last m1 f h =
        let g = found m1 1 (upper b) 12 h.0 in
        let m2 = month_on m1 1 (upper b) 12 in
        let d = found m2 2 (upper c) 12 h.1.0 in
        let e : month_on m2 2 (upper c) 12 ≡ q = h.1.1.1 in
        record {
          some_month = omega (arith, h.1.0, e);
          of_year = omega (arith, d.0, e);
          letters = three (upper a) (upper b) (upper c) m1 m2 (month_on m2 2 (upper c) 12) f.1 g.1 d.1 ∙ ap month_name e;
        }
name_of q (a ∷ b ∷ c ∷ d ∷ x) h = absurd (omega (arith, letters_long 0 0 q (a ∷ b ∷ c ∷ d ∷ x) h))

-- ---- the other way

pub twelve : (P : ℕ → Type 0) → P 1 → P 2 → P 3 → P 4 → P 5 → P 6 → P 7 → P 8 → P 9 → P 10 → P 11 → P 12 → (m : ℕ) → 1 ≤ m → m ≤ 12 → P m
twelve P p1 p2 p3 p4 p5 p6 p7 p8 p9 p10 p11 p12 zero h l = absurd (omega arith)
twelve P p1 p2 p3 p4 p5 p6 p7 p8 p9 p10 p11 p12 (suc m) h l = go m l
  where
    go : (m : ℕ) → suc m ≤ 12 → P (suc m)
    go zero l = p1
    go (suc zero) l = p2
    go (suc (suc zero)) l = p3
    go (suc (suc (suc zero))) l = p4
    go (suc (suc (suc (suc zero)))) l = p5
    go (suc (suc (suc (suc (suc zero))))) l = p6
    go (suc (suc (suc (suc (suc (suc zero)))))) l = p7
    go (suc (suc (suc (suc (suc (suc (suc zero))))))) l = p8
    go (suc (suc (suc (suc (suc (suc (suc (suc zero)))))))) l = p9
    go (suc (suc (suc (suc (suc (suc (suc (suc (suc zero))))))))) l = p10
    go (suc (suc (suc (suc (suc (suc (suc (suc (suc (suc zero)))))))))) l = p11
    go (suc (suc (suc (suc (suc (suc (suc (suc (suc (suc (suc zero))))))))))) l = p12
    go (suc (suc (suc (suc (suc (suc (suc (suc (suc (suc (suc (suc m)))))))))))) l = absurd (omega arith)

-- the letters of month m, one after the other, lead to month m
pub record Leads (m : ℕ) : Type 0 where
  pub m1 : ℕ
  pub m2 : ℕ
  pub first : month_on 0 0 (letter m 0) 12 ≡ m1
  pub second : month_on m1 1 (letter m 1) 12 ≡ m2
  pub third : month_on m2 2 (letter m 2) 12 ≡ m
  pub some_first : 0 < m1
  pub some_second : 0 < m2

pub leads : (m : ℕ) → 1 ≤ m → m ≤ 12 → Leads m
unfolding month_on
leads =
    twelve Leads
    (record { m1 = 7; m2 = 1; first = refl; second = refl; third = refl; some_first = lit< tt; some_second = lit< tt })
    (record { m1 = 2; m2 = 2; first = refl; second = refl; third = refl; some_first = lit< tt; some_second = lit< tt })
    (record { m1 = 5; m2 = 5; first = refl; second = refl; third = refl; some_first = lit< tt; some_second = lit< tt })
    (record { m1 = 8; m2 = 4; first = refl; second = refl; third = refl; some_first = lit< tt; some_second = lit< tt })
    (record { m1 = 5; m2 = 5; first = refl; second = refl; third = refl; some_first = lit< tt; some_second = lit< tt })
    (record { m1 = 7; m2 = 7; first = refl; second = refl; third = refl; some_first = lit< tt; some_second = lit< tt })
    (record { m1 = 7; m2 = 7; first = refl; second = refl; third = refl; some_first = lit< tt; some_second = lit< tt })
    (record { m1 = 8; m2 = 8; first = refl; second = refl; third = refl; some_first = lit< tt; some_second = lit< tt })
    (record { m1 = 9; m2 = 9; first = refl; second = refl; third = refl; some_first = lit< tt; some_second = lit< tt })
    (record { m1 = 10; m2 = 10; first = refl; second = refl; third = refl; some_first = lit< tt; some_second = lit< tt })
    (record { m1 = 11; m2 = 11; first = refl; second = refl; third = refl; some_first = lit< tt; some_second = lit< tt })
    (record { m1 = 12; m2 = 12; first = refl; second = refl; third = refl; some_first = lit< tt; some_second = lit< tt })
