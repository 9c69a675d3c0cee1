-- The seconds in the fields of a card, as the reader's tests find them.
-- Assumes nothing.
use Prim.Native.Nat.{ℕ, zero, suc, ◌+◌, ◌-◌, ◌*◌, ◌^◌, ◌≤◌}
use mathlib.Core.Path.{◌≡◌, refl, ap, ◌∙◌}
use mathlib.Core.Logic.{◌⊎◌, inl, inr}
use mathlib.Core.Bool.{Bool, true, false, not, ◌&&◌}
use mathlib.Core.List.{List}
use native.Mathlib.Omega.{arith}
use borrow.Author.Tests.{le-leb, leb-true, eqb-true, not-true}
use lib.Dec.{leb}
use lib.ListN.{length}
use lib.Pow.{pow-add}
use Rattle.std.specs.Prelude.{Option, Some, None}
use Rattle.laws.proofs.Cases.{both, join, one_of, or_l, or_r}
use Rattle.columns.specs.declared.Decimal.{Decimal}
use Rattle.columns.specs.Columns.{all_blank}
use Rattle.columns.specs.Decimals.{Plain, found, decimal_in, whole_of}
use Rattle.columns.proofs.Decimals.{found_exactly}
use Rattle.columns.proofs.Wholes.{whole_is, whole_was}
use Rattle.cards.specs.Card.{TdtSeconds, BlankOrPlain}
use Rattle.cards.specs.Reading.{is_plain, blank_or_plain, is_number, is_tdt}

-- ---- TDT-TAI: 32184 thousandths

-- with fewer than three places 32.184 would be a multiple of ten
three_places : (number places : ℕ) → number * 1000 ≡ 32184 * 10 ^ places → 3 ≤ places
three_places number zero e = absurd (omega arith)
three_places number (suc zero) e = absurd (omega arith)
three_places number (suc (suc zero)) e = absurd (omega arith)
three_places number (suc (suc (suc places))) e = omega arith

-- the places behind the third
module _ (number places : ℕ) (h : 3 ≤ places) where
  thousand : 10 ^ places ≡ 10 ^ (places - 3) * 1000
  thousand = let e : places ≡ places - 3 + 3 = omega arith in ap (λ (k : ℕ). 10 ^ k) e ∙ pow-add 10 (places - 3) 3

  exact_is : whole_of number (places - 3) ≡ Some 32184 → number * 1000 ≡ 32184 * 10 ^ places
  exact_is e = omega (arith, whole_was number (places - 3) 32184 e, thousand)

  exact_was : number * 1000 ≡ 32184 * 10 ^ places → whole_of number (places - 3) ≡ Some 32184
  exact_was e =
      let n : number ≡ 32184 * 10 ^ (places - 3) = omega (arith, thousand) in
      ap (λ (k : ℕ). whole_of k (places - 3)) n ∙ whole_is 32184 (places - 3)

number_is : (n : ℕ) (x : Option ℕ) → is_number n x ≡ true → x ≡ Some n
number_is n (Some m) e = ap Some (eqb-true m n e)
number_is n None e = cc

module _ (s : List ℕ) (short : length s ≤ 18) where
  pub plain_is : {negative : Bool} {number places : ℕ} → decimal_in s ≡ found negative number places → Plain s negative number places
  plain_is {negative} {number} {places} = (found_exactly s negative number places short).0

  pub plain_was : {negative : Bool} {number places : ℕ} → Plain s negative number places → decimal_in s ≡ found negative number places
  plain_was {negative} {number} {places} = (found_exactly s negative number places short).1

  pub tdt_is : is_tdt (decimal_in s) ≡ true → TdtSeconds s
  tdt_is e = go (decimal_in s) refl e
    where
      go : (d : Option Decimal) → decimal_in s ≡ d → is_tdt d ≡ true → TdtSeconds s
      go (Some d) p q =
          let r = both (not d.minus) (leb 3 d.places && is_number 32184 (whole_of d.number (d.places - 3))) q in
          let t = both (leb 3 d.places) (is_number 32184 (whole_of d.number (d.places - 3))) r.1 in
          let plain : decimal_in s ≡ found false d.number d.places = p ∙ ap (λ (b : Bool). found b d.number d.places) (not-true _ r.0) in
          record { number = d.number; places = d.places; plain = plain_is plain; exact = exact_is d.number d.places (leb-true 3 d.places t.0) (number_is 32184 (whole_of d.number (d.places - 3)) t.1) }
      go None p q = let z : ◌≡◌ {A = ℕ} 0 1 = cc in absurd (omega arith)

  pub tdt_was : TdtSeconds s → is_tdt (decimal_in s) ≡ true
  tdt_was t =
      let l = three_places t.number t.places t.exact in
      rw (plain_was t.plain) (join (le-leb 3 t.places l) (ap (is_number 32184) (exact_was t.number t.places l t.exact)))

  -- ---- blank, or any plain decimal

  pub blank_or_plain_is : blank_or_plain s ≡ true → BlankOrPlain s
  blank_or_plain_is e = go (one_of (all_blank s) (is_plain (decimal_in s)) e)
    where
      plain : (d : Option Decimal) → decimal_in s ≡ d → is_plain d ≡ true → BlankOrPlain s
      plain (Some d) p q = inr (d.minus, d.number, d.places, plain_is p)
      plain None p q = let z : ◌≡◌ {A = ℕ} 0 1 = cc in absurd (omega arith)

      go : (all_blank s ≡ true) ⊎ (is_plain (decimal_in s) ≡ true) → BlankOrPlain s
      go (inl b) = inl b
      go (inr p) = plain (decimal_in s) refl p

  pub blank_or_plain_was : BlankOrPlain s → blank_or_plain s ≡ true
  blank_or_plain_was (inl b) = or_l (is_plain (decimal_in s)) b
  blank_or_plain_was (inr (negative, number, places, p)) = or_r (all_blank s) (ap is_plain (plain_was p))
