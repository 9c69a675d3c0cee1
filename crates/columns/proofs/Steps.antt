-- A plain decimal found step by step: what stands behind each part of the field is what the definition looks at next.
-- Assumes nothing.
use Prim.Native.Nat.{ℕ, ◌+◌, ◌-◌, ◌≤◌, ◌<◌}
use mathlib.Core.Path.{◌≡◌, refl, sym, ap, ap₂, ◌∙◌}
use mathlib.Core.Bool.{Bool, true, false, cond, ◌&&◌}
use mathlib.Core.List.{List, ◌++◌}
use native.Mathlib.Nat.{zero-add, add-zero}
use native.Mathlib.Omega.{arith}
use borrow.Author.Tests.{le-leb, lt-leb, ne_eqb, eq-eqb}
use lib.Dec.{eqb, leb}
use lib.ListN.{length, drop, get_or, length-drop}
use lib.Seq.{drop-drop, get_or-drop}
use Rattle.laws.proofs.Branches.{and_no, cond_rest}
use Rattle.laws.proofs.Cases.{join}
use Rattle.digits.specs.Decimals.{is_digit, spelled}
use Rattle.digits.proofs.Decimals.{spelled_append}
use Rattle.lines.specs.Words.{leading, is_blank}
use Rattle.lines.proofs.Words.{leading_short}
use Rattle.columns.specs.declared.Decimal.{Decimal}
use Rattle.std.specs.Prelude.{Option, None}
use Rattle.columns.specs.Columns.{all_blank}
use Rattle.columns.specs.Decimals.{is_sign, is_point, behind_all, BehindOne, Digits, found, ended, from_point, from_digits, from_sign, decimal_in}
use Rattle.columns.proofs.Fields.{blank_is}

pub too_long : (s : List ℕ) → 18 < length s → None ≡ decimal_in s
unfolding decimal_in
too_long s l = rw (lt-leb (length s) 18 l)

-- the places that the reader has found
pub record Found (s : List ℕ) (from first n e behind m end : ℕ) : Type 0 where
  pub short : length s ≤ 18
  pub blanks : from ≡ 0 + length (leading is_blank (drop 0 s))
  pub sign : BehindOne is_sign s from first
  pub whole : Digits s first 0 n e
  pub point : BehindOne is_point s e behind
  pub rest : Digits s behind n m end

module _ {s : List ℕ} {from first n e behind m end : ℕ} (f : Found s from first n e behind m end) where
  abbrev digits_whole : List ℕ
  digits_whole = leading is_digit (drop first s)

  abbrev digits_behind : List ℕ
  digits_behind = leading is_digit (drop behind s)

  past : (from' : ℕ) {number before end' : ℕ} → Digits s from' before number end' → behind_all is_digit (drop from' s) ≡ drop end' s
  past from' d = drop-drop (length (leading is_digit (drop from' s))) from' s ∙ ap (λ k. drop k s) (sym d.is_end)

  is_found : ended (eqb (get_or s from 0) 45) digits_whole digits_behind (drop end s) ≡ decimal_in s
  unfolding decimal_in
  is_found =
      let z : from ≡ length (leading is_blank s) = f.blanks ∙ zero-add _ in
      let b : get_or (drop from s) 0 0 ≡ get_or s from 0 = get_or-drop from s 0 0 ∙ ap (λ k. get_or s k 0) (add-zero from) in
      let negative = eqb (get_or s from 0) 45 in
      ap (ended negative digits_whole digits_behind) (sym (past behind f.rest))
      ∙ ap (λ x. ended negative digits_whole (leading is_digit x) (behind_all is_digit x)) f.point.rest
      ∙ ap (from_point negative digits_whole) (sym (past first f.whole))
      ∙ ap₂ from_digits (ap (λ x. eqb x 45) (sym b)) f.sign.rest
      ∙ ap (λ k. from_sign (drop k s)) z
      ∙ rw (le-leb (length s) 18 f.short)

  many : (length digits_whole + first ≡ e) × (length digits_behind + behind ≡ end)
  many = (omega (arith, f.whole.is_end), omega (arith, f.rest.is_end))

  pub no_digit : e - first + (end - behind) < 1 → None ≡ decimal_in s
  no_digit l = no (all_blank (drop end s)) _ (lt-leb 1 (length digits_whole + length digits_behind) (omega (arith, many))) ∙ is_found
    where
      no : (b : Bool) {c : Bool} (d : Option Decimal) → c ≡ false → None ≡ cond (b && c) d None
      no true d e = rw e
      no false d e = refl

  module _ {r : ℕ} (q : r ≡ end + length (leading is_blank (drop end s))) where
    pub not_blank : r < length s → None ≡ decimal_in s
    not_blank l =
        let b : all_blank (drop end s) ≡ false = sym (blank_is (drop end s) refl) ∙ ne_eqb (length (leading is_blank (drop end s))) (length (drop end s)) (λ h. omega (arith, h, length-drop end s)) in
        cond_rest _ (sym (and_no (leb 1 (length digits_whole + length digits_behind)) b)) refl ∙ is_found

    pub is_plain : length s ≤ r → 1 ≤ e - first + (end - behind) → {b : ℕ} → b ≡ get_or s from 0 → found (eqb b 45) m (end - behind) ≡ decimal_in s
    is_plain l some {b} p =
        let short = leading_short is_blank (drop end s) in
        let h : length (leading is_blank (drop end s)) ≡ length (drop end s) = omega (arith, short, length-drop end s) in
        let t : (all_blank (drop end s) && leb 1 (length digits_whole + length digits_behind)) ≡ true = join (sym (blank_is (drop end s) refl) ∙ eq-eqb _ _ h) (le-leb 1 (length digits_whole + length digits_behind) (omega (arith, many))) in
        let number : m ≡ spelled 0 (digits_whole ++ digits_behind) = f.rest.is_number ∙ ap (λ k. spelled k digits_behind) f.whole.is_number ∙ sym (spelled_append 0 digits_whole digits_behind) in
        let places : end - behind ≡ length digits_behind = omega (arith, many) in
        plain_as (ap (λ x. eqb x 45) p) number places ∙ sym (rw t) ∙ is_found
      where
        plain_as : {a b : Bool} {k n i j : ℕ} → a ≡ b → k ≡ n → i ≡ j → found a k i ≡ found b n j
        plain_as p q r = λ i. found (p i) (q i) (r i)
