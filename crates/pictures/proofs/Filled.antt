-- A line that is filled from its front, and what of it is shown.
-- Assumes nothing.
use mathlib.Core.Path.{◌≡◌, refl, ap, ap₂, ◌∙◌}
use mathlib.Core.List.{List, ◌++◌, append_assoc}
use Prim.Native.Nat.{ℕ, zero, suc, ◌+◌, ◌-◌, ◌≤◌, ◌<◌}
use native.Mathlib.Nat.{suc-add}
use native.Mathlib.Omega.{arith}
use lib.ListN.{length, take, drop, length-append}
use lib.Seq.{take_all, take_at, take-append-add, length-take-le}
use Rattle.digits.specs.Bytes.{Appended}
use Rattle.digits.specs.Decimals.{digits_of}
use Rattle.digits.proofs.Bytes.{placed}
use Rattle.digits.proofs.Decimals.{digits_length}
use Rattle.pictures.specs.declared.Date.{Date}
use Rattle.pictures.specs.declared.Date.TheVariants.{Numbered, OfYear, Named}
use Rattle.pictures.specs.declared.Fields.{Fields}
use Rattle.pictures.specs.Pictures.{date_text, clock_text, fraction_text, picture_text}
use Rattle.pictures.proofs.Fraction.{cut}

-- ---- one text more

module _ (l : List ℕ) (i : ℕ) (v : List ℕ) {r : ℕ} {o : List ℕ} (s : i ≤ length l) (h : length (take i l) + length v ≤ length l) (p : Appended l i v r o) where
  fits : i + length v ≤ length l
  fits = omega (arith, length-take-le i l s)

  pub put_more : take r o ≡ take i l ++ v
  put_more =
      let q = placed l i v fits p in
      let e : r ≡ length (take i l ++ v) = simp length-append (omega (arith, q.end, length-take-le i l s)) in
      rw (e, q.text, ← append_assoc (take i l) v (drop (i + length v) l)) (take_at (take i l ++ v) (drop (i + length v) l) (length (take i l ++ v)) refl)

  pub put_inside : r ≤ length l
  put_inside = let q = placed l i v fits p in omega (arith, q.inside)

-- ---- the last digits of nine

digits_end : (k w n : ℕ) → drop k (digits_of (k + w) n) ≡ digits_of w n
digits_end zero w n = ap (λ (j : ℕ). digits_of j n) (omega arith)
digits_end (suc k) w n = rw suc-add (digits_end k w n)

pub number_end : (w n : ℕ) → w ≤ 9 → take (9 - (9 - w)) (drop (9 - w) (digits_of 9 n)) ≡ digits_of w n
number_end w n h =
    let e : 9 ≡ 9 - w + w = omega arith in
    let d : drop (9 - w) (digits_of 9 n) ≡ digits_of w n = ap (λ (j : ℕ). drop (9 - w) (digits_of j n)) e ∙ digits_end (9 - w) w n in
    rw d (take_all (9 - (9 - w)) (digits_of w n) (omega (arith, digits_length w n)))

-- ---- what is shown of a date with a clock in full

pub date_short : (y : ℕ) (d : Date) → length (date_text y d) ≤ 12
date_short y (Numbered m d) = omega arith
date_short y (OfYear d) = omega arith
date_short y (Named m d) = omega arith

-- all but the last n bytes are shown
pub shown : (f : Fields) {a b t : List ℕ} {n : ℕ} → a ≡ date_text f.year f.date → b ≡ a ++ (clock_text f.hour f.minute f.second ++ fraction_text 6 f.micro) → t ≡ take (length b - n) b
    → (f.digits ≡ 0 → n ≡ 7) × (0 < f.digits → n ≡ 6 - f.digits) × (n ≤ 7) → t ≡ picture_text f
unfolding picture_text
shown f {b = b} {n = n} p q e g =
    let d = date_text f.year f.date in
    let c = clock_text f.hour f.minute f.second ++ fraction_text 6 f.micro in
    let whole : b ≡ d ++ c = q ∙ ap (λ (l : List ℕ). l ++ c) p in
    let size : length b - n ≡ length d + (15 - n) = rw whole (simp length-append (omega arith)) in
    e ∙ ap₂ take size whole ∙ take-append-add d c (15 - n)
    ∙ ap (λ (l : List ℕ). d ++ l) (cut f.hour f.minute f.second f.micro f.digits (15 - n) (λ z. omega (arith, g.0 z)) (λ z. omega (arith, g.1 z)))
