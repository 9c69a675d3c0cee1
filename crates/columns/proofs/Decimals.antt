-- A plain decimal is found exactly where one stands: the parts that the definition cuts a field into are those of `Plain`, and the other way.
-- Assumes nothing.
use Prim.Native.Nat.{ℕ, zero, suc, ◌+◌, ◌≤◌}
use mathlib.Core.Path.{◌≡◌, refl, sym, ap, ap₂, subst, ◌∙◌}
use mathlib.Core.Logic.{◌↔◌}
use mathlib.Core.Bool.{Bool, true, false, cond, ◌&&◌}
use mathlib.Core.List.{List, [], ◌∷◌, ◌++◌, append_assoc}
use native.Mathlib.Omega.{arith}
use borrow.Author.Tests.{le-leb, leb-true, eqb-true, ne_eqb}
use lib.Dec.{eqb, leb}
use lib.ListN.{length, drop, get_or, replicate}
use lib.Seq.{drop-append_seam}
use Rattle.laws.proofs.Cases.{and_l, and_r, both, join}
use Rattle.digits.specs.Decimals.{is_digit, all_digits, spelled}
use Rattle.digits.proofs.Decimals.{digit_range}
use Rattle.lines.specs.Words.{leading, is_blank}
use Rattle.lines.proofs.Words.{leading_split, leading_blanks}
use Rattle.columns.specs.declared.Decimal.{Decimal}
use Rattle.std.specs.Prelude.{Option, None}
use Rattle.columns.specs.Columns.{all_blank}
use Rattle.columns.specs.Decimals.{Sign, none, plus, minus, Pointed, no_point, a_point, Plain, is_sign, is_point, behind_all, behind_one, found, ended, from_point, from_digits, from_sign, decimal_in}
use Rattle.columns.proofs.Fields.{leading_all}

-- ---- the bytes of a kind in front

-- behind them the kind begins no more
leading_twice : (kind : ℕ → Bool) (s : List ℕ) → leading kind (behind_all kind s) ≡ []
unfolding leading
leading_twice kind [] = refl
leading_twice kind (b ∷ s) = go (kind b) refl (leading_twice kind s)
  where
    go : (t : Bool) → kind b ≡ t → leading kind (behind_all kind s) ≡ [] → leading kind (drop (length (cond t (b ∷ leading kind s) [])) (b ∷ s)) ≡ []
    go true e h = h
    go false e h = rw e

leading_digits : (s : List ℕ) → all_digits (leading is_digit s) ≡ true
unfolding leading all_digits
leading_digits [] = refl
leading_digits (b ∷ s) = go (is_digit b) refl (leading_digits s)
  where
    go : (t : Bool) → is_digit b ≡ t → all_digits (leading is_digit s) ≡ true → all_digits (cond t (b ∷ leading is_digit s) []) ≡ true
    go true e h = join e h
    go false e h = refl

digits_leading : (s : List ℕ) → all_digits s ≡ true → leading is_digit s ≡ s
unfolding leading all_digits
digits_leading [] e = refl
digits_leading (b ∷ s) e = rw (and_l (is_digit b) (all_digits s) e) (ap (λ (l : List ℕ). b ∷ l) (digits_leading s (and_r (is_digit b) (all_digits s) e)))

blanks_leading : (n : ℕ) → leading is_blank (replicate n 32) ≡ replicate n 32
unfolding leading
blanks_leading zero = refl
blanks_leading (suc n) = ap (λ (l : List ℕ). 32 ∷ l) (blanks_leading n)

blanks_blank : (n : ℕ) → all_blank (replicate n 32) ≡ true
unfolding all_blank
blanks_blank zero = refl
blanks_blank (suc n) = blanks_blank n

pub blank_blanks : (s : List ℕ) → all_blank s ≡ true → s ≡ replicate (length s) 32
blank_blanks s e = let h = leading_all s e in sym h ∙ leading_blanks s ∙ ap (λ (l : List ℕ). replicate (length l) 32) h

-- a list of a kind in front of what does not begin with it
module _ (kind : ℕ → Bool) where
  stops : (t : List ℕ) → kind (get_or t 0 0) ≡ false → leading kind t ≡ []
  unfolding leading
  stops [] n = refl
  stops (b ∷ t) n = rw n

  in_front : (a t : List ℕ) → leading kind a ≡ a → kind (get_or t 0 0) ≡ false → leading kind (a ++ t) ≡ a
  unfolding leading
  in_front [] t e n = stops t n
  in_front (b ∷ a) t e n = go (kind b) e (λ h. in_front a t h n)
    where
      go : (u : Bool) → cond u (b ∷ leading kind a) [] ≡ b ∷ a → (leading kind a ≡ a → leading kind (a ++ t) ≡ a) → cond u (b ∷ leading kind (a ++ t)) [] ≡ b ∷ a
      go true h ih = ap (λ (l : List ℕ). b ∷ l) (ih (cc))
      go false h ih = cc

  behind_it : (a t : List ℕ) → leading kind a ≡ a → kind (get_or t 0 0) ≡ false → behind_all kind (a ++ t) ≡ t
  behind_it a t e n = ap (λ (l : List ℕ). drop (length l) (a ++ t)) (in_front a t e n) ∙ drop-append_seam a t

-- ---- what is found stands there

sign_there : (s : List ℕ) → (sign : List ℕ) × Sign (eqb (get_or s 0 0) 45) sign × (s ≡ sign ++ behind_one is_sign s)
sign_there [] = ([], none, refl)
sign_there (b ∷ s) = go (eqb b 43) (eqb b 45) refl refl
  where
    go : (p m : Bool) → eqb b 43 ≡ p → eqb b 45 ≡ m → (sign : List ℕ) × Sign (eqb b 45) sign × (b ∷ s ≡ sign ++ behind_one is_sign (b ∷ s))
    go true true e f = absurd (omega (arith, eqb-true b 43 e, eqb-true b 45 f))
    go true false e f = (43 ∷ [], rw f plus, rw e (ap (λ (x : ℕ). x ∷ s) (eqb-true b 43 e)))
    go false true e f = (45 ∷ [], rw f minus, rw (e, f) (ap (λ (x : ℕ). x ∷ s) (eqb-true b 45 f)))
    go false false e f = ([], rw f none, rw (e, f))

point_there : (whole s : List ℕ) → leading is_digit s ≡ [] → (body : List ℕ) × Pointed whole (leading is_digit (behind_one is_point s)) body × (whole ++ s ≡ body ++ behind_all is_digit (behind_one is_point s))
unfolding leading
point_there whole [] n = (whole, no_point, refl)
point_there whole (b ∷ s) n = go (is_point b) refl
  where
    go : (t : Bool) → is_point b ≡ t → (body : List ℕ) × Pointed whole (leading is_digit (cond t s (b ∷ s))) body × (whole ++ (b ∷ s) ≡ body ++ behind_all is_digit (cond t s (b ∷ s)))
    go true e = (whole ++ (46 ∷ leading is_digit s), a_point, rw append_assoc (ap (λ (l : List ℕ). whole ++ l) (ap₂ ◌∷◌ (eqb-true b 46 e) (leading_split is_digit s))))
    go false e = (whole, rw n no_point, rw n)

-- what a decimal that ends so says of its parts
record Ends (neg : Bool) (whole behind s : List ℕ) (negative : Bool) (number places : ℕ) : Type 0 where
  is_minus : neg ≡ negative
  is_number : number ≡ spelled 0 (whole ++ behind)
  is_places : places ≡ length behind
  blank : all_blank s ≡ true
  some : 1 ≤ length whole + length behind

ends : (neg : Bool) (whole behind s : List ℕ) {negative : Bool} {number places : ℕ} → ended neg whole behind s ≡ found negative number places → Ends neg whole behind s negative number places
ends neg whole behind s {negative} {number} {places} e = go (all_blank s && leb 1 (length whole + length behind)) refl e
  where
    go : (t : Bool) → (all_blank s && leb 1 (length whole + length behind)) ≡ t → cond t (found neg (spelled 0 (whole ++ behind)) (length behind)) None ≡ found negative number places → Ends neg whole behind s negative number places
    go true p q =
        let r = both (all_blank s) _ p in
        let same : ◌≡◌ {A = Decimal} (record { minus = neg; number = spelled 0 (whole ++ behind); places = length behind }) (record { minus = negative; number = number; places = places }) = cc in
        record {
          is_minus = ap (λ (d : Decimal). d.minus) same;
          is_number = sym (ap (λ (d : Decimal). d.number) same);
          is_places = sym (ap (λ (d : Decimal). d.places) same);
          blank = r.0;
          some = leb-true 1 _ r.1;
        }
    go false p q = let z : ◌≡◌ {A = ℕ} 0 1 = cc in absurd (omega arith)

found_there : (s : List ℕ) {negative : Bool} {number places : ℕ} → length s ≤ 18 → decimal_in s ≡ found negative number places → Plain s negative number places
unfolding decimal_in
found_there s {negative} {number} {places} h e =
    let u = behind_all is_blank s in
    let v = behind_one is_sign u in
    let x = behind_all is_digit v in
    let y = behind_one is_point x in
    let z = behind_all is_digit y in
    let f : from_sign u ≡ found negative number places = rw (le-leb (length s) 18 h) at e in
    let r = ends (eqb (get_or u 0 0) 45) (leading is_digit v) (leading is_digit y) z f in
    let sign = sign_there u in
    let body = point_there (leading is_digit v) x (leading_twice is_digit v) in
    record {
      before = length (leading is_blank s);
      sign = sign.0;
      whole = leading is_digit v;
      behind = leading is_digit y;
      body = body.0;
      after = length z;
      split = leading_split is_blank s ∙ ap₂ ◌++◌ (leading_blanks s) (sign.2 ∙ ap (λ (l : List ℕ). sign.0 ++ l) (leading_split is_digit v ∙ body.2 ∙ ap (λ (l : List ℕ). body.0 ++ l) (blank_blanks z r.blank)));
      is_sign_lem = subst (λ (b : Bool). Sign b sign.0) r.is_minus sign.1;
      is_body = body.1;
      whole_digits = leading_digits v;
      behind_digits = leading_digits y;
      some_digit = r.some;
      is_number = r.is_number;
      is_places = r.is_places;
    }

-- ---- what stands there is found

-- blanks begin with no digit and no point
blanks_begin : (n : ℕ) → (is_digit (get_or (replicate n 32) 0 0) ≡ false) × (is_point (get_or (replicate n 32) 0 0) ≡ false)
blanks_begin zero = (refl, refl)
blanks_begin (suc n) = (refl, refl)

-- digits are cut from what begins with none
cut : (a t : List ℕ) → all_digits a ≡ true → is_digit (get_or t 0 0) ≡ false → (f : List ℕ → List ℕ → Option Decimal) → f (leading is_digit (a ++ t)) (behind_all is_digit (a ++ t)) ≡ f a t
cut a t d n f = let e = digits_leading a d in ap₂ f (in_front is_digit a t e n) (behind_it is_digit a t e n)

module _ (neg : Bool) (whole behind : List ℕ) (n : ℕ) (d : all_digits whole ≡ true) (d' : all_digits behind ≡ true) where
  -- the digits before the point, and those behind it
  from_digits_lem : (s : List ℕ) → is_digit (get_or s 0 0) ≡ false → behind_one is_point s ≡ behind ++ replicate n 32 → from_digits neg (whole ++ s) ≡ ended neg whole behind (replicate n 32)
  from_digits_lem s e f =
      cut whole s d e (from_point neg)
      ∙ ap (λ (l : List ℕ). ended neg whole (leading is_digit l) (behind_all is_digit l)) f
      ∙ cut behind (replicate n 32) d' (blanks_begin n).0 (ended neg whole)

from_body : (neg : Bool) {whole behind body : List ℕ} (n : ℕ) → Pointed whole behind body → all_digits whole ≡ true → all_digits behind ≡ true → from_digits neg (body ++ replicate n 32) ≡ ended neg whole behind (replicate n 32)
from_body neg n (no_point {whole}) d e = from_digits_lem neg whole [] n d e (replicate n 32) (blanks_begin n).0 (rw (blanks_begin n).1)
from_body neg n (a_point {whole} {behind}) d e = rw append_assoc (from_digits_lem neg whole behind n d e (46 ∷ (behind ++ replicate n 32)) refl refl)

-- a body begins with a point or a digit
body_begins : {whole behind body : List ℕ} (t : List ℕ) → Pointed whole behind body → all_digits whole ≡ true → 1 ≤ length whole + length behind → (46 ≤ get_or (body ++ t) 0 0) × (get_or (body ++ t) 0 0 ≤ 57)
unfolding all_digits
body_begins t (no_point {whole = []}) d h = absurd (omega arith)
body_begins t (no_point {whole = b ∷ whole}) d h = omega (arith, digit_range b (and_l (is_digit b) (all_digits whole) d))
body_begins t (a_point {whole = []} {behind}) d h = (omega arith, omega arith)
body_begins t (a_point {whole = b ∷ whole} {behind}) d h = omega (arith, digit_range b (and_l (is_digit b) (all_digits whole) d))

module _ (s : List ℕ) (b : (46 ≤ get_or s 0 0) × (get_or s 0 0 ≤ 57)) where
  from_sign_lem : {neg : Bool} {sign : List ℕ} → Sign neg sign → from_sign (sign ++ s) ≡ from_digits neg s
  from_sign_lem none = rw (ne_eqb (get_or s 0 0) 43 (λ e. omega arith), ne_eqb (get_or s 0 0) 45 (λ e. omega arith))
  from_sign_lem plus = refl
  from_sign_lem minus = refl

  sign_begins : {neg : Bool} {sign : List ℕ} → Sign neg sign → is_blank (get_or (sign ++ s) 0 0) ≡ false
  sign_begins none = ne_eqb (get_or s 0 0) 32 (λ e. omega arith)
  sign_begins plus = refl
  sign_begins minus = refl

there_found : (s : List ℕ) {negative : Bool} {number places : ℕ} → length s ≤ 18 → Plain s negative number places → decimal_in s ≡ found negative number places
unfolding decimal_in
there_found s {negative} {number} {places} h p =
    let blanks : List ℕ = replicate p.after 32 in
    let b = body_begins blanks p.is_body p.whole_digits p.some_digit in
    let end : ended negative p.whole p.behind blanks ≡ found negative (spelled 0 (p.whole ++ p.behind)) (length p.behind) = rw (blanks_blank p.after, le-leb 1 (length p.whole + length p.behind) p.some_digit) in
    rw (le-leb (length s) 18 h)
    (ap (λ (l : List ℕ). from_sign (behind_all is_blank l)) p.split
    ∙ ap from_sign (behind_it is_blank (replicate p.before 32) (p.sign ++ (p.body ++ blanks)) (blanks_leading p.before) (sign_begins (p.body ++ blanks) b p.is_sign_lem))
    ∙ from_sign_lem (p.body ++ blanks) b p.is_sign_lem
    ∙ from_body negative p.after p.is_body p.whole_digits p.behind_digits
    ∙ end
    ∙ ap₂ (found negative) (sym p.is_number) (sym p.is_places))

pub found_exactly : (s : List ℕ) (negative : Bool) (number places : ℕ) → length s ≤ 18 → (decimal_in s ≡ found negative number places) ↔ Plain s negative number places
found_exactly s negative number places h = (found_there s h, there_found s h)
