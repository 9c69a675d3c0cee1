-- A text is read as fields exactly where it is the text of these fields, and they are well formed.
-- Assumes nothing.
use mathlib.Core.Path.{◌≡◌, refl, sym, ap, ap₂, subst, ◌∙◌}
use mathlib.Core.Bool.{Bool, true, false, cond, ◌&&◌}
use mathlib.Core.Logic.{⊎_elim}
use mathlib.Core.List.{List, ◌∷◌, ◌++◌, append_assoc}
use Prim.Native.Char.{code}
use Prim.Native.Nat.{ℕ, ◌+◌, ◌-◌, ◌/◌, ◌%◌, ◌^◌, min, ◌≤◌, ◌<◌}
use native.Mathlib.Omega.{arith}
use borrow.Author.Tests.{ne_eqb, eqb-true, le-leb, leb-true}
use lib.Dec.{T, leb, ltb, lit<}
use lib.ListN.{length, take, drop, get_or, length-append}
use lib.Seq.{take_at, take-append-add, drop-drop}
use Rattle.std.specs.Prelude.{Option, Some, None}
use Rattle.laws.proofs.Cases.{and_l, and_r, join}
use Rattle.laws.proofs.Placed.{over_old}
use Rattle.digits.specs.Bytes.{bytes_at}
use Rattle.digits.specs.Decimals.{digit_value, digits_of, spelled, number_at}
use Rattle.digits.proofs.Decimals.{number_back, number_lt}
use Rattle.digits.proofs.Months.{named_is, named_back}
use Rattle.pictures.specs.declared.Date.{Date}
use Rattle.pictures.specs.declared.Date.TheVariants.{Numbered, OfYear, Named}
use Rattle.pictures.specs.declared.Fields.{Fields}
use Rattle.pictures.specs.Parts.{Numbers}
use Rattle.pictures.specs.Pictures.{date_text, clock_text, fraction_text, picture_text, DateFits, WellFormed}
use Rattle.pictures.specs.Reading.{as_shown, like, in_full, right_length, has_picture, numbered_pattern, of_year_pattern, named_pattern, month_in, fields_in, numbered_in, of_year_in, named_in, or_else, read_numbered, read_of_year, read_named, read_fields}
use Rattle.pictures.specs.Promise.{showing, Determined}
use Rattle.pictures.proofs.Spelling.{digit_yes, all_bytes, number_whole, again}
use Rattle.pictures.proofs.Fraction.{cut, fraction_filled, fraction_length, fraction_right}
use Rattle.pictures.proofs.Patterns.{and_false, digits_at, numbers_at, like_length, like_at, unlike, countless, counts_none, lengths}

abbrev pub before_point : Fields → ℕ
before_point f = length (date_text f.year f.date) + 8

-- ---- a text cut to its length, and filled again

pub cut_text : (f : Fields) (n size : ℕ) → before_point f ≡ n → right_length n size ≡ true → take size (picture_text (showing 6 f)) ≡ picture_text (showing (size - (n + 1)) f)
unfolding picture_text
cut_text f n size e r =
    let d = date_text f.year f.date in
    let p = lengths n size r in
    let k = size - (n + 1) in
    let m = size - length d in
    let full : size ≡ length d + m = ⊎_elim (λ q. omega arith) (λ q. omega arith) p in
    let none : k ≡ 0 → m ≡ 8 = λ z. ⊎_elim (λ q. omega arith) (λ q. omega arith) p in
    let some : 0 < k → m ≡ 9 + min 6 k = λ z. ⊎_elim (λ q. omega arith) (λ q. omega arith) p in
    let c = clock_text f.hour f.minute f.second ++ fraction_text 6 f.micro in
    ap (λ (j : ℕ). take j (d ++ c)) full ∙ take-append-add d c m ∙ ap (λ (l : List ℕ). d ++ l) (cut f.hour f.minute f.second f.micro k m none some)

text_length : (f : Fields) → length (picture_text f) ≡ before_point f + length (fraction_text f.digits f.micro)
unfolding picture_text
text_length f = simp length-append (omega arith)

filled_text : (f : Fields) (cs : List ℕ) → WellFormed f → drop (before_point f) cs ≡ fraction_text 6 0 → in_full cs (picture_text f) ≡ picture_text (showing 6 f)
unfolding picture_text
filled_text f cs w e =
    let d = date_text f.year f.date in
    let c = clock_text f.hour f.minute f.second in
    let r = fraction_text f.digits f.micro in
    let rest : drop (length (d ++ (c ++ r))) cs ≡ drop (length r) (fraction_text 6 0) =
    ap (λ (j : ℕ). drop j cs) (text_length f) ∙ sym (drop-drop (length r) (before_point f) cs) ∙ ap (drop (length r)) e in
    append_assoc d (c ++ r) (drop (length (d ++ (c ++ r))) cs)
    ∙ ap (λ (l : List ℕ). d ++ l) (append_assoc c r (drop (length (d ++ (c ++ r))) cs)
    ∙ ap (λ (l : List ℕ). c ++ l) (ap (λ (l : List ℕ). r ++ l) rest ∙ fraction_filled f.digits f.micro w.digits w.shown))

-- ---- a text that has a picture is that of its fields

module _ (cs t : List ℕ) (h : like cs t ≡ true) where
  -- at a place that is looked at
  at : (k : ℕ) → T (ltb k (length cs)) → as_shown (get_or cs k 0) (get_or t k 0) ≡ true
  at k l = like_at cs t k h (lit< l)

  all : (n : ℕ) → length cs ≡ n → bytes_at t 0 n ≡ t
  all n e = subst (λ (j : ℕ). bytes_at t 0 j ≡ t) (like_length cs t h ∙ e) (all_bytes t)

clock_text_lem : (t : List ℕ) (at : ℕ) → Numbers t at → code ":" ≡ get_or t (at + 2) 0 → code ":" ≡ get_or t (at + 5) 0 → code "." ≡ get_or t (at + 8) 0
    → clock_text (number_at t at 2) (number_at t (at + 3) 2) (number_at t (at + 6) 2) ++ fraction_text 6 (number_at t (at + 9) 6) ≡ bytes_at t at 2 ++ get_or t (at + 2) 0 ∷ bytes_at t (at + 3) 2 ++ get_or t (at + 5) 0 ∷ bytes_at t (at + 6) 2 ++ get_or t (at + 8) 0 ∷ bytes_at t (at + 9) 6
clock_text_lem t at n p q r =
    let h = again (bytes_at t at 2) 0 n.hour.all in
    let m = again (bytes_at t (at + 3) 2) 0 n.minute.all in
    let s = again (bytes_at t (at + 6) 2) 0 n.second.all in
    let u = again (bytes_at t (at + 9) 6) 0 n.micro.all in
    λ i. h i ++ p i ∷ m i ++ q i ∷ s i ++ r i ∷ u i

numbered_text : (t : List ℕ) → like numbered_pattern t ≡ true → t ≡ picture_text (numbered_in t 6)
unfolding picture_text
numbered_text t h =
    let a = at numbered_pattern t h in
    let c = clock_text_lem t 11 (numbers_at numbered_pattern 11 refl refl refl refl refl h) (eqb-true 58 (get_or t 13 0) (a 13 tt)) (eqb-true 58 (get_or t 16 0) (a 16 tt)) (eqb-true 46 (get_or t 19 0) (a 19 tt)) in
    let y = again (bytes_at t 0 4) 0 (digits_at numbered_pattern {t = t} 0 4 refl h).all in
    let m = again (bytes_at t 5 2) 0 (digits_at numbered_pattern {t = t} 5 2 refl h).all in
    let d = again (bytes_at t 8 2) 0 (digits_at numbered_pattern {t = t} 8 2 refl h).all in
    let p = eqb-true 45 (get_or t 4 0) (a 4 tt) in
    let q = eqb-true 45 (get_or t 7 0) (a 7 tt) in
    let r = eqb-true 84 (get_or t 10 0) (a 10 tt) in
    sym (all numbered_pattern t h 26 refl) ∙ sym (λ i. y i ++ p i ∷ m i ++ q i ∷ d i ++ r i ∷ c i)

of_year_text : (t : List ℕ) → like of_year_pattern t ≡ true → t ≡ picture_text (of_year_in t 6)
unfolding picture_text
of_year_text t h =
    let a = at of_year_pattern t h in
    let c = clock_text_lem t 9 (numbers_at of_year_pattern 9 refl refl refl refl refl h) (eqb-true 58 (get_or t 11 0) (a 11 tt)) (eqb-true 58 (get_or t 14 0) (a 14 tt)) (eqb-true 46 (get_or t 17 0) (a 17 tt)) in
    let y = again (bytes_at t 0 4) 0 (digits_at of_year_pattern {t = t} 0 4 refl h).all in
    let d = again (bytes_at t 5 3) 0 (digits_at of_year_pattern {t = t} 5 3 refl h).all in
    let p = eqb-true 45 (get_or t 4 0) (a 4 tt) in
    let r = eqb-true 84 (get_or t 8 0) (a 8 tt) in
    sym (all of_year_pattern t h 24 refl) ∙ sym (λ i. y i ++ p i ∷ d i ++ r i ∷ c i)

named_text : (t : List ℕ) → like named_pattern t ≡ true → 1 ≤ month_in t → t ≡ picture_text (named_in t 6)
unfolding picture_text
named_text t h g =
    let a = at named_pattern t h in
    let c = clock_text_lem t 12 (numbers_at named_pattern 12 refl refl refl refl refl h) (eqb-true 58 (get_or t 14 0) (a 14 tt)) (eqb-true 58 (get_or t 17 0) (a 17 tt)) (eqb-true 46 (get_or t 20 0) (a 20 tt)) in
    let y = again (bytes_at t 0 4) 0 (digits_at named_pattern {t = t} 0 4 refl h).all in
    let m = (named_is (bytes_at t 5 3) g).1 in
    let d = again (bytes_at t 9 2) 0 (digits_at named_pattern {t = t} 9 2 refl h).all in
    let p = eqb-true 32 (get_or t 4 0) (a 4 tt) in
    let q = eqb-true 32 (get_or t 8 0) (a 8 tt) in
    let r = eqb-true 32 (get_or t 11 0) (a 11 tt) in
    sym (all named_pattern t h 27 refl) ∙ sym (λ i. y i ++ p i ∷ m i ++ q i ∷ d i ++ r i ∷ c i)

-- ---- and these are well formed

fits_in : (t : List ℕ) (at k : ℕ) (d : Date) → DateFits d → k ≤ 6 → number_at t (at + 9) 6 % 10 ^ (6 - k) ≡ 0 → WellFormed (fields_in t at k d)
fits_in t at k d e l z =
    record {
      year = number_lt t 0 4;
      date = e;
      hour = number_lt t at 2;
      minute = number_lt t (at + 3) 2;
      second = number_lt t (at + 6) 2;
      digits = l;
      micro = number_lt t (at + 9) 6;
      shown = z;
    }

module _ (cs s : List ℕ) (n : ℕ) (h : has_picture cs n s ≡ true) where
  right : right_length n (length s) ≡ true
  right = and_l _ (like cs (in_full cs s)) h

  alike : like cs (in_full cs s) ≡ true
  alike = and_r (right_length n (length s)) _ h

  few : length s - (n + 1) ≤ 6
  few = ⊎_elim (λ q. omega arith) (λ q. omega arith) (lengths n (length s) right)

  -- the digits that are not shown are the pattern's zeros
  rest_zero : countless cs ≡ true → number_at (in_full cs s) (n + 1) 6 % 10 ^ (6 - (length s - (n + 1))) ≡ 0
  rest_zero e =
      let k = length s - (n + 1) in
      let six : k + (6 - k) ≡ 6 = omega (arith, few) in
      subst (λ (w : ℕ). number_at (in_full cs s) (n + 1) w % 10 ^ (6 - k) ≡ 0) six
      (number_whole (in_full cs s) (n + 1) k (6 - k) (λ x l. ap digit_value (over_old s cs x 0 (omega arith)) ∙ counts_none cs e x))

  its_text : (f : Fields) → before_point f ≡ n → in_full cs s ≡ picture_text (showing 6 f) → s ≡ picture_text (showing (length s - (n + 1)) f)
  its_text f e q = sym (take_at s (drop (length s) cs) (length s) refl) ∙ ap (take (length s)) q ∙ cut_text f n (length s) e right

numbered_shown : (s : List ℕ) → has_picture numbered_pattern 19 s ≡ true
    → let f = numbered_in (in_full numbered_pattern s) (length s - 20) in WellFormed f × (s ≡ picture_text f)
unfolding digit_value
numbered_shown s h =
    let t = in_full numbered_pattern s in
    (fits_in t 11 (length s - 20) _ (number_lt t 5 2, number_lt t 8 2) (few numbered_pattern s 19 h) (rest_zero numbered_pattern s 19 h refl), its_text numbered_pattern s 19 h (numbered_in t 6) refl (numbered_text t (alike numbered_pattern s 19 h)))

of_year_shown : (s : List ℕ) → has_picture of_year_pattern 17 s ≡ true
    → let f = of_year_in (in_full of_year_pattern s) (length s - 18) in WellFormed f × (s ≡ picture_text f)
unfolding digit_value
of_year_shown s h =
    let t = in_full of_year_pattern s in
    (fits_in t 9 (length s - 18) _ (number_lt t 5 3) (few of_year_pattern s 17 h) (rest_zero of_year_pattern s 17 h refl), its_text of_year_pattern s 17 h (of_year_in t 6) refl (of_year_text t (alike of_year_pattern s 17 h)))

named_shown : (s : List ℕ) → has_picture named_pattern 20 s ≡ true → 1 ≤ month_in (in_full named_pattern s)
    → let f = named_in (in_full named_pattern s) (length s - 21) in WellFormed f × (s ≡ picture_text f)
unfolding digit_value
named_shown s h g =
    let t = in_full named_pattern s in
    (fits_in t 12 (length s - 21) _ (g, (named_is (bytes_at t 5 3) g).0, number_lt t 9 2) (few named_pattern s 20 h) (rest_zero named_pattern s 20 h refl), its_text named_pattern s 20 h (named_in t 6) refl (named_text t (alike named_pattern s 20 h) g))

-- ---- the text of well-formed fields is read as these fields

fields_path : {a b : Fields} → a.year ≡ b.year → a.date ≡ b.date → a.hour ≡ b.hour → a.minute ≡ b.minute → a.second ≡ b.second
    → a.digits ≡ b.digits → a.micro ≡ b.micro → a ≡ b
fields_path p d h m s k u = λ i. record { year = p i; date = d i; hour = h i; minute = m i; second = s i; digits = k i; micro = u i }

module _ (y h m s k u : ℕ) where
  abbrev of : Date → Fields
  of d = record { year = y; date = d; hour = h; minute = m; second = s; digits = k; micro = u }

  -- fields that are spelled by the digits of well-formed ones
  whole : {g : Fields} (d : Date) → WellFormed (of d) → g.year ≡ spelled 0 (digits_of 4 y) → g.date ≡ d → g.hour ≡ spelled 0 (digits_of 2 h)
      → g.minute ≡ spelled 0 (digits_of 2 m) → g.second ≡ spelled 0 (digits_of 2 s) → g.digits ≡ k → g.micro ≡ spelled 0 (digits_of 6 u) → g ≡ of d
  whole d w a b c e f n o =
      fields_path (a ∙ number_back 4 w.year) b (c ∙ number_back 2 w.hour) (e ∙ number_back 2 w.minute) (f ∙ number_back 2 w.second) n (o ∙ number_back 6 w.micro)

  numbered_back : (a b : ℕ) → WellFormed (of (Numbered a b)) → numbered_in (picture_text (showing 6 (of (Numbered a b)))) k ≡ of (Numbered a b)
  unfolding picture_text
  numbered_back a b w =
      let p = number_back 2 w.date.0 in
      let q = number_back 2 w.date.1 in
      whole (Numbered a b) w refl (λ i. Numbered (p i) (q i)) refl refl refl refl refl

  of_year_back : (b : ℕ) → WellFormed (of (OfYear b)) → of_year_in (picture_text (showing 6 (of (OfYear b)))) k ≡ of (OfYear b)
  unfolding picture_text
  of_year_back b w = let q = number_back 3 w.date in whole (OfYear b) w refl (λ i. OfYear (q i)) refl refl refl refl refl

  month_there : (a b : ℕ) → WellFormed (of (Named a b)) → month_in (picture_text (showing 6 (of (Named a b)))) ≡ a
  unfolding picture_text
  month_there a b w = named_back a w.date.0 w.date.1

  named_again : (a b : ℕ) → WellFormed (of (Named a b)) → named_in (picture_text (showing 6 (of (Named a b)))) k ≡ of (Named a b)
  unfolding picture_text
  named_again a b w =
      let p = month_there a b w in
      let q = number_back 2 w.date.2 in
      whole (Named a b) w refl (λ i. Named (p i) (q i)) refl refl refl refl refl

  numbered_like : (a b : ℕ) → like numbered_pattern (picture_text (showing 6 (of (Numbered a b)))) ≡ true
  unfolding picture_text like
  numbered_like a b = simp digit_yes

  of_year_like : (b : ℕ) → like of_year_pattern (picture_text (showing 6 (of (OfYear b)))) ≡ true
  unfolding picture_text like
  of_year_like b = simp digit_yes

  named_like : (a b : ℕ) → like named_pattern (picture_text (showing 6 (of (Named a b)))) ≡ true
  unfolding picture_text like
  named_like a b = simp digit_yes

-- how the text of fields is judged by a pattern whose fraction is its own
module _ (f : Fields) (w : WellFormed f) (cs : List ℕ) (n : ℕ) (e : before_point f ≡ n) (z : drop n cs ≡ fraction_text 6 0) where
  fills : in_full cs (picture_text f) ≡ picture_text (showing 6 f)
  fills = filled_text f cs w (ap (λ (j : ℕ). drop j cs) e ∙ z)

  size : length (picture_text f) ≡ n + length (fraction_text f.digits f.micro)
  size = text_length f ∙ ap (λ (j : ℕ). j + length (fraction_text f.digits f.micro)) e

  has : like cs (picture_text (showing 6 f)) ≡ true → has_picture cs n (picture_text f) ≡ true
  has h = join (ap (right_length n) size ∙ fraction_right n f.digits f.micro w.digits) (ap (like cs) fills ∙ h)

  digits_there : length (picture_text f) - (n + 1) ≡ f.digits
  digits_there = omega (arith, size, fraction_length f.digits f.micro w.digits)

-- a text that differs from a pattern at a place does not have its picture
not_has : (cs s : List ℕ) (n k : ℕ) → T (ltb k (length cs)) → as_shown (get_or cs k 0) (get_or (in_full cs s) k 0) ≡ false → has_picture cs n s ≡ false
not_has cs s n k l e = rw (unlike cs (in_full cs s) k (lit< l) e) (and_false (right_length n (length s)))

read_back : (y h m s k u : ℕ) (d : Date) → let f = of y h m s k u d in WellFormed f → read_fields (picture_text f) ≡ Some f
unfolding read_numbered read_of_year read_named picture_text
read_back y h m s k u (Numbered a b) w =
    let f = of y h m s k u (Numbered a b) in
    let c = numbered_pattern in
    rw (has f w c 19 refl refl (numbered_like y h m s k u a b)) (ap Some (ap₂ numbered_in (fills f w c 19 refl refl) (digits_there f w c 19 refl refl) ∙ numbered_back y h m s k u a b w))
read_back y h m s k u (OfYear b) w =
    let f = of y h m s k u (OfYear b) in
    let c = of_year_pattern in
    rw (not_has numbered_pattern (picture_text f) 19 7 tt (ne_eqb 45 (48 + b / 1 % 10) (λ e. omega arith)), has f w c 17 refl refl (of_year_like y h m s k u b))
    (ap Some (ap₂ of_year_in (fills f w c 17 refl refl) (digits_there f w c 17 refl refl) ∙ of_year_back y h m s k u b w))
read_back y h m s k u (Named a b) w =
    let f = of y h m s k u (Named a b) in
    let c = named_pattern in
    let month : leb 1 (month_in (in_full c (picture_text f))) ≡ true = le-leb 1 (month_in (in_full c (picture_text f))) (omega (arith, ap month_in (fills f w c 20 refl refl), month_there y h m s k u a b w, w.date.0)) in
    rw (not_has numbered_pattern (picture_text f) 19 4 tt refl, not_has of_year_pattern (picture_text f) 17 4 tt refl, has f w c 20 refl refl (named_like y h m s k u a b), month)
    (ap Some (ap₂ named_in (fills f w c 20 refl refl) (digits_there f w c 20 refl refl) ∙ named_again y h m s k u a b w))

pub back : (f : Fields) → WellFormed f → read_fields (picture_text f) ≡ Some f
back f w = read_back f.year f.hour f.minute f.second f.digits f.micro f.date w

-- ---- all of it

-- what one picture's reader answers is right where it is right under its test
under : (P : Fields → Type 0) (b : Bool) (g f : Fields) → (b ≡ true → P g) → cond b (Some g) None ≡ Some f → P f
under P true g f h e = let same : g ≡ f = cc in subst P same (h refl)
under P false g f h e = let z : ◌≡◌ {A = ℕ} 0 1 = cc in absurd (omega arith)

first : (P : Fields → Type 0) (a b : Option Fields) (f : Fields) → (a ≡ Some f → P f) → (b ≡ Some f → P f) → or_else a b ≡ Some f → P f
first P (Some g) b f p q e = p e
first P None b f p q e = q e

abbrev Is : List ℕ → Fields → Type 0
Is s f = WellFormed f × (s ≡ picture_text f)

pub shown : (s : List ℕ) (f : Fields) → read_fields s ≡ Some f → WellFormed f × (s ≡ picture_text f)
unfolding read_numbered read_of_year read_named
shown s f =
    first (Is s) (read_numbered s) (or_else (read_of_year s) (read_named s)) f
    (under (Is s) (has_picture numbered_pattern 19 s) _ f (λ h. numbered_shown s h))
    (first (Is s) (read_of_year s) (read_named s) f
    (under (Is s) (has_picture of_year_pattern 17 s) _ f (λ h. of_year_shown s h))
    (under (Is s) (has_picture named_pattern 20 s && leb 1 (month_in (in_full named_pattern s))) _ f
    (λ h. named_shown s (and_l _ (leb 1 (month_in (in_full named_pattern s))) h) (leb-true 1 _ (and_r (has_picture named_pattern 20 s) _ h)))))

pub determined : Determined
determined f g v w e = let h : Some f ≡ Some g = sym (back f v) ∙ ap read_fields e ∙ back g w in cc
