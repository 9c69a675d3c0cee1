-- What the reader finds in a line is the card that it is.
-- Assumes nothing.
use Prim.Native.Nat.{ℕ, ◌≤◌}
use mathlib.Core.Path.{◌≡◌, refl, sym, ap, ap₂, ◌∙◌}
use mathlib.Core.Logic.{◌⊎◌, inl, inr, ⊎_elim}
use mathlib.Core.Bool.{Bool, true, false, ◌&&◌, ◌||◌}
use mathlib.Core.List.{List, [], ◌∷◌}
use native.Mathlib.Omega.{arith}
use borrow.Author.Tests.{eq-eqb, eqb-true}
use lib.Dec.{eqb}
use lib.ListN.{length, take, drop, get_or, length-take, get_or-replicate}
use lib.Seq.{drop-cons}
use Rattle.std.specs.Prelude.{Option, Some, None}
use Rattle.laws.proofs.Branches.{cond_yes}
use Rattle.laws.proofs.Cases.{chosen, by_test, both, join, one_of}
use Rattle.digits.specs.Bytes.{ascii}
use Rattle.digits.specs.Decimals.{signed}
use Rattle.leap.specs.Entries.{Entry}
use Rattle.columns.specs.declared.Decimal.{Decimal}
use Rattle.columns.specs.Columns.{columns, all_blank, passed_over}
use Rattle.columns.specs.Decimals.{found, decimal_in, whole_of}
use Rattle.columns.proofs.Decimals.{blank_blanks}
use Rattle.columns.proofs.Wholes.{whole_is, whole_was}
use Rattle.cards.specs.Card.{Card}
use Rattle.cards.specs.Reading.{a_card, no_card, sized, dated, date_in, blank_or_plain, is_tdt, is_marked, rest_right, card_in}
use Rattle.cards.proofs.Dates.{date_there, date_was}
use Rattle.cards.proofs.Seconds.{plain_is, plain_was, tdt_is, tdt_was, blank_or_plain_is, blank_or_plain_was}

-- a field of 15 columns
short : (l : List ℕ) → length (take 15 l) ≤ 18
short l = simp length-take (omega arith)

-- ---- the marks

module _ (line : List ℕ) (h : length line ≡ 80) where
  first_column : columns 1 1 line ≡ get_or line 0 0 ∷ []
  first_column = ap (take 1) (drop-cons line 0 0 (omega arith))

  last_columns : columns 79 80 line ≡ get_or line 78 0 ∷ get_or line 79 0 ∷ []
  last_columns = ap (take 2) (drop-cons line 78 0 (omega arith) ∙ ap (λ (l : List ℕ). get_or line 78 0 ∷ l) (drop-cons line 79 0 (omega arith)))

  abbrev Used : Type 0
  Used = (columns 1 1 line ≡ ascii " ") ⊎ (columns 1 1 line ≡ ascii "1")

  used_is : (eqb (get_or line 0 0) 32 || eqb (get_or line 0 0) 49) ≡ true → Used
  used_is e = ⊎_elim (λ p. inl (at p)) (λ p. inr (at p)) (one_of (eqb (get_or line 0 0) 32) (eqb (get_or line 0 0) 49) e)
    where
      at : {b : ℕ} → eqb (get_or line 0 0) b ≡ true → columns 1 1 line ≡ b ∷ []
      at {b} p = first_column ∙ ap (λ (x : ℕ). x ∷ []) (eqb-true (get_or line 0 0) b p)

  used_byte : Used → (get_or line 0 0 ≡ 32) ⊎ (get_or line 0 0 ≡ 49)
  used_byte (inl p) = inl (let f = first_column in cc)
  used_byte (inr p) = inr (let f = first_column in cc)

  used_was : Used → (eqb (get_or line 0 0) 32 || eqb (get_or line 0 0) 49) ≡ true
  used_was u = ⊎_elim (λ p. ap (λ x. eqb x 32 || eqb x 49) p) (λ p. ap (λ x. eqb x 32 || eqb x 49) p) (used_byte u)

  kind_is : (eqb (get_or line 78 0) 84 && eqb (get_or line 79 0) 80) ≡ true → columns 79 80 line ≡ ascii "TP"
  kind_is e =
      let r = both (eqb (get_or line 78 0) 84) (eqb (get_or line 79 0) 80) e in
      last_columns ∙ ap₂ (λ (x y : ℕ). x ∷ y ∷ []) (eqb-true (get_or line 78 0) 84 r.0) (eqb-true (get_or line 79 0) 80 r.1)

  kind_bytes : columns 79 80 line ≡ ascii "TP" → (get_or line 78 0 ≡ 84) × (get_or line 79 0 ≡ 80)
  kind_bytes p = let f = last_columns in (cc, cc)

  kind_was : columns 79 80 line ≡ ascii "TP" → (eqb (get_or line 78 0) 84 && eqb (get_or line 79 0) 80) ≡ true
  kind_was p = let b = kind_bytes p in join (eq-eqb _ 84 b.0) (eq-eqb _ 80 b.1)

-- ---- the month and TAI-UTC

-- what the date and TAI-UTC are where they give a card
record Gave (d : Option ℕ) (x : Option Decimal) (m : ℕ) (negative : Bool) (n : ℕ) : Type 0 where
  number : ℕ
  places : ℕ
  date : d ≡ Some m
  shown : x ≡ found negative number places
  whole : whole_of number places ≡ Some n

gave : (d : Option ℕ) (x : Option Decimal) {m : ℕ} {negative : Bool} {n : ℕ} → dated d x ≡ a_card m negative n → Gave d x m negative n
gave (Some k) (Some d) {m} {negative = neg} {n} e = go (whole_of d.number d.places) refl e
  where
    go : (w : Option ℕ) → whole_of d.number d.places ≡ w → sized k d.minus w ≡ a_card m neg n → Gave (Some k) (Some d) m neg n
    go (Some i) p q = let minus : d.minus ≡ neg = cc in record { number = d.number; places = d.places; date = cc; shown = ap (λ (b : Bool). found b d.number d.places) minus; whole = cc }
    go None p q = let z : ◌≡◌ {A = ℕ} 0 1 = cc in absurd (omega arith)
gave (Some k) None e = let z : ◌≡◌ {A = ℕ} 0 1 = cc in absurd (omega arith)
gave None x e = let z : ◌≡◌ {A = ℕ} 0 1 = cc in absurd (omega arith)

-- ---- the line

pub card_is : (line : List ℕ) (m : ℕ) (negative : Bool) (n : ℕ) → card_in line ≡ a_card m negative n → Card line (m, signed negative n)
unfolding card_in rest_right
card_is line m negative n e =
    let c = chosen (eqb (length line) 80 && rest_right line) (λ p. let z : ◌≡◌ {A = ℕ} 0 1 = cc in omega arith) e in
    let t = both (eqb (length line) 80) (rest_right line) c.0 in
    let h = eqb-true (length line) 80 t.0 in
    let r = both (is_marked (get_or line 0 0) (get_or line 78 0) (get_or line 79 0)) _ t.1 in
    let k = both _ (eqb (get_or line 78 0) 84 && eqb (get_or line 79 0) 80) r.0 in
    let f = both (blank_or_plain (columns 17 31 line)) _ r.1 in
    let g = both (blank_or_plain (columns 32 46 line)) (is_tdt (decimal_in (columns 47 61 line))) f.1 in
    let o = gave (date_in (columns 62 76 line)) (decimal_in (columns 2 16 line)) c.1 in
    let d = date_was (columns 62 76 line) o.date in
    record {
      eighty = h;
      used = used_is line h k.0;
      tai_utc = record { negative = negative; number = o.number; places = o.places; size = n; plain = plain_is (columns 2 16 line) (short (drop 1 line)) o.shown; whole = whole_was o.number o.places n o.whole; is = refl };
      ut1_utc = blank_or_plain_is (columns 17 31 line) (short (drop 16 line)) f.0;
      ut1_rate = blank_or_plain_is (columns 32 46 line) (short (drop 31 line)) g.0;
      tdt_tai = tdt_is (columns 47 61 line) (short (drop 46 line)) g.1;
      date = d.0;
      in_years_lem = d.1;
      kind = kind_is line h k.1;
    }

pub card_shown : (line : List ℕ) (e : Entry) → Card line e → (negative : Bool) × (n : ℕ) × (card_in line ≡ a_card e.0 negative n) × (e.1 ≡ signed negative n)
unfolding card_in rest_right
card_shown line e c =
    let s = c.tai_utc in
    let right : rest_right line ≡ true =
    join (join (used_was line c.eighty c.used) (kind_was line c.eighty c.kind))
    (join (blank_or_plain_was (columns 17 31 line) (short (drop 16 line)) c.ut1_utc)
    (join (blank_or_plain_was (columns 32 46 line) (short (drop 31 line)) c.ut1_rate) (tdt_was (columns 47 61 line) (short (drop 46 line)) c.tdt_tai))) in
    let shown : dated (date_in (columns 62 76 line)) (decimal_in (columns 2 16 line)) ≡ a_card e.0 s.negative s.size =
    ap₂ dated (date_there (columns 62 76 line) e.0 c.date c.in_years_lem) (plain_was (columns 2 16 line) (short (drop 1 line)) s.plain)
    ∙ ap (sized e.0 s.negative) (ap (λ (k : ℕ). whole_of k s.places) s.whole ∙ whole_is s.size s.places) in
    (s.negative, s.size, sym (cond_yes no_card (join (eq-eqb (length line) 80 c.eighty) right) (sym shown)), s.is)

-- `T` is no blank, and no comment begins with what column 1 may have
pub card_not_passed : (line : List ℕ) (e : Entry) → Card line e → passed_over line ≡ false
unfolding passed_over
card_not_passed line e c =
    let blank : all_blank line ≡ false =
    by_test (all_blank line)
    (λ t.
    let b : get_or line 78 0 ≡ 32 = ap (λ (l : List ℕ). get_or l 78 0) (blank_blanks line t) ∙ get_or-replicate (length line) 78 32 0 (omega (arith, c.eighty)) in
    absurd (omega (arith, kind_bytes line c.eighty c.kind)))
    (λ f. f) in
    rw blank (⊎_elim (λ p. ap comment p) (λ p. ap comment p) (used_byte line c.eighty c.used))
  where
    comment : ℕ → Bool
    comment b = eqb b 42 || (eqb b 67 || eqb b 99)
