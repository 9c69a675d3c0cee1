-- What is written for a table is the cards of its entries, one on each line.
-- Assumes nothing.
use Prim.Native.Nat.{ℕ, zero, suc, ◌+◌, ◌*◌, ◌/◌, ◌%◌, ◌^◌, ◌≤◌, ◌<◌}
use mathlib.Core.Path.{◌≡◌, refl, sym, ap, subst, ◌∙◌}
use mathlib.Core.Logic.{inl}
use mathlib.Core.Bool.{Bool, true, not, ◌&&◌}
use mathlib.Core.List.{List, [], ◌∷◌, ◌++◌}
use native.Mathlib.Omega.{arith}
use borrow.Author.Tests.{le-leb, ne_eqb, not-true, lt-leb}
use lib.Dec.{eqb}
use lib.IntN.{ℤ}
use lib.ListN.{length, length-append}
use lib.Signed.{mag}
use Rattle.laws.specs.Tests.{All}
use Rattle.laws.proofs.Cases.{by_test, both, join}
use Rattle.answer.proofs.Promise.{writer}
use Rattle.leap.specs.declared.Table.{Table}
use Rattle.calendar.specs.Days.{day_of_year}
use Rattle.leap.specs.Leap.{epoch, accepted}
use Rattle.leap.specs.Entries.{Entry, entries}
use Rattle.leap.proofs.Facts.{Accepted, accepted_to}
use Rattle.leap.proofs.Offsets.{Fine, all_fine}
use Rattle.leap.proofs.Entries.{entries_long}
use Rattle.digits.specs.Bytes.{ascii}
use Rattle.digits.specs.Decimals.{digit_value, all_digits, spelled, signed, digits_of}
use Rattle.digits.proofs.Decimals.{number_back, digits_all, spelled_append}
use Rattle.columns.specs.Columns.{all_blank}
use Rattle.columns.specs.Lines.{lines_of}
use Rattle.columns.specs.Decimals.{Sign, none, minus, a_point}
use Rattle.cards.specs.Card.{last_card_month, card_date, WholeSeconds, TdtSeconds, Card}
use Rattle.cards.specs.Writing.{blanks, card_line, card_text, cards_text, cards_of, in_card_years, card_tests}
use Rattle.cards.specs.Promise.{Shown, end, card, InYears, WritesCards}
use Rattle.cards.proofs.Years.{years_to, years_from}
use Rattle.cards.proofs.Storing.{signed_form, card_long}

-- ---- the entries that can be written

abbrev pub Short : Entry → Type 0
Short e = mag e.1 < 99

abbrev pub Writable : Entry → Type 0
Writable e = Short e × (e.0 ≤ last_card_month)

all_short : (es : List Entry) → All Fine es → All Short es
all_short [] h = tt
all_short (e ∷ es) h = (h.0.0, all_short es h.1)

all_writable : (es : List Entry) → All Short es → All (λ e. e.0 ≤ last_card_month) es → All Writable es
all_writable [] h y = tt
all_writable (e ∷ es) h y = ((h.0, y.0), all_writable es h.1 y.1)

shorts : {t : Table} → Accepted t → All Short (entries t)
shorts {t} a = all_short (entries t) (all_fine a 0 t.count (omega arith))

pub writables : {t : Table} → Accepted t → InYears t → All Writable (entries t)
writables {t} a y = all_writable (entries t) (shorts a) y

-- ---- a card's fields

shows : {negative : Bool} {sign : List ℕ} → Sign negative sign → (before w n : ℕ) → n < 10 ^ w
    → WholeSeconds (blanks before ++ (sign ++ ((digits_of w n ++ ascii ".0") ++ []))) (signed negative n)
unfolding all_digits spelled digit_value
shows {negative} {sign} g before w n l =
    let e : spelled n (ascii "0") ≡ n * 10 = omega arith in
    record {
      negative = negative;
      number = n * 10;
      places = 1;
      size = n;
      plain = record {
        before = before;
        sign = sign;
        whole = digits_of w n;
        behind = ascii "0";
        body = digits_of w n ++ ascii ".0";
        after = 0;
        split = refl;
        is_sign_lem = g;
        is_body = a_point;
        whole_digits = digits_all w n;
        behind_digits = refl;
        some_digit = omega arith;
        is_number = sym (spelled_append 0 (digits_of w n) (ascii "0") ∙ ap (λ k. spelled k (ascii "0")) (number_back w l) ∙ e);
        is_places = refl;
      };
      whole = refl;
      is = refl;
    }

tdt : TdtSeconds (blanks 8 ++ (ascii "32.184" ++ blanks 1))
unfolding all_digits spelled digit_value
tdt = record {
  number = 32184;
  places = 3;
  plain = record { before = 8; sign = []; whole = ascii "32"; behind = ascii "184"; body = ascii "32.184"; after = 1; split = refl; is_sign_lem = none; is_body = a_point; whole_digits = refl; behind_digits = refl; some_digit = omega arith; is_number = refl; is_places = refl };
  exact = refl;
}

-- a number of three bytes, blanks among them
made : (m : ℕ) → m ≤ last_card_month → (a b c : ℕ) {z : ℤ} → WholeSeconds (blanks 10 ++ (a ∷ b ∷ c ∷ ascii ".0")) z → Card (card_line (a ∷ b ∷ c ∷ []) (card_date m)) (m, z)
unfolding all_blank
made m h a b c s = record { eighty = refl; used = inl refl; tai_utc = s; ut1_utc = inl refl; ut1_rate = inl refl; tdt_tai = tdt; date = refl; in_years_lem = h; kind = refl }

card_of : (e : Entry) → mag e.1 < 99 → e.0 ≤ last_card_month → Card (card_text e) e
unfolding card_text
card_of e h y =
    signed_form e.1 h (λ z x. Card (card_line x (card_date e.0)) (e.0, z))
    (λ n l. made e.0 y 32 32 (48 + n / 1 % 10) (shows none 12 1 n l))
    (λ n l k. made e.0 y 32 (48 + n / 10 % 10) (48 + n / 1 % 10) (shows none 11 2 n k))
    (λ n l. made e.0 y 32 45 (48 + suc n / 1 % 10) (shows minus 11 1 (suc n) (omega arith)))
    (λ n l k. made e.0 y 45 (48 + suc n / 10 % 10) (48 + suc n / 1 % 10) (shows minus 10 2 (suc n) (omega arith)))

-- ---- one on each line: no byte of a card is a line feed

abbrev no_feed : List ℕ → Bool
no_feed [] = true
no_feed (b ∷ s) = not (eqb b 10) && no_feed s

feed_append : (a b : List ℕ) → no_feed a ≡ true → no_feed b ≡ true → no_feed (a ++ b) ≡ true
feed_append [] b p q = q
feed_append (x ∷ a) b p q = let r = both (not (eqb x 10)) (no_feed a) p in join r.0 (feed_append a b r.1 q)

feed_digits : (w n : ℕ) → no_feed (digits_of w n) ≡ true
feed_digits zero n = refl
feed_digits (suc w) n = rw (ne_eqb (48 + n / 10 ^ w % 10) 10 (λ e. omega arith)) (feed_digits w n)

module _ (e : Entry) (h : mag e.1 < 99) where
  -- the bytes that are not digits compute
  date_feed : no_feed (card_date e.0) ≡ true
  date_feed =
      let y = 1972 + e.0 / 12 in
      let d = day_of_year (epoch + e.0) 1 in
      feed_append (digits_of 2 y) (digits_of 3 d) (feed_digits 2 y) (feed_digits 3 d)

  behind_feed : (w n : ℕ) → no_feed (digits_of w n ++ card_date e.0) ≡ true
  behind_feed w n = feed_append (digits_of w n) (card_date e.0) (feed_digits w n) date_feed

  card_feed : no_feed (card_text e) ≡ true
  unfolding card_text
  card_feed = signed_form e.1 h (λ z x. no_feed (card_line x (card_date e.0)) ≡ true) (λ n l. behind_feed 1 n) (λ n l k. behind_feed 2 n) (λ n l. behind_feed 1 (suc n)) (λ n l k. behind_feed 2 (suc n))

line_first : (line s : List ℕ) → no_feed line ≡ true → lines_of (line ++ 10 ∷ s) ≡ line ∷ lines_of s
unfolding lines_of
line_first [] s p = refl
line_first (b ∷ line) s p = let r = both (not (eqb b 10)) (no_feed line) p in rw (not-true (eqb b 10) r.0, line_first line s r.1)

pub shown_of : (es : List Entry) → All Writable es → Shown (lines_of (cards_text es)) es
unfolding cards_text lines_of
shown_of [] h = end
shown_of (e ∷ es) h = subst (λ l. Shown l (e ∷ es)) (sym (line_first (card_text e) (cards_text es) (card_feed e h.0.0))) (card (card_of e h.0.0 h.0.1) (shown_of es h.1))

-- ---- how long they are

cards_long : (es : List Entry) → All Short es → length (cards_text es) ≡ 81 * length es
unfolding cards_text
cards_long [] h = refl
cards_long (e ∷ es) h = omega (arith, length-append (card_text e) (10 ∷ cards_text es), card_long e h.0, cards_long es h.1)

pub sizes : (t : Table) → accepted t ≡ true → length (cards_of t) ≡ 81 * t.count
unfolding cards_of
sizes t a = cards_long (entries t) (shorts (accepted_to t a)) ∙ ap (λ n. 81 * n) (entries_long t)

-- ---- what writing answers

pub writes : (t : Table) (buffer : List ℕ) → WritesCards t buffer
writes t buffer = record {
  refuses_its_table = λ a. rw a;
  where_it_fits = λ a y l. rw (a, years_from (entries t) y, le-leb (length (cards_of t)) (length buffer) l) (refl, refl);
  refuses_its_years = λ a n. let q = by_test (in_card_years (entries t)) (λ e. absurd (n (years_to (entries t) e))) (λ e. e) in rw (a, q);
  refuses_its_room = λ a y l. rw (a, years_from (entries t) y, lt-leb (length (cards_of t)) (length buffer) l);
  or_nothing = (writer (card_tests t) (cards_of t) buffer).or_nothing;
}
