-- A card is stored field by field on a blank one, and the cards one behind another: what is stored, with what is still to come, is all of them.
-- Assumes nothing.
use Prim.Native.Nat.{ℕ, suc, ◌+◌, ◌-◌, ◌*◌, ◌/◌, ◌≤◌, ◌<◌, min}
use mathlib.Core.Path.{◌≡◌, refl, sym, ap, ◌∙◌}
use mathlib.Core.Bool.{true}
use mathlib.Core.List.{List, [], ◌∷◌, ◌++◌, append_assoc, append-nil}
use native.Mathlib.Omega.{arith}
use lib.IntN.{ℤ, pos, negsuc}
use lib.ListN.{length, take, drop}
use lib.Seq.{take_at}
use lib.Signed.{mag}
use Rattle.laws.proofs.Difference.{up, down}
use Rattle.laws.proofs.Placed.{place_none}
use Rattle.leap.specs.declared.Table.{Table}
use Rattle.leap.specs.Leap.{vouched_to}
use Rattle.leap.specs.Entries.{Entry, entry, entries_from, entries}
use Rattle.leap.proofs.Facts.{Accepted}
use Rattle.leap.proofs.Offsets.{small}
use Rattle.leap.proofs.Entries.{entries_same}
use Rattle.digits.specs.Bytes.{ascii, appended, Appended, Placed}
use Rattle.digits.specs.Decimals.{digits_of, signed_text}
use Rattle.digits.proofs.Bytes.{is_placed, placed, then_placed}
use Rattle.digits.proofs.Short.{decimal_form}
use Rattle.cards.specs.Card.{card_date}
use Rattle.cards.specs.Writing.{blanks, card_line, card_text, cards_text, cards_of, in_card_years}

-- ---- a number below 99 in size: one digit or two, and a sign

pub signed_form : (z : ℤ) → mag z < 99 → (P : ℤ → List ℕ → Type 0)
    → ((n : ℕ) → n < 10 → P (pos n) (digits_of 1 n)) → ((n : ℕ) → 10 ≤ n → n < 100 → P (pos n) (digits_of 2 n))
    → ((n : ℕ) → n < 9 → P (negsuc n) (45 ∷ digits_of 1 (suc n))) → ((n : ℕ) → 9 ≤ n → n < 99 → P (negsuc n) (45 ∷ digits_of 2 (suc n)))
    → P z (signed_text z)
unfolding signed_text
signed_form (pos n) h P one two minus_one minus-two = decimal_form n (P (pos n)) (omega arith) (one n) (λ l. two n l (omega arith))
signed_form (negsuc n) h P one two minus_one minus-two = decimal_form (suc n) (λ x. P (negsuc n) (45 ∷ x)) (omega arith) (λ l. minus_one n (omega arith)) (λ l. minus-two n (omega arith) (omega arith))

pub width_is : (z : ℤ) → mag z < 99 → length (signed_text z) ≡ 1 + min 1 (down z) + min 1 ((up z + down z) / 10)
width_is z h =
    signed_form z h (λ y x. length x ≡ 1 + min 1 (down y) + min 1 ((up y + down y) / 10))
    (λ n l. omega arith) (λ n l m. omega arith) (λ n l. omega arith) (λ n l m. omega arith)

-- ---- a card

-- a blank card with its fields stored, one after another
abbrev filled : List ℕ → List ℕ → List ℕ
filled number date =
    appended (appended (appended (appended (appended (blanks 80) (14 - length number) number) 14 (ascii ".0")) 54 (ascii "32.184")) 61 date) 78 (ascii "TP")

module _ (e : Entry) (h : mag e.1 < 99) where
  pub card_filled : filled (signed_text e.1) (card_date e.0) ≡ card_text e
  unfolding appended card_text
  card_filled = signed_form e.1 h (λ y x. filled x (card_date e.0) ≡ card_line x (card_date e.0)) (λ n l. refl) (λ n l k. refl) (λ n l. refl) (λ n l k. refl)

  pub card_long : length (card_text e) ≡ 80
  unfolding card_text
  card_long = signed_form e.1 h (λ y x. length (card_line x (card_date e.0)) ≡ 80) (λ n l. refl) (λ n l k. refl) (λ n l. refl) (λ n l k. refl)

-- ---- the cards

-- the month that a table is vouched for is on none of them
pub cards_same : (v : ℕ) (t : Table) → cards_of (vouched_to v t) ≡ cards_of t
unfolding cards_of
cards_same v t = ap cards_text (entries_same v t)

-- the first k cards are stored, up to len
pub record Stored (t : Table) (bytes : List ℕ) (len k : ℕ) : Type 0 where
  pub given : List ℕ
  pub room : length given ≡ 5184
  pub right : Accepted t
  pub early : in_card_years (entries t) ≡ true
  pub text : List ℕ
  pub stored : Placed given 0 text len bytes
  pub goes : text ++ cards_text (entries_from t k (t.count - k)) ≡ cards_of t
  pub inside : k ≤ t.count
  pub size : len ≡ 81 * k

pub stored_none : {t : Table} → Accepted t → in_card_years (entries t) ≡ true → {given : List ℕ} → length given ≡ 5184 → Stored t given 0 0
unfolding cards_of
stored_none {t} a y {given} long =
    let n : t.count - 0 ≡ t.count = omega arith in
    record { given = given; room = long; right = a; early = y; text = []; stored = is_placed given 0 [] (omega arith) refl (sym (place_none given 0)); goes = ap (λ k. cards_text (entries_from t 0 k)) n; inside = omega arith; size = refl }

module _ {t : Table} {bytes : List ℕ} {len k : ℕ} (h : Stored t bytes len k) where
  pub long : length bytes ≡ 5184
  long = h.stored.size ∙ h.room

  module _ (l : k < t.count) where
    pub card_size : length (card_text (entry t k)) ≡ 80
    card_size = card_long (entry t k) (small h.right k l)

    module _ {m : ℕ} {b : List ℕ} (p : Appended bytes len (card_text (entry t k)) m b) where
      card_placed : Placed bytes len (card_text (entry t k)) m b
      card_placed = placed bytes len (card_text (entry t k)) (omega (arith, h.size, h.right.few, long, card_size)) p

      pub card_kept : length b ≡ 5184
      card_kept = card_placed.size ∙ long

      pub stored_more : {n : ℕ} {c : List ℕ} → Appended b m (10 ∷ []) n c → Stored t c n (k + 1)
      unfolding entries_from cards_text
      stored_more {n} {c} q =
          let e = card_text (entry t k) in
          let f = card_placed in
          let g = placed b m (10 ∷ []) (omega (arith, f.end, card_kept, card_size, h.size, h.right.few)) q in
          let s : t.count - k ≡ suc (t.count - (k + 1)) = omega arith in
          let later = cards_text (entries_from t (k + 1) (t.count - (k + 1))) in
          record {
            given = h.given;
            room = h.room;
            right = h.right;
            early = h.early;
            text = h.text ++ (e ++ 10 ∷ []);
            stored = then_placed h.given 0 h.text (e ++ 10 ∷ []) h.stored (then_placed bytes len e (10 ∷ []) f g);
            goes =
                append_assoc h.text (e ++ 10 ∷ []) later
                ∙ ap (λ x. h.text ++ x) (append_assoc e (10 ∷ []) later)
                ∙ ap (λ j. h.text ++ cards_text (entries_from t k j)) (sym s)
                ∙ h.goes;
            inside = omega arith;
            size = omega (arith, f.end, g.end, h.size, card_size);
          }

  pub stored_all : t.count ≤ k → take len bytes ≡ cards_of t
  unfolding entries_from cards_text
  stored_all l =
      let n : t.count - k ≡ 0 = omega arith in
      let whole : h.text ++ [] ≡ cards_of t = ap (λ j. h.text ++ cards_text (entries_from t k j)) (sym n) ∙ h.goes in
      let e : len ≡ length h.text = h.stored.end ∙ omega arith in
      ap (take len) h.stored.text ∙ take_at h.text (drop (0 + length h.text) h.given) len (sym e) ∙ sym (append-nil h.text) ∙ whole
