-- A file of cards is read line by line: what is left to read, behind the entries so far, is the whole.
-- Assumes nothing.
use Prim.Native.Nat.{ℕ, zero, suc, ◌+◌, ◌≤◌, ◌<◌, min}
use mathlib.Core.Path.{◌≡◌, refl, sym, ap, ap₂, subst, ◌∙◌}
use mathlib.Core.Logic.{inl, inr}
use mathlib.Core.Bool.{Bool, true, false, cond}
use mathlib.Core.List.{List, [], ◌∷◌, ◌++◌, reverse}
use native.Mathlib.Omega.{arith}
use lib.Dec.{ltb}
use lib.IntN.{ℤ, pos}
use lib.ListN.{length, drop, length-reverse}
use lib.Signed.{mag}
use Rattle.std.specs.Prelude.{Option, Some, None}
use borrow.Author.Tests.{lt-ltb, le-ltb}
use Rattle.laws.proofs.Cases.{by_order}
use Rattle.answer.specs.declared.Refusal.TheVariants.{Table as TABLE, Card as CARD}
use Rattle.digits.specs.Decimals.{signed}
use Rattle.leap.specs.Leap.{tabled, vouched_to}
use Rattle.leap.specs.Entries.{Entry, entries, table_of}
use Rattle.leap.specs.Readers.{refused_at, judged}
use Rattle.leap.proofs.Entries.{Holds, holds_more, holds_table, entries_of}
use Rattle.leap.proofs.Kept.{SameOrLarge, Kept, kept_append, kept_long, kept_reverse, kept_judged}
use Rattle.leap.proofs.Facts.{too_many}
use Rattle.lines.specs.Words.{before}
use Rattle.columns.specs.Lines.{lines_of}
use Rattle.columns.specs.Columns.{passed_over}
use Rattle.columns.proofs.Lines.{lines_step, lines_end}
use Rattle.cards.specs.declared.Deck.{Deck}
use Rattle.cards.specs.Reading.{Found, a_card, no_card, card_in, kept, kept_card, no_cards, put, crowded, added, in_order, turned, read_lines, read_cards}
use Rattle.cards.proofs.Orders.{Ordered, ordered_none, oldest_is, ordered_next, ordered_full}
use Rattle.cards.proofs.Turned.{turned_many}

-- ---- what a line was

-- the entry that is kept, if one is
abbrev held : Option Entry → Entry
held (Some e) = e
held None = (0, pos 0)

-- a card of which this entry is kept
pub record WasEntry (line : List ℕ) (m : ℕ) (o : ℤ) : Type 0 where
  pub negative : Bool
  pub size : ℕ
  pub is_card : card_in line ≡ a_card m negative size
  pub is_kept : o ≡ signed negative (kept size)

module _ (line : List ℕ) where
  pub was_bad : kept_card (card_in line) ≡ None → card_in line ≡ no_card
  was_bad e = go (card_in line) refl e
    where
      go : (f : Found) → card_in line ≡ f → kept_card f ≡ None → card_in line ≡ no_card
      go (a_card m negative n) q h = let z : ◌≡◌ {A = ℕ} 0 1 = cc in absurd (omega arith)
      go no_card q h = q

  pub was_entry : (m : ℕ) (o : ℤ) → kept_card (card_in line) ≡ Some (m, o) → WasEntry line m o
  was_entry m o e = go (card_in line) refl e
    where
      go : (f : Found) → card_in line ≡ f → kept_card f ≡ Some (m, o) → WasEntry line m o
      go (a_card k negative n) q h = let p : k ≡ m = ap (λ x. (held x).0) h in record { negative = negative; size = n; is_card = q ∙ ap (λ j. a_card j negative n) p; is_kept = sym (ap (λ x. (held x).1) h) }
      go no_card q h = let z : ◌≡◌ {A = ℕ} 0 1 = cc in absurd (omega arith)

-- ---- what is kept of the entries

kept_same : (negative : Bool) (n : ℕ) → SameOrLarge (signed negative n) (signed negative (kept n))
kept_same negative n =
    by_order n 1000
    (λ l. let e : n ≡ min n 1000 = omega arith in inl (ap (signed negative) e))
    (λ l. let e : 1000 ≡ min n 1000 = omega arith in inr (large negative n l, subst (λ k. 999 ≤ mag (signed negative k)) e (large negative 1000 (omega arith))))
  where
    large : (negative : Bool) (n : ℕ) → 1000 ≤ n → 999 ≤ mag (signed negative n)
    large true zero h = absurd (omega arith)
    large true (suc n) h = omega arith
    large false n h = omega arith

kept_turned : (falling : Bool) (es ps : List Entry) → Kept es ps → Kept (cond falling (reverse es) es) (cond falling (reverse ps) ps)
kept_turned true es ps k = kept_reverse es ps k
kept_turned false es ps k = k

-- ---- the loop

-- up to place i all is read: behind these entries, of which the arrays hold what is kept, unless they are over 64
pub record Going (s : List ℕ) (d : Deck) (i : ℕ) : Type 0 where
  pub es : List Entry
  pub ps : List Entry
  pub ordered : Ordered es d.table.count d.falling d.last
  pub keeps : Kept es ps
  pub holds : d.table.count ≤ 64 → Holds d.table.months d.table.offsets ps
  pub no_month : d.table.vouched ≡ 0
  pub goes : read_lines es i (lines_of (drop i s)) ≡ read_cards s
  pub inside : i ≤ length s

pub going_none : (s : List ℕ) → Going s no_cards 0
unfolding read_cards
going_none s = record { es = []; ps = []; ordered = ordered_none; keeps = tt; holds = λ l. record { months_are = refl; offsets_are = refl }; no_month = refl; goes = refl; inside = omega arith }

-- a table of the entries turned, by what is held of them
turned_held : (falling : Bool) (ps : List Entry) → turned falling (table_of ps) ≡ table_of (cond falling (reverse ps) ps)
turned_held true ps = ap (λ l. table_of (reverse l)) (entries_of ps)
turned_held false ps = refl

turned_long : (falling : Bool) (es : List Entry) → length (cond falling (reverse es) es) ≡ length es
turned_long true es = length-reverse es
turned_long false es = refl

many : (es : List Entry) → 64 < length es → refused_at TABLE 0 ≡ judged (table_of es)
unfolding table_of
many es l = rw (too_many (table_of es) l)

module _ {s : List ℕ} {d : Deck} {i : ℕ} (h : Going s d i) where
  abbrev falling : Bool
  falling = d.falling

  abbrev count : ℕ
  count = d.table.count

  plain : d.table ≡ tabled count d.table.months d.table.offsets
  plain = ap (λ v. vouched_to v d.table) h.no_month

  pub no_more : count ≤ 64 → d.table ≡ table_of (entries d.table)
  no_more m =
      let e : d.table ≡ table_of h.ps = plain ∙ holds_table (h.holds m) (kept_long h.es h.ps h.keeps ∙ h.ordered.few m) in
      e ∙ ap table_of (sym (ap entries e ∙ entries_of h.ps))

  pub on_end : length s ≤ i → judged (turned falling d.table) ≡ read_cards s
  unfolding read_lines table_of
  on_end l = told ∙ ap (λ fs. judged (table_of fs)) (sym (oldest_is h.ordered)) ∙ ap (read_lines h.es i) (sym (lines_end s i l)) ∙ h.goes
    where
      o : Ordered h.es count falling d.last
      o = h.ordered

      told : judged (turned falling d.table) ≡ judged (table_of (cond falling (reverse h.es) h.es))
      told =
          by_order 64 count
          (λ m. sym (turned_many falling d.table m) ∙ many (cond falling (reverse h.es) h.es) (omega (arith, o.many m, turned_long falling h.es)))
          (λ m.
          ap (λ t. judged (turned falling t)) (plain ∙ holds_table (h.holds m) (kept_long h.es h.ps h.keeps ∙ o.few m))
          ∙ ap judged (turned_held falling h.ps)
          ∙ kept_judged (cond falling (reverse h.es) h.es) (cond falling (reverse h.ps) h.ps) (kept_turned falling h.es h.ps h.keeps))

  module _ (l : i < length s) {end next : ℕ} (e : end ≡ i + length (before 10 (drop i s))) (n : next ≡ min (length s) (end + 1)) {line : List ℕ} (q : line ≡ before 10 (drop i s)) where
    -- the lines behind this one, from where it ends
    rest_goes : (fs : List Entry) → read_lines fs next (lines_of (drop next s)) ≡ read_lines fs (i + (length line + 1)) (lines_of (drop (end + 1) s))
    unfolding read_lines
    rest_goes fs =
        by_order end (length s)
        (λ m. let p : next ≡ end + 1 = omega arith in let r : next ≡ i + (length line + 1) = omega (arith, ap length q) in ap₂ (λ k j. read_lines fs k (lines_of (drop j s))) r p)
        (λ m. rw (lines_end s next (omega arith), lines_end s (end + 1) (omega arith)))

    here : read_lines h.es i (line ∷ lines_of (drop (end + 1) s)) ≡ read_cards s
    here = ap (λ x. read_lines h.es i (x ∷ lines_of (drop (end + 1) s))) q ∙ ap (read_lines h.es i) (sym (lines_step s i l e)) ∙ h.goes

    pub on_passed : passed_over line ≡ true → Going s d next
    unfolding read_lines
    on_passed p = record { es = h.es; ps = h.ps; ordered = h.ordered; keeps = h.keeps; holds = h.holds; no_month = h.no_month; goes = rest_goes h.es ∙ rw p at here; inside = omega arith }

    pub on_bad : passed_over line ≡ false → card_in line ≡ no_card → refused_at CARD i ≡ read_cards s
    unfolding read_lines
    on_bad p w = rw (p, w) at here

    module _ (p : passed_over line ≡ false) {m : ℕ} {o : ℤ} (w : WasEntry line m o) where
      abbrev new : Entry
      new = (m, signed w.negative w.size)

      pub on_order : in_order (h.es ++ new ∷ []) ≡ false → refused_at CARD i ≡ read_cards s
      unfolding read_lines
      on_order r = rw (p, w.is_card, r) at here

      module _ (r : in_order (h.es ++ new ∷ []) ≡ true) where
        more : read_lines (h.es ++ new ∷ []) next (lines_of (drop next s)) ≡ read_cards s
        unfolding read_lines
        more = rest_goes (h.es ++ new ∷ []) ∙ rw (p, w.is_card, r) at here

        keeps_more : Kept (h.es ++ new ∷ []) (h.ps ++ (m, o) ∷ [])
        keeps_more = kept_append h.es h.ps (new ∷ []) ((m, o) ∷ []) h.keeps (refl, (subst (SameOrLarge new.1) (sym w.is_kept) (kept_same w.negative w.size), tt))

        on_few : count < 64 → Going s (record { table = put m o d.table; falling = ltb m d.last; last = m }) next
        on_few k =
            let c : count ≤ 64 = omega arith in
            record {
              es = h.es ++ new ∷ [];
              ps = h.ps ++ (m, o) ∷ [];
              ordered = ordered_next new h.ordered k r;
              keeps = keeps_more;
              holds = λ j. holds_more (h.holds c) (m, o) (kept_long h.es h.ps h.keeps ∙ h.ordered.few c) k;
              no_month = h.no_month;
              goes = more;
              inside = omega arith;
            }

        pub on_full : 64 ≤ count → Going s (record { table = crowded d.table; falling = ltb m d.last; last = m }) next
        on_full k = record {
          es = h.es ++ new ∷ [];
          ps = h.ps ++ (m, o) ∷ [];
          ordered = ordered_full new h.ordered k r;
          keeps = keeps_more;
          holds = λ j. absurd (omega arith);
          no_month = h.no_month;
          goes = more;
          inside = omega arith;
        }

        pub on_entry : Going s (added m o d) next
        on_entry =
            by_order count 64
            (λ k. rw (lt-ltb count 64 k) (on_few k))
            (λ k. rw (le-ltb count 64 k) (on_full k))
