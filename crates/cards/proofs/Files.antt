-- A file of cards, line by line: what its lines show, and where reading stops.
-- Assumes nothing.
use Prim.Native.Nat.{ℕ, ◌+◌}
use mathlib.Core.Path.{◌≡◌, refl, sym, ap, ap₂, subst, ◌∙◌}
use mathlib.Core.Logic.{◌⊎◌, inl, inr}
use mathlib.Core.Bool.{true, false, cond}
use mathlib.Core.List.{List, [], ◌∷◌, ◌++◌, reverse, append_assoc, append-nil, reverse-reverse}
use native.Mathlib.Omega.{arith}
use lib.ListN.{length}
use Rattle.std.specs.Prelude.{Result}
use Rattle.laws.proofs.Cases.{pick, by_test, or_l, or_r}
use Rattle.answer.specs.declared.Refusal.TheVariants.{Card as CARD}
use Rattle.digits.specs.Decimals.{signed}
use Rattle.leap.specs.declared.Table.{Table}
use Rattle.answer.specs.declared.Fault.{Fault}
use Rattle.leap.specs.Leap.{accepted}
use Rattle.leap.specs.Entries.{Entry, table_of}
use Rattle.leap.specs.Readers.{refused_at, judged, table_results}
use Rattle.leap.proofs.Facts.{same_entry}
use Rattle.columns.specs.Lines.{lines_of, place_behind}
use Rattle.columns.specs.Columns.{passed_over}
use Rattle.cards.specs.Card.{Card, rises}
use Rattle.cards.specs.Reading.{Found, a_card, no_card, card_in, in_order, oldest_first, read_lines, read_cards}
use Rattle.cards.specs.Promise.{Shown, end, passed, card, Tell, FirstBad}
use Rattle.cards.proofs.Found.{card_is, card_shown, card_not_passed}
use Rattle.cards.proofs.Orders.{order_front, oldest_rises, oldest_risen, oldest_turned}

-- ---- what lines show

shown_append : {lines more : List (List ℕ)} {es fs : List Entry} → Shown lines es → Shown more fs → Shown (lines ++ more) (es ++ fs)
shown_append end t = t
shown_append (passed p s) t = passed p (shown_append s t)
shown_append (card c s) t = card c (shown_append s t)

-- entries in order are told oldest first
told : {lines : List (List ℕ)} {fs : List Entry} → Shown lines fs → in_order fs ≡ true → Tell lines (oldest_first fs)
told {lines} {fs} s i = record { rising = oldest_rises fs i; shown = pick (λ es. Shown lines es ⊎ Shown lines (reverse es)) (rises fs) (λ q. inl s) (λ q. inr (subst (Shown lines) (sym (reverse-reverse fs)) s)) }

-- what is told is shown in one order or the other
record Standing (lines : List (List ℕ)) (es : List Entry) : Type 0 where
  fs : List Entry
  stand : Shown lines fs
  order : in_order fs ≡ true
  oldest : oldest_first fs ≡ es

standing : {lines : List (List ℕ)} {es : List Entry} → Tell lines es → Standing lines es
standing {lines} {es} t = go t.shown
  where
    go : Shown lines es ⊎ Shown lines (reverse es) → Standing lines es
    go (inl s) = record { fs = es; stand = s; order = or_l (rises (reverse es)) t.rising; oldest = oldest_risen es t.rising }
    go (inr s) = record { fs = reverse es; stand = s; order = or_r (rises (reverse es)) (ap rises (reverse-reverse es) ∙ t.rising); oldest = oldest_turned es t.rising }

-- ---- reading goes on over lines that show entries in order

card_step : (es : List Entry) (at : ℕ) {line : List ℕ} (lines : List (List ℕ)) {e : Entry} → Card line e → in_order (es ++ e ∷ []) ≡ true → read_lines es at (line ∷ lines) ≡ read_lines (es ++ e ∷ []) (at + (length line + 1)) lines
unfolding read_lines
card_step es at {line} lines {e} c i =
    let f = card_shown line e c in
    let next : Entry → (Result Table Fault) = λ x. cond (in_order (es ++ x ∷ [])) (read_lines (es ++ x ∷ []) (at + (length line + 1)) lines) (refused_at CARD at) in
    rw (card_not_passed line e c, f.2) (ap next (same_entry refl (sym f.3)) ∙ rw i)

read_on : {before : List (List ℕ)} {fs : List Entry} → Shown before fs → (es : List Entry) (at : ℕ) (after : List (List ℕ)) → in_order (es ++ fs) ≡ true → read_lines es at (before ++ after) ≡ read_lines (es ++ fs) (at + place_behind before) after
unfolding read_lines place_behind
read_on end es at after i = let n : at ≡ at + 0 = omega arith in ap₂ (λ l k. read_lines l k after) (sym (append-nil es)) n
read_on (passed {line = line} {lines = lines} {es = fs} p s) es at after i =
    let n : at + (length line + 1) + place_behind lines ≡ at + (length line + 1 + place_behind lines) = omega arith in
    rw p (read_on s es (at + (length line + 1)) after i ∙ ap (λ k. read_lines (es ++ fs) k after) n)
read_on (card {line = line} {lines = lines} {e = e} {es = fs} c s) es at after i =
    let n : at + (length line + 1) + place_behind lines ≡ at + (length line + 1 + place_behind lines) = omega arith in
    let a = append_assoc es (e ∷ []) fs in
    let j = ap in_order a ∙ i in
    card_step es at (lines ++ after) c (order_front (es ++ e ∷ []) fs j)
    ∙ read_on s (es ++ e ∷ []) (at + (length line + 1)) after j
    ∙ ap₂ (λ l k. read_lines l k after) a n

-- ---- a line more

-- behind the entries es a line shows none or the next, or reading stops at it
data Next (es : List Entry) (line : List ℕ) : Type 0 where
  goes : (gs : List Entry) → Shown (line ∷ []) gs → in_order (es ++ gs) ≡ true → Next es line
  stops : ((at : ℕ) (lines : List (List ℕ)) → read_lines es at (line ∷ lines) ≡ refused_at CARD at) → Next es line

next : (es : List Entry) (line : List ℕ) → in_order es ≡ true → Next es line
unfolding read_lines
next es line i = by_test (passed_over line) (λ p. goes [] (passed p end) (ap in_order (append-nil es) ∙ i)) (λ p. go p (card_in line) refl)
  where
    go : passed_over line ≡ false → (f : Found) → card_in line ≡ f → Next es line
    go p no_card q = stops (λ at lines. rw (p, q))
    go p (a_card m negative n) q =
        by_test (in_order (es ++ (m, signed negative n) ∷ []))
        (λ j. goes ((m, signed negative n) ∷ []) (card (card_is line m negative n q) end) j)
        (λ j. stops (λ at lines. rw (p, q, j)))

-- ---- all lines

data Reading (es : List Entry) (lines : List (List ℕ)) : Type 0 where
  whole : (fs : List Entry) → Shown lines fs → in_order (es ++ fs) ≡ true → Reading es lines
  stopped : (before : List (List ℕ)) (line : List ℕ) (after : List (List ℕ)) (fs : List Entry) → lines ≡ before ++ (line ∷ after) → Shown before fs → in_order (es ++ fs) ≡ true
      → ((at : ℕ) (rest : List (List ℕ)) → read_lines (es ++ fs) at (line ∷ rest) ≡ refused_at CARD at) → Reading es lines

-- with a line in front
fronted : (es gs : List Entry) {line : List ℕ} {lines : List (List ℕ)} → Shown (line ∷ []) gs → Reading (es ++ gs) lines → Reading es (line ∷ lines)
fronted es gs s (whole fs t i) = whole (gs ++ fs) (shown_append s t) (rw append_assoc at i)
fronted es gs {line} s (stopped before l after fs q t i h) = stopped (line ∷ before) l after (gs ++ fs) (ap (◌∷◌ line) q) (shown_append s t) (rw append_assoc at i) (λ at rest. rw append_assoc at (h at rest))

reading : (es : List Entry) (lines : List (List ℕ)) → in_order es ≡ true → Reading es lines
reading es [] i = whole [] end (ap in_order (append-nil es) ∙ i)
reading es (line ∷ lines) i = go (next es line i) (λ gs j. reading (es ++ gs) lines j)
  where
    go : Next es line → ((gs : List Entry) → in_order (es ++ gs) ≡ true → Reading (es ++ gs) lines) → Reading es (line ∷ lines)
    go (goes gs s j) more = fronted es gs s (more gs j)
    go (stops h) more = stopped [] line lines [] refl end (ap in_order (append-nil es) ∙ i) (λ at rest. rw append-nil (h at rest))

-- ---- what reading answers

lines_read : {lines : List (List ℕ)} {es : List Entry} → Tell lines es → read_lines [] 0 lines ≡ judged (table_of es)
unfolding read_lines
lines_read {lines} t =
    let h = standing t in
    ap (read_lines [] 0) (sym (append-nil lines)) ∙ read_on h.stand [] 0 [] h.order ∙ ap (λ l. judged (table_of l)) h.oldest

pub tell_read : (s : List ℕ) {es : List Entry} → Tell (lines_of s) es → read_cards s ≡ judged (table_of es)
unfolding read_cards
tell_read s t = lines_read t

-- a table is not refused as a card
not_judged : (t : Table) (p : ℕ) → judged t ≡ refused_at CARD p → ⊥
not_judged t p = pick (λ r. r ≡ refused_at CARD p → ⊥) (accepted t) (λ a e. let n = ap (λ r. (table_results r).0) e in omega arith) (λ a e. let n = ap (λ r. (table_results r).0) e in omega arith)

pub bad_read : (s : List ℕ) (p : ℕ) → FirstBad s p → read_cards s ≡ refused_at CARD p
unfolding read_cards
bad_read s p f = go (next h.fs f.line h.order)
  where
    h : Standing f.before f.goes_on.0
    h = standing f.goes_on.1

    go : Next h.fs f.line → read_lines [] 0 (lines_of s) ≡ refused_at CARD p
    go (goes gs t j) = absurd (f.no_more [] (oldest_first (h.fs ++ gs), told (shown_append h.stand t) j))
    go (stops k) =
        let n : 0 + place_behind f.before ≡ p = omega (arith, f.place) in
        ap (read_lines [] 0) f.split ∙ read_on h.stand [] 0 (f.line ∷ f.after) h.order ∙ k (0 + place_behind f.before) f.after ∙ ap (refused_at CARD) n

-- ---- each file is one of three

pub data Answered (s : List ℕ) : Type 0 where
  as_table : (es : List Entry) → Tell (lines_of s) es → accepted (table_of es) ≡ true → Answered s
  as_untabled : (es : List Entry) → Tell (lines_of s) es → accepted (table_of es) ≡ false → Answered s
  as_bad : (p : ℕ) → FirstBad s p → Answered s

pub answered : (s : List ℕ) → Answered s
unfolding rises
answered s = go (reading [] (lines_of s) refl)
  where
    go : Reading [] (lines_of s) → Answered s
    go (whole fs t i) = by_test (accepted (table_of (oldest_first fs))) (as_table (oldest_first fs) (told t i)) (as_untabled (oldest_first fs) (told t i))
    go (stopped before line after fs q t i h) = as_bad (place_behind before) (record {
      before = before;
      line = line;
      after = after;
      split = q;
      place = refl;
      goes_on = (oldest_first fs, told t i);
      no_more = λ rest m. not_judged (table_of m.0) (0 + place_behind before) (sym (lines_read m.1) ∙ read_on t [] 0 (line ∷ rest) i ∙ h (0 + place_behind before) rest);
    })
