-- What the automaton takes for good is a kernel by the grammar, with the pairs that it has noted.
-- It is shown backwards: what is left to read from each mode, and one law a mode that puts a byte in front of it.
-- Assumes nothing.
use Prim.Native.Nat.{ℕ, ◌+◌, ◌≤◌, ◌<◌}
use mathlib.Core.Path.{◌≡◌, refl, sym, ap, subst, ◌∙◌}
use mathlib.Core.Logic.{◌⊎◌, inl, inr}
use mathlib.Core.Bool.{Bool, true, false, cond, not, ◌&&◌, ◌||◌}
use mathlib.Core.List.{List, [], ◌∷◌, ◌++◌, append_assoc, append-nil}
use native.Mathlib.Omega.{arith}
use native.Mathlib.Numerals.{add-one}
use borrow.Author.Tests.{ltb-true, ltb-false, lt-ltb, eqb-true}
use lib.Dec.{ltb, eqb, lit≤}
use lib.ListN.{length, get_or, drop, length-append}
use lib.Seq.{drop-cons}
use Rattle.laws.proofs.Cases.{both, join}
use Rattle.digits.specs.Decimals.{is_digit, spelled, signed}
use Rattle.leap.specs.Entries.{Entry}
use Rattle.automaton.specs.declared.Mode.{Mode}
use Rattle.automaton.specs.declared.Mode.TheVariants.{Rest, Inside, Name, Ours, Pair, Date, Done, Dead}
use Rattle.automaton.specs.declared.Resting.TheVariants.{Text, Fresh, Gap, Closed, Run, Quoted}
use Rattle.automaton.specs.declared.Within.TheVariants.{Close, Other, Plus, Value, Quote, Open, Items, ItemRun, ItemQuote, ItemQuoted}
use Rattle.automaton.specs.declared.Pairing.TheVariants.{Named, OurValue, First, Pairs}
use Rattle.automaton.specs.declared.Counting.TheVariants.{Sign, Digits, ToDate}
use Rattle.automaton.specs.declared.Dating.TheVariants.{Year, Month, Day}
use Rattle.kinds.specs.Kinds.{is_white, is_gap, is_between, is_run, is_name, upper, begin_data, begin_text, ours}
use Rattle.kinds.specs.Parts.{matched, grown, years_begin, grown_year, month_on}
use Rattle.automaton.specs.Step.{in_text, in_gap, in_other, in_named, in_sign, behind_item, to_item, to_pair, step}
use Rattle.automaton.specs.Run.{noted, may_end, run, scan}
use Rattle.grammar.specs.Grammar as G
use Rattle.grammar.specs.Grammar.{every, Row, Some, some, One, Is, ◌▸◌, Another, Operator, equals, plus_equals, is_plain, Item, Whole, Stops, text, data_on, not_feed, BeginsData, File}
use Rattle.grammar.proofs.Good.{Good}
use Rattle.leap.proofs.Kept.{Kept}
use Rattle.grammar.proofs.Parts.{skip, lead, into, into_at, fold, put, mark, row_more, some_more, row_none}
use Rattle.grammar.proofs.Lines.{behind_line, every_more, feed, mode_append, begins, or_not}
use Rattle.grammar.proofs.Names.{never, NameAt, first_byte, name_next, not_ours, is_ours}
use Rattle.grammar.proofs.Dates.{DateInYear, DateInMonth, DayLeft, whole_date, year_digit, year_dash, month_letter, month_dash, one_left, behind_zero}
use Rattle.grammar.proofs.Told.{Told, kept_of, to_entry, told, kept_from, told_kept, from_nought}

-- ---- what is left to read, place by place

abbrev Dat : Bool → List Entry → List ℕ → Type 0
Dat f es = File (data_on f) es

-- behind our assignment
abbrev End : List ℕ → Type 0
End = Dat false []

abbrev Closing : List ℕ → Type 0
Closing = Row is_between ▸ Is (41 ∷ [])

record Stopped (es : List Entry) (s : List ℕ) : Type 0 where
  stops : Stops s
  dat : Dat false es s

abbrev ToValue : (List ℕ → Type 0) → List ℕ → Type 0
ToValue P = Row is_gap ▸ P

abbrev ToEquals : (List ℕ → Type 0) → List ℕ → Type 0
ToEquals P = Is (61 ∷ []) ▸ (Row is_gap ▸ P)

abbrev ToOperator : (List ℕ → Type 0) → List ℕ → Type 0
ToOperator P = Row is_gap ▸ (Operator ▸ (Row is_gap ▸ P))

-- a value that is a run, or that shows its end
abbrev Two : ((List ℕ → Type 0) → List ℕ → Type 0) → List Entry → List ℕ → Type 0
Two F es s = F (Some is_run ▸ Stopped es) s ⊎ F (G.Closed ▸ Dat false es) s

-- right behind an item, and where another may begin
abbrev Tail : List Entry → List ℕ → Type 0
Tail es s = (Closing ▸ Dat false es) s ⊎ (One is_between ▸ (G.Items ▸ Dat false es)) s

abbrev Again : List Entry → List ℕ → Type 0
Again es s = (Closing ▸ Dat false es) s ⊎ (G.Items ▸ Dat false es) s

-- the same for pairs
data PairTail : List Told → List ℕ → Type 0 where
  p_closes : {s : List ℕ} → (Closing ▸ End) s → PairTail [] s
  p_parts : {ps : List Told} {s : List ℕ} → (One is_between ▸ (G.Pairs (told ps) ▸ End)) s → PairTail ps s

data PairAgain : List Told → List ℕ → Type 0 where
  p_closes : {s : List ℕ} → (Closing ▸ End) s → PairAgain [] s
  p_goes : {ps : List Told} {s : List ℕ} → (G.Pairs (told ps) ▸ End) s → PairAgain ps s

-- in a pair
data InPair (minus : Bool) (A : List ℕ → ℕ → List ℕ → Type 0) : List Told → List ℕ → Type 0 where
  in_pair : {ds : List ℕ} {month : ℕ} {ps : List Told} {s : List ℕ} → (A ds month ▸ PairTail ps) s → InPair minus A (record { minus = minus; digits = ds; month = month } ∷ ps) s

record SomeDigits (ds x : List ℕ) : Type 0 where
  some_digits : Some is_digit x
  are : x ≡ ds

record MoreDigits (ds x : List ℕ) : Type 0 where
  row : Row is_digit x
  are : x ≡ ds

abbrev InSign : List ℕ → ℕ → List ℕ → Type 0
InSign ds month = SomeDigits ds ▸ (Some is_between ▸ G.Date month)

abbrev InNumber : List ℕ → ℕ → List ℕ → Type 0
InNumber ds month = MoreDigits ds ▸ (Some is_between ▸ G.Date month)

record InToDate (ds : List ℕ) (month : ℕ) (x : List ℕ) : Type 0 where
  none : ds ≡ []
  date : (Row is_between ▸ G.Date month) x

record InYear (k year : ℕ) (ds : List ℕ) (month : ℕ) (x : List ℕ) : Type 0 where
  none : ds ≡ []
  date : k ≤ 4 → (k ≡ 4 → 1972 ≤ year) → DateInYear k year month x

record InMonth (year k from : ℕ) (ds : List ℕ) (month : ℕ) (x : List ℕ) : Type 0 where
  none : ds ≡ []
  date : k ≤ 3 → DateInMonth year k from month x

record InDay (known : ℕ) (nought : Bool) (ds : List ℕ) (month : ℕ) (x : List ℕ) : Type 0 where
  none : ds ≡ []
  is_month : month ≡ known
  day : DayLeft nought x

-- behind `\begintext` and white
data Feeds : List Entry → List ℕ → Type 0 where
  f_end : Feeds [] []
  f_line : {b : ℕ} {es : List Entry} {s : List ℕ} → eqb b 10 ≡ true → File text es s → Feeds es (b ∷ s)

abbrev Left : Mode → List Entry → List ℕ → List Told → Type 0
Left (Rest (Text k)) t s ps = (l : List ℕ) → Row not_feed l → ((u : List Entry) (at : ℕ) → (run (Rest (Text 0)) u at l).mode ≡ Rest (Text k)) → File text (told ps) (l ++ s)
Left (Rest Fresh) t s ps = Dat true (told ps) s
Left (Rest Gap) t s ps = Dat false (told ps) s
Left (Rest Closed) t s ps = (Row is_white ▸ Feeds (told ps)) s
Left (Inside (Close k)) t s ps = k ≤ 10 → (Is (drop k begin_text) ▸ (Row is_white ▸ Feeds (told ps))) s
Left (Name k start) t s ps = (f : Bool) (n : List ℕ) → Some is_name n → NameAt n k → Dat f (told ps) (n ++ s)
Left (Inside Other) t s ps = Two ToOperator (told ps) s
Left (Ours Named) t s ps = (Row is_gap ▸ (Is (61 ∷ []) ▸ (Row is_gap ▸ (Is (40 ∷ []) ▸ (G.Pairs (told ps) ▸ End))))) s
Left (Inside Plus) t s ps = Two ToEquals (told ps) s
Left (Inside Value) t s ps = Two ToValue (told ps) s
Left (Rest Run) t s ps = (Row is_run ▸ Stopped (told ps)) s
Left (Inside Quote) t s ps = (G.Quoted ▸ Dat false (told ps)) s
Left (Rest Quoted) t s ps = (G.Quoted ▸ Dat false (told ps)) (39 ∷ s)
Left (Inside Open) t s ps = (G.Items ▸ Dat false (told ps)) s
Left (Inside Items) t s ps = Again (told ps) s
Left (Inside ItemRun) t s ps = (Row is_run ▸ Tail (told ps)) s
Left (Inside ItemQuote) t s ps = (G.Quoted ▸ Tail (told ps)) s
Left (Inside ItemQuoted) t s ps = (G.Quoted ▸ Tail (told ps)) (39 ∷ s)
Left (Ours OurValue) t s ps = (Row is_gap ▸ (Is (40 ∷ []) ▸ (G.Pairs (told ps) ▸ End))) s
Left (Ours First) t s ps = (G.Pairs (told ps) ▸ End) s
Left (Ours Pairs) t s ps = 0 < length t → PairAgain ps s
Left (Pair minus n Sign) t s ps = InPair minus InSign ps s
Left (Pair minus n Digits) t s ps = InPair minus InNumber ps s
Left (Pair minus n ToDate) t s ps = InPair minus InToDate ps s
Left (Date start minus n (Year k year)) t s ps = InPair minus (InYear k year) ps s
Left (Date start minus n (Month year k p)) t s ps = InPair minus (InMonth year k p) ps s
Left (Date start minus n (Day month nought)) t s ps = InPair minus (InDay month nought) ps s
Left (Done start minus n month) t s ps = 0 < length t → PairTail ps s
Left (Dead place) t s ps = ⊥

-- outside our assignment: where it stood, it does not stand again
abbrev Once : Mode → List Entry → List Told → Type 0
Once (Rest r) t ps = 0 < length t → ps ≡ []
Once (Inside w) t ps = 0 < length t → ps ≡ []
Once (Name k start) t ps = 0 < length t → ps ≡ []
Once (Ours o) t ps = Unit {0}
Once (Pair minus n c) t ps = Unit {0}
Once (Date start minus n d) t ps = Unit {0}
Once (Done start minus n month) t ps = Unit {0}
Once (Dead place) t ps = Unit {0}

-- what is read of a number so far
abbrev read_of : Mode → ℕ
read_of (Rest r) = 0
read_of (Inside w) = 0
read_of (Name k start) = 0
read_of (Ours o) = 0
read_of (Pair minus n c) = n
read_of (Date start minus n d) = n
read_of (Done start minus n month) = 0
read_of (Dead place) = 0

-- what is left holds pairs, and with what is kept of them the pairs so far become r; n is read of the first one's number
record Stays (n : ℕ) (X O : List Told → Type 0) (t r : List Entry) : Type 0 where
  pairs : List Told
  left : X pairs
  once : O pairs
  is : r ≡ t ++ kept_from n pairs

abbrev Stood : Mode → List Entry → List Entry → List ℕ → Type 0
Stood m t r s = Stays (read_of m) (Left m t s) (Once m t) t r

record After (t r : List Entry) (s : List ℕ) (m : Mode) : Type 0 where
  stood : Stood m (noted m t) r s

keep : {n : ℕ} {X Y O : List Told → Type 0} {t r : List Entry} → ((ps : List Told) → X ps → Y ps) → Stays n X O t r → Stays n Y O t r
keep f q = record { pairs = q.pairs; left = f q.pairs q.left; once = q.once; is = q.is }

module _ {t r : List Entry} {s : List ℕ} {R : Type 0} where
  out : (x : Bool) {m n : Mode} → (x ≡ true → After t r s m → R) → (x ≡ false → After t r s n → R) → After t r s (cond x m n) → R
  out true f g q = f refl q
  out false f g q = g refl q

  gone : {p : ℕ} → After t r s (Dead p) → R
  gone q = absurd q.stood.left

-- ---- items

items_more : (b : ℕ) → is_between b ≡ true → (x : List ℕ) → G.Items x → G.Items (b ∷ x)
items_more b e x (G.Items.last p) = G.Items.last (row_more is_between e p)
items_more b e x (G.Items.more p i) = G.Items.more (row_more is_between e p) i

item_on : {es : List Entry} {s : List ℕ} → (Item ▸ Tail es) s → (G.Items ▸ Dat false es) s
item_on {es} {s} p = go p.is_rest
  where
    go : Tail es p.rest → (G.Items ▸ Dat false es) s
    go (inl c) =
        let q : (Item ▸ (Closing ▸ Dat false es)) s = record { first = p.first; rest = p.rest; is_first = p.is_first; is_rest = c; split = p.split } in
        lead (λ x i. G.Items.last (skip (row_none is_between) i)) (fold (λ x c. c) q)
    go (inr c) =
        let q : (Item ▸ (One is_between ▸ (G.Items ▸ Dat false es))) s = record { first = p.first; rest = p.rest; is_first = p.is_first; is_rest = c; split = p.split } in
        lead (λ x i. subst G.Items (sym i.split) (G.Items.more (skip (row_none is_between) i.is_first) i.is_rest)) (fold (λ x c. c) (fold (λ x c. c) q))

run_item : {es : List Entry} {s : List ℕ} (b : ℕ) → is_run b ≡ true → (Row is_run ▸ Tail es) s → (G.Items ▸ Dat false es) (b ∷ s)
run_item b e p = item_on (into b (λ x h. Item.a_run (some e h)) p)

text_item : {es : List Entry} {s : List ℕ} (b : ℕ) → eqb b 39 ≡ true → (G.Quoted ▸ Tail es) s → (G.Items ▸ Dat false es) (b ∷ s)
text_item b e p = item_on (into_at b 39 e (λ x h. Item.a_text h) p)

plain_byte : (b : ℕ) → eqb b 39 ≡ false → (eqb b 10 || eqb b 92) ≡ false → is_plain b ≡ true
plain_byte b e f = rw (e, f)

closing : {P : List ℕ → Type 0} {s : List ℕ} (b : ℕ) → eqb b 41 ≡ true → P s → (Closing ▸ P) (b ∷ s)
closing {P} {s} b e d = record { first = 41 ∷ []; rest = s; is_first = skip (row_none is_between) refl; is_rest = d; split = ap (λ x. x ∷ s) (eqb-true b 41 e) }

-- ---- the outside of our assignment, step by step

abbrev Next : List Entry → List Entry → ℕ → List ℕ → (List ℕ → List Told → Type 0) → Type 0
Next t r b s X = Stays 0 (X (b ∷ s)) (λ ps. 0 < length t → ps ≡ []) t r

two_map : (F H : (List ℕ → Type 0) → List ℕ → Type 0) {es : List Entry} {w z : List ℕ} → ((P : List ℕ → Type 0) → F P w → H P z) → Two F es w → Two H es z
two_map F H f (inl p) = inl (f _ p)
two_map F H f (inr p) = inr (f _ p)

double : {P : List ℕ → Type 0} {s : List ℕ} (b : ℕ) → eqb b 39 ≡ true → (G.Quoted ▸ P) s → (G.Quoted ▸ P) (39 ∷ b ∷ s)
double b e p = rw (eqb-true b 39 e) (record { first = 39 ∷ 39 ∷ p.first; rest = p.rest; is_first = G.Quoted.doubled p.is_first; is_rest = p.is_rest; split = ap (λ l. 39 ∷ 39 ∷ l) p.split })

close : {P : List ℕ → Type 0} {s : List ℕ} → P s → (G.Quoted ▸ P) (39 ∷ s)
close {s = s} d = record { first = 39 ∷ []; rest = s; is_first = G.Quoted.closes; is_rest = d; split = refl }

module _ {t r : List Entry} {s : List ℕ} (b at : ℕ) where
  -- behind an assignment
  from_gap : After t r s (in_gap at b) → Next t r b s (λ s ps. Dat false (told ps) s)
  from_gap = out (is_white b) (λ e q. keep (λ ps d. File.white e d) q.stood)
      (λ _. out (eqb b 10) (λ e q. keep (λ ps d. rw (eqb-true b 10 e) (File.line_ends d)) q.stood)
      (λ _. out (is_name b) (λ e q. keep (λ ps d. d false (b ∷ []) (some e (row_none is_name)) (first_byte b)) q.stood) (λ _. gone)))

  behind_item_lem : After t r s (behind_item at b) → Next t r b s (λ s ps. Tail (told ps) s)
  behind_item_lem = out (is_between b) (λ e q. keep (λ ps d. parted e d) q.stood)
      (λ _. out (eqb b 41) (λ e q. keep (λ ps d. inl (closing b e d)) q.stood) (λ _. gone))
    where
      parted : {es : List Entry} {s : List ℕ} → is_between b ≡ true → Again es s → Tail es (b ∷ s)
      parted e (inl c) = inl (into b (λ x h. row_more is_between e h) c)
      parted e (inr c) = inr (mark is_between e c)

  -- behind another's name
  from_other : After t r s (in_other at b) → Next t r b s (λ s ps. Two ToOperator (told ps) s)
  from_other = out (is_gap b) (λ e q. keep (λ ps. two_map ToOperator ToOperator (λ P. row_more is_gap e)) q.stood)
      (λ _. out (eqb b 43) (λ e q. keep (λ ps. two_map ToEquals ToOperator (λ P p. skip (row_none is_gap) (into_at b 43 e (λ x h. rw h plus_equals) p))) q.stood)
      (λ _. out (eqb b 61) (λ e q. keep (λ ps. two_map ToValue ToOperator (λ P p. skip (row_none is_gap) (lead (λ x h. rw h equals) (put b 61 e p)))) q.stood) (λ _. gone)))

  from_plus : After t r s (cond (eqb b 61) (Inside Value) (Dead at)) → Next t r b s (λ s ps. Two ToEquals (told ps) s)
  from_plus = out (eqb b 61) (λ e q. keep (λ ps. two_map ToValue ToEquals (λ P p. put b 61 e p)) q.stood) (λ _. gone)

  from_value : After t r s (step false at (Inside Value) b) → Next t r b s (λ s ps. Two ToValue (told ps) s)
  unfolding step
  from_value = out (is_gap b) (λ e q. keep (λ ps. two_map ToValue ToValue (λ P. row_more is_gap e)) q.stood)
      (λ _. out (eqb b 40) (λ e q. keep (λ ps p. inr (skip (row_none is_gap) (into_at b 40 e (λ x i. G.Closed.items i) p))) q.stood)
      (λ _. out (eqb b 39) (λ e q. keep (λ ps p. inr (skip (row_none is_gap) (into_at b 39 e (λ x i. G.Closed.a_text i) p))) q.stood)
      (λ _. out (is_run b) (λ e q. keep (λ ps p. inl (skip (row_none is_gap) (some_more is_run e p))) q.stood) (λ _. gone))))

  from_run : After t r s (step false at (Rest Run) b) → Next t r b s (λ s ps. (Row is_run ▸ Stopped (told ps)) s)
  unfolding step
  from_run = out (is_run b) (λ e q. keep (λ ps. row_more is_run e) q.stood)
      (λ n. out (is_white b) (λ e q. keep (λ ps d. skip (row_none is_run) (record { stops = n; dat = File.white e d })) q.stood)
      (λ _. out (eqb b 10) (λ e q. keep (λ ps d. skip (row_none is_run) (record { stops = n; dat = rw (eqb-true b 10 e) (File.line_ends d) })) q.stood) (λ _. gone)))

  from_quote : After t r s (step false at (Inside Quote) b) → Next t r b s (λ s ps. (G.Quoted ▸ Dat false (told ps)) s)
  unfolding step
  from_quote = out (eqb b 39) (λ e q. keep (λ ps p. rw (eqb-true b 39 e) p) q.stood)
      (λ n. out (eqb b 10 || eqb b 92) (λ _. gone) (λ m q. keep (λ ps. into b (λ x h. G.Quoted.plain (plain_byte b n m) h)) q.stood))

  from_item_quote : After t r s (step false at (Inside ItemQuote) b) → Next t r b s (λ s ps. (G.Quoted ▸ Tail (told ps)) s)
  unfolding step
  from_item_quote = out (eqb b 39) (λ e q. keep (λ ps p. rw (eqb-true b 39 e) p) q.stood)
      (λ n. out (eqb b 10 || eqb b 92) (λ _. gone) (λ m q. keep (λ ps. into b (λ x h. G.Quoted.plain (plain_byte b n m) h)) q.stood))

  from_quoted : After t r s (step false at (Rest Quoted) b) → Next t r b s (λ s ps. (G.Quoted ▸ Dat false (told ps)) (39 ∷ s))
  unfolding step
  from_quoted = out (eqb b 39) (λ e q. keep (λ ps. double b e) q.stood) (λ _ q. keep (λ ps. close) (from_gap q))

  from_item_quoted : After t r s (step false at (Inside ItemQuoted) b) → Next t r b s (λ s ps. (G.Quoted ▸ Tail (told ps)) (39 ∷ s))
  unfolding step
  from_item_quoted = out (eqb b 39) (λ e q. keep (λ ps. double b e) q.stood) (λ _ q. keep (λ ps. close) (behind_item_lem q))

  from_item_run : After t r s (step false at (Inside ItemRun) b) → Next t r b s (λ s ps. (Row is_run ▸ Tail (told ps)) s)
  unfolding step
  from_item_run = out (is_run b) (λ e q. keep (λ ps. row_more is_run e) q.stood) (λ _ q. keep (λ ps. skip (row_none is_run)) (behind_item_lem q))

  from_item : After t r s (to_item at b) → Next t r b s (λ s ps. (G.Items ▸ Dat false (told ps)) s)
  from_item = out (eqb b 39) (λ e q. keep (λ ps. text_item b e) q.stood) (λ _. out (is_run b) (λ e q. keep (λ ps. run_item b e) q.stood) (λ _. gone))

  from_open : After t r s (step false at (Inside Open) b) → Next t r b s (λ s ps. (G.Items ▸ Dat false (told ps)) s)
  unfolding step
  from_open = out (is_between b) (λ e q. keep (λ ps. into b (items_more b e)) q.stood) (λ _. from_item)

  from_items : After t r s (step false at (Inside Items) b) → Next t r b s (λ s ps. Again (told ps) s)
  unfolding step
  from_items = out (is_between b) (λ e q. keep (λ ps. parted e) q.stood)
      (λ _. out (eqb b 41) (λ e q. keep (λ ps d. inl (closing b e d)) q.stood) (λ _ q. keep (λ ps. inr) (from_item q)))
    where
      parted : {es : List Entry} {s : List ℕ} → is_between b ≡ true → Again es s → Again es (b ∷ s)
      parted e (inl c) = inl (into b (λ x h. row_more is_between e h) c)
      parted e (inr c) = inr (into b (items_more b e) c)

-- ---- lines

end_text : {es : List Entry} {l w s : List ℕ} → (Is begin_text ▸ Row is_white) l → Feeds es w → s ≡ l ++ w → Dat true es s
end_text {l = l} p f_end e = subst (Dat true []) (sym (e ∙ append-nil l)) (File.text_begins_last p)
end_text {l = l} p (f_line {b} {es} {s} h f) e = subst (Dat true es) (sym (e ∙ ap (λ x. l ++ x ∷ s) (eqb-true b 10 h))) (File.text_begins p f)

begin_text_lem : {es : List Entry} {s : List ℕ} (b : ℕ) → eqb b 92 ≡ true → (Is (drop 1 begin_text) ▸ (Row is_white ▸ Feeds es)) s → Dat true es (b ∷ s)
begin_text_lem b e p =
    let q = fold (λ x c. c) (into_at {A' = Is begin_text} b 92 e (λ x h. ap (λ l. 92 ∷ l) h) p) in
    end_text q.is_first q.is_rest q.split

-- k bytes of `\begintext`
close_next : {B : List ℕ → Type 0} {s : List ℕ} (k b : ℕ) → k < 10 → get_or begin_text k 0 ≡ b → (Is (drop (k + 1) begin_text) ▸ B) s → (Is (drop k begin_text) ▸ B) (b ∷ s)
close_next k b h e p = into b (λ x d. ap (λ l. b ∷ l) d ∙ sym (drop-cons begin_text k 0 h ∙ ap (λ n. get_or begin_text k 0 ∷ drop n begin_text) (sym (add-one k)) ∙ ap (λ c. c ∷ drop (k + 1) begin_text) e)) p

text_one : (k b to : ℕ) (l : List ℕ) → in_text k b ≡ Rest (Text to) → ((u : List Entry) (at : ℕ) → (run (Rest (Text 0)) u at l).mode ≡ Rest (Text k)) → (u : List Entry) (at : ℕ) → (run (Rest (Text 0)) u at (l ++ b ∷ [])).mode ≡ Rest (Text to)
unfolding run step
text_one k b to l e h u at = mode_append (Rest (Text 0)) u at l (b ∷ []) (h u at) ∙ e

module _ {t r : List Entry} {s : List ℕ} (b at : ℕ) where
  from_fresh : After t r s (step false at (Rest Fresh) b) → Next t r b s (λ s ps. Dat true (told ps) s)
  unfolding step
  from_fresh = out (eqb b 92) (λ e q. keep (λ ps p. begin_text_lem b e (p (lit≤ tt))) q.stood)
      (λ _. out (is_white b) (λ e q. keep (λ ps d. File.white e d) q.stood)
      (λ n. out (is_white b) (λ e. never e n)
      (λ _. out (eqb b 10) (λ e q. keep (λ ps d. rw (eqb-true b 10 e) (File.line_ends d)) q.stood)
      (λ _. out (is_name b) (λ e q. keep (λ ps d. d true (b ∷ []) (some e (row_none is_name)) (first_byte b)) q.stood) (λ _. gone)))))

  from_closed : After t r s (step false at (Rest Closed) b) → Next t r b s (λ s ps. (Row is_white ▸ Feeds (told ps)) s)
  unfolding step run
  from_closed =
      out (eqb b 10) (λ e q. keep (λ ps d. skip (row_none is_white) (f_line e (d [] (row_none not_feed) (λ u at. refl)))) q.stood)
      (λ _. out (is_white b) (λ e q. keep (λ ps d. row_more is_white e d) q.stood) (λ _. gone))

  from_close : (k : ℕ) → After t r s (step false at (Inside (Close k)) b) → Next t r b s (λ s ps. k ≤ 10 → (Is (drop k begin_text) ▸ (Row is_white ▸ Feeds (told ps))) s)
  unfolding step matched
  from_close k = on (ltb k 10 && eqb (get_or begin_text k 0) b) refl
    where
      on : (x : Bool) → (ltb k 10 && eqb (get_or begin_text k 0) b) ≡ x → After t r s (cond (eqb (cond x (k + 1) 16) 16) (Dead at) (cond (eqb (cond x (k + 1) 16) 10) (Rest Closed) (Inside (Close (cond x (k + 1) 16))))) → Next t r b s (λ s ps. k ≤ 10 → (Is (drop k begin_text) ▸ (Row is_white ▸ Feeds (told ps))) s)
      on true e =
          let v = both (ltb k 10) (eqb (get_or begin_text k 0) b) e in
          let h = ltb-true k 10 v.0 in
          let g = eqb-true (get_or begin_text k 0) b v.1 in
          out (eqb (k + 1) 16) (λ _. gone)
          (λ _. out (eqb (k + 1) 10) (λ z q. keep (λ ps d _. close_next k b h g (skip (sym (ap (λ n. drop n begin_text) (eqb-true (k + 1) 10 z))) d)) q.stood)
          (λ _ q. keep (λ ps d _. close_next k b h g (d (omega arith))) q.stood))
      on false e = gone

  from_text : (k : ℕ) → After t r s (step false at (Rest (Text k)) b) → Next t r b s (λ s ps. (l : List ℕ) → Row not_feed l → ((u : List Entry) (at : ℕ) → (run (Rest (Text 0)) u at l).mode ≡ Rest (Text k)) → File text (told ps) (l ++ s))
  unfolding step run
  from_text k = out (eqb b 10)
      (λ e. out (eqb k 10)
      (λ y q. keep (λ ps d l h f. rw (eqb-true b 10 e) (File.data_begins (word l h (feed [] 0 l k (f [] 0) ∙ ap (λ x. cond x (Rest Fresh) (Rest (Text 0))) y)) d)) q.stood)
      (λ y q. keep (λ ps d l h f. rw (eqb-true b 10 e) (File.text_goes_on h (no_word l (feed [] 0 l k (f [] 0) ∙ ap (λ x. cond x (Rest Fresh) (Rest (Text 0))) y)) (d [] (row_none not_feed) (λ u at. refl)))) q.stood))
      (λ n. out (is_white b)
      (λ w. out (eqb k 0 || eqb k 10) (λ y q. keep (λ ps d. longer ps k n (rw (n, w, y)) d) q.stood) (λ y q. keep (λ ps d. longer ps 16 n (rw (n, w, y)) d) q.stood))
      (λ w q. keep (λ ps d. longer ps (matched begin_data k b) n (rw (n, w)) d) q.stood))
    where
      differ : {A : Type 0} {m : Mode} → m ≡ (Rest Fresh) → m ≡ Rest (Text 0) → A
      differ e f = let z : ◌≡◌ {A = ℕ} 0 1 = cc in absurd (omega arith)

      is_word : (l : List ℕ) → behind_line [] 0 l ≡ (Rest Fresh) → ((behind_line [] 0 l ≡ (Rest Fresh)) × BeginsData l) ⊎ (behind_line [] 0 l ≡ Rest (Text 0)) → BeginsData l
      is_word l e (inl p) = p.1
      is_word l e (inr p) = differ e p

      word : (l : List ℕ) → Row not_feed l → behind_line [] 0 l ≡ (Rest Fresh) → BeginsData l
      word l h e = is_word l e (or_not [] 0 l h)

      no_word : (l : List ℕ) → behind_line [] 0 l ≡ Rest (Text 0) → BeginsData l → ⊥
      no_word l e o = differ (begins [] 0 l o) e

      longer : (ps : List Told) (to : ℕ) → eqb b 10 ≡ false → in_text k b ≡ Rest (Text to) → Left (Rest (Text to)) t s ps → Left (Rest (Text k)) t (b ∷ s) ps
      longer ps to n e d l h f = subst (File text (told ps)) (append_assoc l (b ∷ []) s) (d (l ++ b ∷ []) (every_more not_feed l b h (ap not n)) (text_one k b to l e f))

-- ---- names

some_next : {f : ℕ → Bool} {n : List ℕ} (b : ℕ) → f b ≡ true → Some f n → Some f (n ++ b ∷ [])
some_next {f} b e (some {x = x} h g) = some h (every_more f x b g e)

behind_other : {f : Bool} {es : List Entry} {n s : List ℕ} → Another n → Two ToOperator es s → Dat f es (n ++ s)
behind_other {f} {es} {n} {s} a (inl p) =
    let q : (Another ▸ ToOperator (Some is_run ▸ Stopped es)) (n ++ s) = record { first = n; rest = s; is_first = a; is_rest = p; split = refl } in
    let w = fold (λ x. fold (λ x. fold (λ x. fold (λ x c. c)))) q in
    subst (Dat f es) (sym w.split) (File.a_run w.is_first w.is_rest.stops w.is_rest.dat)
behind_other {f} {es} {n} {s} a (inr p) =
    let q : (Another ▸ ToOperator (G.Closed ▸ Dat false es)) (n ++ s) = record { first = n; rest = s; is_first = a; is_rest = p; split = refl } in
    let w = fold (λ x. fold (λ x. fold (λ x. fold (λ x c. c)))) q in
    subst (Dat f es) (sym w.split) (File.a_value w.is_first w.is_rest)

abbrev ToOurs : List Entry → List ℕ → Type 0
ToOurs es = Row is_gap ▸ (Is (61 ∷ []) ▸ (Row is_gap ▸ (Is (40 ∷ []) ▸ (G.Pairs es ▸ End))))

behind_ours : {f : Bool} {es : List Entry} {n s : List ℕ} → n ≡ ours → ToOurs es s → Dat f es (n ++ s)
behind_ours {f} {es} {n} {s} a p =
    let q : (Is ours ▸ ToOurs es) (n ++ s) = record { first = n; rest = s; is_first = a; is_rest = p; split = refl } in
    let w = fold (λ x. fold (λ x. fold (λ x. fold (λ x. fold (λ x c. c))))) q in
    subst (Dat f es) (sym w.split) (File.our_pairs w.is_first w.is_rest)

-- ---- our assignment

abbrev None : List Told → Type 0
None ps = Unit {0}

carry : {n : ℕ} {X Y O O' : List Told → Type 0} {t r : List Entry} → ((ps : List Told) → O ps → X ps → Y ps) → ((ps : List Told) → O ps → O' ps) → Stays n X O t r → Stays n Y O' t r
carry f g q = record { pairs = q.pairs; left = f q.pairs q.once q.left; once = g q.pairs q.once; is = q.is }

pairs_more : {es : List Entry} (b : ℕ) → is_between b ≡ true → (x : List ℕ) → G.Pairs es x → G.Pairs es (b ∷ x)
pairs_more b e x (G.Pairs.last p) = G.Pairs.last (row_more is_between e p)
pairs_more b e x (G.Pairs.more p i) = G.Pairs.more (row_more is_between e p) i

pair_on : (p : Told) {ps : List Told} {x y s : List ℕ} → G.Pair (to_entry p) x → PairTail ps y → s ≡ x ++ y → (G.Pairs (told (p ∷ ps)) ▸ End) s
pair_on p {ps} {x} {y} {s} h (p_closes c) e =
    let q : (G.Pair (to_entry p) ▸ (Closing ▸ End)) s = record { first = x; rest = y; is_first = h; is_rest = c; split = e } in
    lead (λ x i. G.Pairs.last (skip (row_none is_between) i)) (fold (λ x c. c) q)
pair_on p {ps} {x} {y} {s} h (p_parts c) e =
    let q : (G.Pair (to_entry p) ▸ (One is_between ▸ (G.Pairs (told ps) ▸ End))) s = record { first = x; rest = y; is_first = h; is_rest = c; split = e } in
    lead (λ x i. subst (G.Pairs (told (p ∷ ps))) (sym i.split) (G.Pairs.more (skip (row_none is_between) i.is_first) i.is_rest)) (fold (λ x c. c) (fold (λ x c. c) q))

map_pair : {minus : Bool} {A A' : List ℕ → ℕ → List ℕ → Type 0} {ps : List Told} {s : List ℕ} (b : ℕ) → ((ds : List ℕ) (month : ℕ) (x : List ℕ) → A ds month x → A' ds month (b ∷ x)) → InPair minus A ps s → InPair minus A' ps (b ∷ s)
map_pair b f (in_pair {ds = ds} {month = month} p) = in_pair (into b (f ds month) p)

-- a pair behind its sign w
signed_pair : {minus : Bool} {ps : List Told} {s : List ℕ} (w : List ℕ) → ((x : List ℕ) → Some is_digit x → Whole (signed minus (spelled 0 x)) (w ++ x)) → InPair minus InSign ps s → (G.Pairs (told ps) ▸ End) (w ++ s)
signed_pair {minus} w f (in_pair {ds = ds} {month = month} p) =
    let d = p.is_first in
    pair_on (record { minus = minus; digits = ds; month = month })
    (record {
      first = w ++ d.first;
      rest = d.rest;
      is_first = subst (λ l. Whole (signed minus (spelled 0 l)) (w ++ d.first)) d.is_first.are (f d.first d.is_first.some_digits);
      is_rest = d.is_rest;
      split = ap (λ l. w ++ l) d.split ∙ sym (append_assoc w d.first d.rest);
    })
    p.is_rest (ap (λ l. w ++ l) p.split ∙ sym (append_assoc w p.first p.rest))

closed : (P : List Told → List ℕ → Type 0) {C : Type 0} {s : List ℕ} (b : ℕ) (ps : List Told) → eqb b 41 ≡ true → ((Closing ▸ End) (b ∷ s) → P [] (b ∷ s)) → (C → ps ≡ []) → Dat false (told ps) s → C → P ps (b ∷ s)
closed P {s = s} b ps e f o d c = let z = o c in subst (λ x. P x (b ∷ s)) (sym z) (f (closing b e (subst (λ x. Dat false (told x) s) z d)))

module _ {minus : Bool} {t r : List Entry} {s : List ℕ} (b : ℕ) (e : is_digit b ≡ true) (n : ℕ) where
  digit_more : (ps : List Told) → InPair minus InNumber ps s → r ≡ t ++ kept_from (grown n b) ps → Stays n (λ ps. InPair minus InNumber ps (b ∷ s)) None t r
  unfolding kept_of every
  digit_more _ (in_pair {ds = ds} {month = month} {ps = ps} p) h = record {
    pairs = record { minus = minus; digits = b ∷ ds; month = month } ∷ ps;
    left = in_pair (into b (λ x h. into b (λ y d. record { row = join e d.row; are = ap (λ l. b ∷ l) d.are }) h) p);
    once = tt;
    is = h;
  }

  digit_first : (ps : List Told) → InPair minus InNumber ps s → r ≡ t ++ kept_from (grown n b) ps → Stays n (λ ps. InPair minus InSign ps (b ∷ s)) None t r
  unfolding kept_of
  digit_first _ (in_pair {ds = ds} {month = month} {ps = ps} p) h = record {
    pairs = record { minus = minus; digits = b ∷ ds; month = month } ∷ ps;
    left = in_pair (into b (λ x h. into b (λ y d. record { some_digits = some e d.row; are = ap (λ l. b ∷ l) d.are }) h) p);
    once = tt;
    is = h;
  }

module _ {t r : List Entry} {s : List ℕ} (b at : ℕ) where
  from_ours : After t r s (in_named at b) → Stays 0 (λ ps. ToOurs (told ps) (b ∷ s)) None t r
  from_ours = out (is_gap b) (λ e q. keep (λ ps. row_more is_gap e) q.stood) (λ _. out (eqb b 61) (λ e q. keep (λ ps p. skip (row_none is_gap) (put b 61 e p)) q.stood) (λ _. gone))

  from_our_value : After t r s (step false at (Ours OurValue) b) → Stays 0 (λ ps. (Row is_gap ▸ (Is (40 ∷ []) ▸ (G.Pairs (told ps) ▸ End))) (b ∷ s)) None t r
  unfolding step
  from_our_value = out (is_gap b) (λ e q. keep (λ ps. row_more is_gap e) q.stood) (λ _. out (eqb b 40) (λ e q. keep (λ ps p. skip (row_none is_gap) (put b 40 e p)) q.stood) (λ _. gone))

  from_sign_lem : (minus : Bool) (n : ℕ) → After t r s (in_sign at minus n b) → Stays n (λ ps. InPair minus InSign ps (b ∷ s)) None t r
  from_sign_lem minus n = out (is_digit b) (λ e q. digit_first b e n q.stood.pairs q.stood.left q.stood.is) (λ _. gone)

  to_pair_lem : After t r s (to_pair at b) → Stays 0 (λ ps. (G.Pairs (told ps) ▸ End) (b ∷ s)) None t r
  to_pair_lem = out (eqb b 43) (λ e q. keep (λ ps p. rw (eqb-true b 43 e) (signed_pair {minus = false} (43 ∷ []) (λ x d. Whole.plus d) p)) q.stood)
      (λ _. out (eqb b 45) (λ e q. keep (λ ps p. rw (eqb-true b 45 e) (signed_pair {minus = true} (45 ∷ []) (λ x d. Whole.minus d) p)) q.stood)
      (λ _ q. keep (λ ps p. signed_pair {minus = false} [] (λ x d. Whole.bare d) p) (from_sign_lem false 0 q)))

  from_first : After t r s (step false at (Ours First) b) → Stays 0 (λ ps. (G.Pairs (told ps) ▸ End) (b ∷ s)) None t r
  unfolding step
  from_first = out (is_between b) (λ e q. keep (λ ps. into b (pairs_more b e)) q.stood) (λ _. to_pair_lem)

  from_pairs : After t r s (step false at (Ours Pairs) b) → Stays 0 (λ ps. 0 < length t → PairAgain ps (b ∷ s)) None t r
  unfolding step
  from_pairs = out (is_between b) (λ e q. keep (λ ps d c. parted e (d c)) q.stood)
      (λ _. out (eqb b 41) (λ e q. carry (λ ps o d. closed PairAgain b ps e PairAgain.p_closes o d) (λ ps o. tt) q.stood) (λ _ q. keep (λ ps p c. p_goes p) (to_pair_lem q)))
    where
      parted : {ps : List Told} {s : List ℕ} → is_between b ≡ true → PairAgain ps s → PairAgain ps (b ∷ s)
      parted e (PairAgain.p_closes c) = PairAgain.p_closes (into b (λ x h. row_more is_between e h) c)
      parted e (p_goes c) = p_goes (into b (pairs_more b e) c)

  from_done : (start : ℕ) → After t r s (cond (is_run b) (Dead start) (cond (is_between b) (Ours Pairs) (cond (eqb b 41) (Rest Gap) (Dead at)))) → Stays 0 (λ ps. 0 < length t → PairTail ps (b ∷ s)) None t r
  from_done start = out (is_run b) (λ _. gone)
      (λ _. out (is_between b) (λ e q. keep (λ ps d c. parted e (d c)) q.stood)
      (λ _. out (eqb b 41) (λ e q. carry (λ ps o d. closed PairTail b ps e PairTail.p_closes o d) (λ ps o. tt) q.stood) (λ _. gone)))
    where
      parted : {ps : List Told} {s : List ℕ} → is_between b ≡ true → PairAgain ps s → PairTail ps (b ∷ s)
      parted e (PairAgain.p_closes c) = PairTail.p_closes (into b (λ x h. row_more is_between e h) c)
      parted e (p_goes c) = p_parts (mark is_between e c)

  from_number : (minus : Bool) (n : ℕ) → After t r s (step false at (Pair minus n Digits) b) → Stays n (λ ps. InPair minus InNumber ps (b ∷ s)) None t r
  unfolding step
  from_number minus n = out (is_digit b) (λ e q. digit_more b e n q.stood.pairs q.stood.left q.stood.is)
      (λ _. out (is_between b) (λ e q. keep (λ ps. map_pair b (λ ds month x d. skip (record { row = row_none is_digit; are = sym d.none }) (some_more is_between e d.date))) q.stood) (λ _. gone))

-- ---- dates

module _ {t r : List Entry} {s : List ℕ} (b at : ℕ) where
  from_to_date : (minus : Bool) (n : ℕ) → After t r s (step false at (Pair minus n ToDate) b) → Stays n (λ ps. InPair minus InToDate ps (b ∷ s)) None t r
  unfolding step
  from_to_date minus n = out (is_between b) (λ e q. keep (λ ps. map_pair b (λ ds month x d. record { none = d.none; date = row_more is_between e d.date })) q.stood)
      (λ _. out (eqb b 64) (λ e q. keep (λ ps. map_pair b (λ ds month x d. record { none = d.none; date = skip (row_none is_between) (whole_date b e (d.date (lit≤ tt) (λ z. absurd (omega arith)))) })) q.stood) (λ _. gone))

  from_year : (start : ℕ) (minus : Bool) (n k year : ℕ) → After t r s (step false at (Date start minus n (Year k year)) b) → Stays n (λ ps. InPair minus (InYear k year) ps (b ∷ s)) None t r
  unfolding step
  from_year start minus n k year = out (ltb k 4)
      (λ l. out (is_digit b && years_begin k (grown_year year b)) (λ e q. keep (λ ps. map_pair b (λ ds month x d. record { none = d.none; date = λ h f. year_digit b k year (ltb-true k 4 l) (both (is_digit b) (years_begin k (grown_year year b)) e) d.date })) q.stood) (λ _. gone))
      (λ l. out (eqb b 45) (λ e q. keep (λ ps. map_pair b (λ ds month x d. record { none = d.none; date = λ h f. let k4 : k ≡ 4 = omega (arith, ltb-false k 4 l) in year_dash b k year e k4 (f k4) (d.date (lit≤ tt)) })) q.stood) (λ _. gone))

  from_month : (start : ℕ) (minus : Bool) (n year k from : ℕ) → After t r s (step false at (Date start minus n (Month year k from)) b) → Stays n (λ ps. InPair minus (InMonth year k from) ps (b ∷ s)) None t r
  unfolding step
  from_month start minus n year k from = out (ltb k 3)
      (λ l. out (ltb 0 (month_on from k (upper b) 12)) (λ e q. keep (λ ps. map_pair b (λ ds month x d. record { none = d.none; date = λ h. month_letter b year k from (ltb-true k 3 l) (ltb-true 0 (month_on from k (upper b) 12) e) d.date })) q.stood) (λ _. gone))
      (λ l. out (eqb b 45) (λ e q. keep (λ ps. map_pair b (λ ds month x d. record { none = d.none; date = λ h. let k3 : k ≡ 3 = omega (arith, ltb-false k 3 l) in month_dash b year k from e k3 d.is_month d.day })) q.stood) (λ _. gone))

  from_day : (start : ℕ) (minus : Bool) (n known : ℕ) (nought : Bool) → After t r s (step false at (Date start minus n (Day known nought)) b) → Stays n (λ ps. InPair minus (InDay known nought) ps (b ∷ s)) None t r
  unfolding step kept_of
  from_day start minus n known nought = out (eqb b 49)
      (λ e q. let w = q.stood in record {
        pairs = record { minus = minus; digits = []; month = known } ∷ w.pairs;
        left = in_pair (record { first = 49 ∷ []; rest = s; is_first = record { none = refl; is_month = refl; day = one_left nought }; is_rest = w.left (omega (arith, length-append t ((known, signed minus n) ∷ []))); split = ap (λ x. x ∷ s) (eqb-true b 49 e) });
        once = tt;
        is = w.is ∙ append_assoc t ((known, signed minus n) ∷ []) (kept_from 0 w.pairs) ∙ ap (λ l. t ++ (known, signed minus n) ∷ l) (from_nought w.pairs);
      })
      (λ _. zero_day nought)
    where
      zero_day : (z : Bool) → After t r s (cond (not z && eqb b 48) (Date start minus n (Day known true)) (Dead start)) → Stays n (λ ps. InPair minus (InDay known z) ps (b ∷ s)) None t r
      zero_day true = gone
      zero_day false = out (eqb b 48) (λ e q. keep (λ ps. map_pair b (λ ds month x d. record { none = d.none; is_month = d.is_month; day = rw (eqb-true b 48 e) (behind_zero d.day) })) q.stood) (λ _. gone)

-- ---- one byte back

from_name : {t r : List Entry} {s : List ℕ} (b at k start : ℕ) → After t r s (step (ltb 0 (length t)) at (Name k start) b) → Next t r b s (λ s ps. (f : Bool) (n : List ℕ) → Some is_name n → NameAt n k → Dat f (told ps) (n ++ s))
unfolding step
from_name {t} {r} {s} b at k start = out (is_name b)
    (λ e q. keep (λ ps d f n sn na. subst (Dat f (told ps)) (append_assoc n (b ∷ []) s) (d f (n ++ b ∷ []) (some_next b e sn) (name_next b na))) q.stood)
    (λ _. out (eqb k 15)
    (λ e. out (ltb 0 (length t)) (λ _. gone) (λ z q. carry (λ ps o p f n sn na. behind_ours (is_ours n k na e) p) (λ ps o h. never {b = ltb 0 (length t)} (lt-ltb 0 (length t) h) z) (from_ours b at q)))
    (λ e q. keep (λ ps p f n sn na. behind_other (record { name = sn; not_ours = not_ours n k na e }) p) (from_other b at q)))

back : (m : Mode) {t r : List Entry} {s : List ℕ} (b at : ℕ) → After t r s (step (ltb 0 (length t)) at m b) → Stood m t r (b ∷ s)
unfolding step
back (Rest (Text k)) b at q = from_text b at k q
back (Rest Fresh) b at q = from_fresh b at q
back (Rest Gap) b at q = from_gap b at q
back (Rest Closed) b at q = from_closed b at q
back (Rest Run) b at q = from_run b at q
back (Rest Quoted) b at q = from_quoted b at q
back (Inside (Close k)) b at q = from_close b at k q
back (Inside Other) b at q = from_other b at q
back (Inside Plus) b at q = from_plus b at q
back (Inside Value) b at q = from_value b at q
back (Inside Quote) b at q = from_quote b at q
back (Inside Open) b at q = from_open b at q
back (Inside Items) b at q = from_items b at q
back (Inside ItemRun) b at q = from_item_run b at q
back (Inside ItemQuote) b at q = from_item_quote b at q
back (Inside ItemQuoted) b at q = from_item_quoted b at q
back (Name k start) b at q = from_name b at k start q
back (Ours Named) b at q = from_ours b at q
back (Ours OurValue) b at q = from_our_value b at q
back (Ours First) b at q = from_first b at q
back (Ours Pairs) b at q = from_pairs b at q
back (Pair minus n Sign) b at q = from_sign_lem b at minus n q
back (Pair minus n Digits) b at q = from_number b at minus n q
back (Pair minus n ToDate) b at q = from_to_date b at minus n q
back (Date start minus n (Year k year)) b at q = from_year b at start minus n k year q
back (Date start minus n (Month year k from)) b at q = from_month b at start minus n year k from q
back (Date start minus n (Day month nought)) b at q = from_day b at start minus n month nought q
back (Done start minus n month) b at q = from_done b at start q
back (Dead place) b at q = gone q

-- ---- the end of the file

at_rest : (m : Mode) (t : List Entry) (left : Left m t [] []) (once : Once m t []) → read_of m ≡ 0 → Stood m t t []
at_rest m t left once e = record { pairs = []; left = left; once = once; is = sym (append-nil t) }

at_end : (m : Mode) (t : List Entry) → may_end m ≡ true → Stood m t t []
at_end (Rest (Text k)) t e = at_rest (Rest (Text k)) t (λ l h f. File.text_ends (l ++ []) (rw (append-nil l) h)) (λ h. refl) refl
at_end (Rest Fresh) t e = at_rest (Rest Fresh) t File.data_ends (λ h. refl) refl
at_end (Rest Gap) t e = at_rest (Rest Gap) t File.data_ends (λ h. refl) refl
at_end (Rest Closed) t e = at_rest (Rest Closed) t (skip (row_none is_white) f_end) (λ h. refl) refl
at_end (Rest Run) t e = at_rest (Rest Run) t (skip (row_none is_run) (record { stops = tt; dat = File.data_ends })) (λ h. refl) refl
at_end (Rest Quoted) t e = at_rest (Rest Quoted) t (close File.data_ends) (λ h. refl) refl
at_end (Inside w) t e = never e refl
at_end (Name k start) t e = never e refl
at_end (Ours o) t e = never e refl
at_end (Pair minus n c) t e = never e refl
at_end (Date start minus n d) t e = never e refl
at_end (Done start minus n month) t e = never e refl
at_end (Dead place) t e = never e refl

-- ---- the whole

all_back : (s : List ℕ) (m : Mode) (t : List Entry) (at : ℕ) → may_end (run m t at s).mode ≡ true → Stood m t (run m t at s).pairs s
unfolding run
all_back [] m t at e = at_end m t e
all_back (b ∷ s) m t at e =
    let m' = step (ltb 0 (length t)) at m b in
    back m b at (record { stood = all_back s m' (noted m' t) (at + 1) e })

some_told : (ps : List Told) → 0 < length (kept_from 0 ps) → 0 < length (told ps)
some_told [] h = h
some_told (p ∷ ps) h = omega arith

pub sound : (s : List ℕ) → Good s → (es : List Entry) × (G.Kernel es s × Kept es (scan s).pairs)
unfolding run
sound s g =
    let q = all_back s (Rest (Text 0)) [] 0 g.may_end_lem in
    let k = subst (λ l. 0 < length l) q.is g.some_pair in (
      told q.pairs,
      (
        record { file = q.left [] (row_none not_feed) (λ u at. refl); stands = some_told q.pairs k },
        subst (Kept (told q.pairs)) (sym (q.is ∙ from_nought q.pairs)) (told_kept q.pairs),
      ),
    )
