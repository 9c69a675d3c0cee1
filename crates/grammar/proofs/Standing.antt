-- What the bytes behind which the automaton stands are, and where it dies at the next one.
-- Assumes nothing.
use Prim.Native.Nat.{ℕ, zero, suc, ◌+◌, ◌≤◌, ◌<◌}
use mathlib.Core.Path.{◌≡◌, refl, sym, ap, subst, ◌∙◌}
use mathlib.Core.Bool.{Bool, true, false, cond, not, ◌&&◌, ◌||◌}
use mathlib.Core.List.{List, [], ◌∷◌, ◌++◌, append_assoc, append-nil}
use native.Mathlib.Omega.{arith}
use borrow.Author.Tests.{ltb-true, le-ltb, leb-true, le-leb, lt-leb, eqb-true, eqb-false}
use lib.Dec.{ltb, leb, eqb, lit≤}
use lib.ListN.{length, get_or, take}
use Rattle.laws.specs.Tests.{all_below}
use Rattle.laws.proofs.Cases.{pick, both, and_r, by_order, below}
use Rattle.digits.specs.Decimals.{is_digit}
use Rattle.digits.specs.Months.{letter}
use Rattle.digits.proofs.Decimals.{digit_range, value_most}
use Rattle.automaton.specs.declared.Mode.{Mode}
use Rattle.automaton.specs.declared.Mode.TheVariants.{Rest, Inside, Name, Ours, Pair, Date, Done, Dead}
use Rattle.automaton.specs.declared.Resting.{Resting}
use Rattle.automaton.specs.declared.Resting.TheVariants.{Text, Fresh, Gap, Closed, Run, Quoted}
use Rattle.automaton.specs.declared.Within.{Within}
use Rattle.automaton.specs.declared.Within.TheVariants.{Close, Other, Plus, Value, Quote, Open, Items, ItemRun, ItemQuote, ItemQuoted}
use Rattle.automaton.specs.declared.Pairing.{Pairing}
use Rattle.automaton.specs.declared.Pairing.TheVariants.{Named, OurValue, First, Pairs}
use Rattle.automaton.specs.declared.Counting.{Counting}
use Rattle.automaton.specs.declared.Counting.TheVariants.{Sign, Digits, ToDate}
use Rattle.automaton.specs.declared.Dating.{Dating}
use Rattle.automaton.specs.declared.Dating.TheVariants.{Year, Month, Day}
use Rattle.kinds.specs.Kinds.{is_white, is_between, is_run, is_name, upper, begin_text, ours}
use Rattle.kinds.specs.Parts.{matched, years_begin, grown_year, goes_on, month_on, month_number}
use Rattle.automaton.specs.Step.{in_gap, in_rest, in_inside, in_named, in_other, in_ours, in_pair, in_year, in_date, step}
use Rattle.automaton.specs.Run.{run, scan}
use Rattle.grammar.specs.Grammar.{every, Row}
use Rattle.grammar.proofs.Running.{scan_one}
use Rattle.grammar.proofs.Lines.{every_more}
use Rattle.grammar.proofs.Names.{name_split}
use Rattle.grammar.proofs.Months.{found}

-- ---- what is known at each place

-- a name may begin
abbrev pub may_name : Resting → Bool
may_name (Text k) = false
may_name Fresh = true
may_name Gap = true
may_name Closed = false
may_name Run = false
may_name Quoted = true

-- a name that begins at `start`, of which k bytes are ours
pub record NameBehind (s : List ℕ) (k start : ℕ) : Type 0 where
  pub before : List ℕ
  pub split : k ≤ 15 → s ≡ before ++ take k ours
  pub placed : length before ≡ start
  pub rest : Resting
  pub stood : (scan before).mode ≡ Rest rest
  pub may : may_name rest ≡ true

-- a date that begins at `start`
pub record DateBehind (s : List ℕ) (start : ℕ) (minus : Bool) (n : ℕ) : Type 0 where
  pub before : List ℕ
  pub date : List ℕ
  pub split : s ≡ before ++ 64 ∷ date
  pub placed : length before ≡ start
  pub stood : (scan before).mode ≡ Pair minus n ToDate
  pub item_bytes : Row is_run date

-- a year of k digits can become one from 1972 on
abbrev pub YearFine : ℕ → ℕ → Type 0
YearFine zero year = year ≡ 0
YearFine (suc zero) year = (1 ≤ year) × (year ≤ 9)
YearFine (suc (suc zero)) year = (19 ≤ year) × (year ≤ 99)
YearFine (suc (suc (suc zero))) year = (197 ≤ year) × (year ≤ 999)
YearFine (suc (suc (suc (suc k)))) year = Unit {0}

abbrev pub DateFine : Dating → Type 0
DateFine (Year k year) = YearFine k year
DateFine (Month year k from) = from ≤ 12
DateFine (Day month nought) = Unit {0}

abbrev pub WithinFine : Within → Type 0
WithinFine (Close k) = k ≤ 9
WithinFine Other = Unit {0}
WithinFine Plus = Unit {0}
WithinFine Value = Unit {0}
WithinFine Quote = Unit {0}
WithinFine Open = Unit {0}
WithinFine Items = Unit {0}
WithinFine ItemRun = Unit {0}
WithinFine ItemQuote = Unit {0}
WithinFine ItemQuoted = Unit {0}

-- behind s it stands at m; a place where it is dead is as A says
abbrev pub BehindOf : (ℕ → Type 0) → List ℕ → Mode → Type 0
BehindOf A s (Rest r) = Unit {0}
BehindOf A s (Inside w) = WithinFine w
BehindOf A s (Name k start) = NameBehind s k start
BehindOf A s (Ours o) = Unit {0}
BehindOf A s (Pair minus n c) = Unit {0}
BehindOf A s (Date start minus n d) = DateFine d × DateBehind s start minus n
BehindOf A s (Done start minus n month) = DateBehind s start minus n
BehindOf A s (Dead place) = A place

pub record Behind (A : ℕ → Type 0) (s : List ℕ) (m : Mode) : Type 0 where
  pub known : BehindOf A s m

-- where the byte b at place `at` is a fault, it is placed here
abbrev pub fault_place : Bool → ℕ → Mode → ℕ → ℕ
fault_place have at (Rest r) b = at
fault_place have at (Inside w) b = at
fault_place have at (Name k start) b = cond (eqb k 15 && have) start at
fault_place have at (Ours o) b = at
fault_place have at (Pair minus n c) b = at
fault_place have at (Date start minus n d) b = start
fault_place have at (Done start minus n month) b = cond (is_run b) start at
fault_place have at (Dead place) b = place

-- ---- bytes of a date

-- below n one kind of byte is of another kind too
kind : (f g : ℕ → Bool) (n b : ℕ) → all_below (λ c. not (f c) || g c) n ≡ true → b < n → f b ≡ true → g b ≡ true
kind f g n b t h e = let w = below (λ c. not (f c) || g c) n t b h in rw e at w

digit_run : (b : ℕ) → is_digit b ≡ true → is_run b ≡ true
unfolding all_below
digit_run b e = kind is_digit is_run 58 b refl (omega (arith, digit_range b e)) e

abbrev pub is_capital : ℕ → Bool
is_capital c = leb 65 c && leb c 90

letter_run : (b : ℕ) → is_capital (upper b) ≡ true → is_run b ≡ true
unfolding all_below
letter_run b e = by_order b 123
    (λ h. kind (λ c. is_capital (upper c)) is_run 123 b refl h e)
    (λ h. let q : upper b ≡ b = rw (le-leb 97 b (omega arith), lt-leb b 122 h) in absurd (omega (arith, leb-true b 90 (both (leb 65 b) (leb b 90) (rw q at e)).1)))

-- a letter with which a month goes on
goes_capital : (from k c m : ℕ) → m ≤ 12 → goes_on from k c m ≡ true → is_capital c ≡ true
unfolding all_below
goes_capital from k c m h =
    pick (λ t. t ≡ true → is_capital c ≡ true) (eqb k 0) (λ _ e. at_letter 0 refl e)
    (λ _ e. pick (λ t. t ≡ true → is_capital c ≡ true) (eqb k 1) (λ _ f. at_letter 1 refl f) (λ _ f. at_letter 2 refl (and_r (eqb (letter m 1) (letter from 1)) (eqb (letter m 2) c) f))
    (and_r (eqb (letter m 0) (letter from 0)) (cond (eqb k 1) (eqb (letter m 1) c) (eqb (letter m 1) (letter from 1) && eqb (letter m 2) c)) e))
  where
    at_letter : (j : ℕ) → all_below (λ i. is_capital (letter i j)) 13 ≡ true → eqb (letter m j) c ≡ true → is_capital c ≡ true
    at_letter j t e = subst (λ x. is_capital x ≡ true) (eqb-true (letter m j) c e) (below (λ i. is_capital (letter i j)) 13 t m (omega arith))

pub on_capital : (from k c : ℕ) → ltb 0 (month_on from k c 12) ≡ true → (month_on from k c 12 ≤ 12) × (is_capital c ≡ true)
on_capital from k c e = let w = found from k c 12 (ltb-true 0 (month_on from k c 12) e) in (w.0, goes_capital from k c (month_on from k c 12) w.0 w.1)

-- ---- a step keeps it

module _ {A : ℕ → Type 0} {s : List ℕ} where
  alt : (b : Bool) {x y : Mode} → Behind A s x → Behind A s y → Behind A s (cond b x y)
  alt true f g = f
  alt false f g = g

  -- a fault, placed as A says
  dead : {p : ℕ} → A p → Behind A s (Dead p)
  dead a = record { known = a }

module _ (A : ℕ → Type 0) (s : List ℕ) (b : ℕ) where
  abbrev Next : Mode → Type 0
  Next m = Behind A (s ++ b ∷ []) m

  name_more : (k start : ℕ) → NameBehind s k start → NameBehind (s ++ b ∷ []) (matched ours k b) start
  name_more k start d = record { before = d.before; split = name_split s d.before b k d.split; placed = d.placed; rest = d.rest; stood = d.stood; may = d.may }

  name_begins : {r : Resting} → (scan s).mode ≡ Rest r → may_name r ≡ true → NameBehind (s ++ b ∷ []) (matched ours 0 b) (length s)
  name_begins {r} q y = record { before = s; split = name_split s s b 0 (λ h. sym (append-nil s)); placed = refl; rest = r; stood = q; may = y }

  date_more : (start : ℕ) (minus : Bool) (n : ℕ) → is_run b ≡ true → DateBehind s start minus n → DateBehind (s ++ b ∷ []) start minus n
  date_more start minus n e d = record {
    before = d.before;
    date = d.date ++ b ∷ [];
    split = ap (λ l. l ++ b ∷ []) d.split ∙ append_assoc d.before (64 ∷ d.date) (b ∷ []);
    placed = d.placed;
    stood = d.stood;
    item_bytes = every_more is_run d.date b d.item_bytes e;
  }

  behind_gap : {r : Resting} → A (length s) → (scan s).mode ≡ Rest r → may_name r ≡ true → Next (in_gap (length s) b)
  behind_gap a q y =
      alt (is_white b) (record { known = tt })
      (alt (eqb b 10) (record { known = tt })
      (alt (is_name b) (record { known = name_begins q y }) (record { known = a })))

  behind_rest : (r : Resting) → A (length s) → (scan s).mode ≡ Rest r → Next (in_rest (length s) r b)
  behind_rest (Text k) a q = search alt depth 9
  behind_rest Fresh a q = alt (eqb b 92) (record { known = lit≤ tt }) (alt (is_white b) (record { known = tt }) (behind_gap a q refl))
  behind_rest Gap a q = behind_gap a q refl
  behind_rest Closed a q = search alt depth 9
  behind_rest Run a q = search alt depth 9
  behind_rest Quoted a q = alt (eqb b 39) (record { known = tt }) (behind_gap a q refl)

  behind_close : (k at : ℕ) → A at → k ≤ 9 → Next (in_inside at (Close k) b)
  unfolding matched
  behind_close k at a h = go (ltb k 10 && eqb (get_or begin_text k 0) b) refl
    where
      go : (t : Bool) → (ltb k 10 && eqb (get_or begin_text k 0) b) ≡ t → Next (cond (eqb (cond t (k + 1) 16) 16) (Dead at) (cond (eqb (cond t (k + 1) 16) 10) (Rest Closed) (Inside (Close (cond t (k + 1) 16)))))
      go true e =
          alt (eqb (k + 1) 16) (dead a)
          (pick Next (eqb (k + 1) 10) (λ _. record { known = tt }) (λ f. record { known = omega (arith, eqb-false (k + 1) 10 f) }))
      go false e = dead a

  behind_inside : (w : Within) (at : ℕ) → A at → WithinFine w → Next (in_inside at w b)
  behind_inside (Close k) at a h = behind_close k at a h
  behind_inside Other at a h = search alt depth 9
  behind_inside Plus at a h = search alt depth 9
  behind_inside Value at a h = search alt depth 9
  behind_inside Quote at a h = search alt depth 9
  behind_inside Open at a h = search alt depth 9
  behind_inside Items at a h = search alt depth 9
  behind_inside ItemRun at a h = search alt depth 9
  behind_inside ItemQuote at a h = search alt depth 9
  behind_inside ItemQuoted at a h = search alt depth 9

  behind_ours : (o : Pairing) (at : ℕ) → A at → Next (in_ours at o b)
  behind_ours Named at a = search alt depth 9
  behind_ours OurValue at a = search alt depth 9
  behind_ours First at a = search alt depth 9
  behind_ours Pairs at a = search alt depth 9

  behind_pair : (minus : Bool) (n : ℕ) (c : Counting) → A (length s) → (scan s).mode ≡ Pair minus n c → Next (in_pair (length s) minus n c b)
  unfolding every
  behind_pair minus n Sign a q = search alt depth 9
  behind_pair minus n Digits a q = search alt depth 9
  behind_pair minus n ToDate a q =
      alt (is_between b) (record { known = tt })
      (pick Next (eqb b 64) (λ e. record { known = (refl, record { before = s; date = []; split = ap (λ x. s ++ x ∷ []) (eqb-true b 64 e); placed = refl; stood = q; item_bytes = refl }) }) (λ _. dead a))

  module _ (start : ℕ) (minus : Bool) (n : ℕ) (a : A start) (d : DateBehind s start minus n) where
    -- the date goes on with b, or b is a fault
    went_on : (t : Bool) (x : Dating) → (t ≡ true → DateFine x × (is_run b ≡ true)) → Next (cond t (Date start minus n x) (Dead start))
    went_on t x f = pick Next t (λ e. record { known = ((f e).0, date_more start minus n (f e).1 d) }) (λ _. dead a)

    -- with this very byte
    with_byte : (c : ℕ) (x : Dating) → is_run c ≡ true → DateFine x → Next (cond (eqb b c) (Date start minus n x) (Dead start))
    with_byte c x e f = went_on (eqb b c) x (λ h. (f, rw (eqb-true b c h) e))

    one_digit : (k year : ℕ) → (is_digit b && years_begin k (grown_year year b) ≡ true → YearFine (k + 1) (grown_year year b)) → Next (cond (is_digit b && years_begin k (grown_year year b)) (Date start minus n (Year (k + 1) (grown_year year b))) (Dead start))
    one_digit k year f = went_on (is_digit b && years_begin k (grown_year year b)) (Year (k + 1) (grown_year year b)) (λ e. (f e, digit_run b (both (is_digit b) (years_begin k (grown_year year b)) e).0))

    behind_year : (k year : ℕ) → YearFine k year → Next (in_year start minus n k year b)
    behind_year zero year h = one_digit 0 year (λ e. (leb-true 1 (grown_year year b) (and_r (is_digit b) (years_begin 0 (grown_year year b)) e), omega (arith, value_most b)))
    behind_year (suc zero) year h = one_digit 1 year (λ e. (leb-true 19 (grown_year year b) (and_r (is_digit b) (years_begin 1 (grown_year year b)) e), omega (arith, value_most b)))
    behind_year (suc (suc zero)) year h = one_digit 2 year (λ e. (leb-true 197 (grown_year year b) (and_r (is_digit b) (years_begin 2 (grown_year year b)) e), omega (arith, value_most b)))
    behind_year (suc (suc (suc zero))) year h = one_digit 3 year (λ e. tt)
    behind_year (suc (suc (suc (suc k)))) year h = rw (le-ltb (suc (suc (suc (suc k)))) 4 (omega arith)) (with_byte 45 (Month year 0 0) refl (lit≤ tt))

    behind_date : (x : Dating) → DateFine x → Next (in_date start minus n x b)
    behind_date (Year k year) h = behind_year k year h
    behind_date (Month year k from) h =
        alt (ltb k 3)
        (went_on (ltb 0 (month_on from k (upper b) 12)) (Month year (k + 1) (month_on from k (upper b) 12)) (λ e. let w = on_capital from k (upper b) e in (w.0, letter_run b w.1)))
        (with_byte 45 (Day (month_number year from) false) refl tt)
    behind_date (Day month nought) h =
        pick Next (eqb b 49) (λ e. record { known = date_more start minus n (rw (eqb-true b 49 e)) d })
        (λ _. went_on (not nought && eqb b 48) (Day month true) (λ e. (tt, rw (eqb-true b 48 (and_r (not nought) (eqb b 48) e)))))

  behind_name : (have : Bool) (at k start : ℕ) (ours_read : Bool) → A (cond (ours_read && have) start at) → NameBehind s k start
      → Next (cond (is_name b) (Name (matched ours k b) start) (cond ours_read (cond have (Dead start) (in_named at b)) (in_other at b)))
  behind_name have at k start ours_read a d = alt (is_name b) (record { known = name_more k start d }) (go ours_read have a)
    where
      go : (x y : Bool) → A (cond (x && y) start at) → Next (cond x (cond y (Dead start) (in_named at b)) (in_other at b))
      go true true c = dead c
      go true false c = behind_ours Named at c
      go false y c = behind_inside Other at c tt

  behind_done : (at start : ℕ) (run_byte : Bool) → A (cond run_byte start at) → Next (cond run_byte (Dead start) (cond (is_between b) (Ours Pairs) (cond (eqb b 41) (Rest Gap) (Dead at))))
  behind_done at start true a = dead a
  behind_done at start false a = alt (is_between b) (record { known = tt }) (alt (eqb b 41) (record { known = tt }) (dead a))

-- one byte more
pub behind_step : {B : ℕ → Type 0} (A : ℕ → Type 0) (s : List ℕ) (have : Bool) (m : Mode) (b : ℕ) → (scan s).mode ≡ m → Behind B s m → A (fault_place have (length s) m b) → Behind A (s ++ b ∷ []) (step have (length s) m b)
unfolding step
behind_step A s have (Rest r) b q h a = behind_rest A s b r a q
behind_step A s have (Inside w) b q h a = behind_inside A s b w (length s) a h.known
behind_step A s have (Name k start) b q h a = behind_name A s b have (length s) k start (eqb k 15) a h.known
behind_step A s have (Ours o) b q h a = behind_ours A s b o (length s) a
behind_step A s have (Pair minus n c) b q h a = behind_pair A s b minus n c a q
behind_step A s have (Date start minus n d) b q h a = behind_date A s b start minus n a h.known.1 d h.known.0
behind_step A s have (Done start minus n month) b q h a = behind_done A s b (length s) start (is_run b) a
behind_step A s have (Dead place) b q h a = dead a

-- ---- along a file

abbrev pub Anywhere : ℕ → Type 0
Anywhere p = Unit {0}

behind_more : (s rest : List ℕ) → Behind Anywhere s (scan s).mode → Behind Anywhere (s ++ rest) (scan (s ++ rest)).mode
behind_more s [] h = rw (append-nil s) h
behind_more s (b ∷ rest) h =
    let g = behind_step Anywhere s (ltb 0 (length (scan s).pairs)) (scan s).mode b refl h tt in
    let f : Behind Anywhere (s ++ b ∷ []) (scan (s ++ b ∷ [])).mode = subst (λ m. Behind Anywhere (s ++ b ∷ []) m) (sym (scan_one s b)) g in
    subst (λ l. Behind Anywhere l (scan l).mode) (append_assoc s (b ∷ []) rest) (behind_more (s ++ b ∷ []) rest f)

pub behind : (s : List ℕ) → Behind Anywhere s (scan s).mode
unfolding run
behind s = behind_more [] s (record { known = tt })
