-- Dates byte by byte: what is left of one, and that what the automaton takes for a date is one.
-- Assumes nothing.
use Prim.Native.Nat.{ℕ, ◌+◌, ◌-◌, ◌*◌, ◌%◌, ◌≤◌, ◌<◌}
use mathlib.Core.Path.{◌≡◌, refl, sym, ap, ◌∙◌}
use mathlib.Core.Bool.{Bool, true, false, cond, not, ◌&&◌}
use mathlib.Core.List.{List, [], ◌∷◌}
use native.Mathlib.Omega.{arith}
use borrow.Author.Tests.{ltb-true, ltb-false, leb-true, eqb-true}
use lib.Dec.{ltb, eqb, lit≤}
use lib.ListN.{length}
use Rattle.laws.proofs.Cases.{both, join}
use Rattle.digits.specs.Decimals.{is_digit, spelled}
use Rattle.digits.proofs.Decimals.{value_most}
use Rattle.automaton.specs.declared.Mode.{Mode}
use Rattle.automaton.specs.declared.Mode.TheVariants.{Date, Done, Dead}
use Rattle.automaton.specs.declared.Dating.{Dating}
use Rattle.automaton.specs.declared.Dating.TheVariants.{Year, Month, Day}
use Rattle.kinds.specs.Kinds.{is_run, upper}
use Rattle.kinds.specs.Parts.{years_begin, grown_year, month_on, month_number}
use Rattle.automaton.specs.Step.{step}
use Rattle.automaton.specs.Run.{Pairs, noted, run}
use Rattle.grammar.specs.Grammar as G
use Rattle.grammar.specs.Grammar.{every, Row, Is, ◌▸◌, MonthName}
use Rattle.grammar.proofs.Running.{step_on, dead_run}
use Rattle.grammar.proofs.Parts.{skip, lead, into, put, row_none}
use Rattle.grammar.proofs.Months.{LettersLeft, name_of}

-- ---- what is left of a date

unfoldable pub year_from : ℕ → List ℕ → ℕ
year_from y [] = y
year_from y (b ∷ x) = year_from (grown_year y b) x

pub record YearLeft (k year y : ℕ) (x : List ℕ) : Type 0 where
  pub four : length x + k ≡ 4
  pub row : Row is_digit x
  pub value : year_from year x ≡ y

pub record DateInYear (k year month : ℕ) (x : List ℕ) : Type 0 where
  pub y : ℕ
  pub m : ℕ
  pub late : 1972 ≤ y
  pub is_month : month ≡ (y % 10000 - 1972) * 12 + (m - 1)
  pub parts : (YearLeft k year y ▸ (Is (45 ∷ []) ▸ (MonthName m ▸ (Is (45 ∷ []) ▸ G.Day)))) x

pub record DateInMonth (year k from month : ℕ) (x : List ℕ) : Type 0 where
  pub q : ℕ
  pub is_month : month ≡ month_number year q
  pub parts : (LettersLeft k from q ▸ (Is (45 ∷ []) ▸ G.Day)) x

pub data DayLeft : Bool → List ℕ → Type 0 where
  any_day : {x : List ℕ} → G.Day x → DayLeft false x
  one_day : DayLeft true (49 ∷ [])

-- ---- with one byte more in front

year_value : (x : List ℕ) → length x + 0 ≡ 4 → Row is_digit x → (year_from 0 x ≡ spelled 0 x) × (spelled 0 x ≤ 9999)
unfolding year_from spelled
year_value [] n h = absurd (omega arith)
year_value (a ∷ []) n h = absurd (omega arith)
year_value (a ∷ b ∷ []) n h = absurd (omega arith)
year_value (a ∷ b ∷ c ∷ []) n h = absurd (omega arith)
year_value (a ∷ b ∷ c ∷ d ∷ []) n h =
    let la = value_most a in
    let lb = value_most b in
    let lc = value_most c in
    let ld = value_most d in
    (omega arith, omega arith)
year_value (a ∷ b ∷ c ∷ d ∷ e ∷ x) n h = absurd (omega arith)

late : (b k year : ℕ) → k + 1 ≡ 4 → years_begin k (grown_year year b) ≡ true → 1972 ≤ grown_year year b
late b k year h e = let z : k ≡ 3 = omega arith in leb-true 1972 (grown_year year b) (rw z at e)

module _ (b : ℕ) {month : ℕ} {x : List ℕ} where
  pub whole_date : eqb b 64 ≡ true → DateInYear 0 0 month x → G.Date month (b ∷ x)
  whole_date e d =
      let w = year_value d.parts.first d.parts.is_first.four d.parts.is_first.row in
      let v = d.parts.is_first.value in
      record {
        y = d.y;
        m = d.m;
        number = let m = d.is_month in omega (arith, w.0, w.1);
        parts = put b 64 e (lead (λ x h. let u = year_value x h.four h.row in record { four = omega (arith, h.four); digits = h.row; value = sym u.0 ∙ h.value; late = d.late }) d.parts);
      }

  pub year_digit : (k year : ℕ) → k < 4 → (is_digit b ≡ true) × (years_begin k (grown_year year b) ≡ true) → (k + 1 ≤ 4 → (k + 1 ≡ 4 → 1972 ≤ grown_year year b) → DateInYear (k + 1) (grown_year year b) month x) → DateInYear k year month (b ∷ x)
  unfolding year_from every
  year_digit k year l v f = let d = f (omega arith) (λ z. late b k year z v.1) in record {
    y = d.y;
    m = d.m;
    late = d.late;
    is_month = d.is_month;
    parts = into b (λ x h. record { four = omega (arith, h.four); row = join v.0 h.row; value = h.value }) d.parts;
  }

  pub year_dash : (k year : ℕ) → eqb b 45 ≡ true → k ≡ 4 → 1972 ≤ year → DateInMonth year 0 0 month x → DateInYear k year month (b ∷ x)
  unfolding year_from
  year_dash k year e z h d = record {
    y = year;
    m = d.q;
    late = h;
    is_month = d.is_month;
    parts = skip (record { four = omega arith; row = row_none is_digit; value = refl }) (put b 45 e (lead (λ x l. name_of d.q x l) d.parts));
  }

  pub month_letter : (year k from : ℕ) → k < 3 → 0 < month_on from k (upper b) 12 → (k + 1 ≤ 3 → DateInMonth year (k + 1) (month_on from k (upper b) 12) month x) → DateInMonth year k from month (b ∷ x)
  month_letter year k from l v f = let d = f (omega arith) in record { q = d.q; is_month = d.is_month; parts = into b (λ x h. (v, h)) d.parts }

  pub month_dash : (year k from : ℕ) → eqb b 45 ≡ true → k ≡ 3 → month ≡ month_number year from → DayLeft false x → DateInMonth year k from month (b ∷ x)
  month_dash year k from e z m (any_day d) = record { q = from; is_month = m; parts = skip (z, refl) (put b 45 e d) }

pub one_left : (nought : Bool) → DayLeft nought (49 ∷ [])
one_left true = one_day
one_left false = any_day G.Day.short

pub behind_zero : {x : List ℕ} → DayLeft true x → DayLeft false (48 ∷ x)
behind_zero one_day = any_day G.Day.long

-- ---- what the automaton takes for a date is one

abbrev DateLeft : Dating → ℕ → List ℕ → Type 0
DateLeft (Year k year) month x = k ≤ 4 → (k ≡ 4 → 1972 ≤ year) → DateInYear k year month x
DateLeft (Month year k from) month x = k ≤ 3 → DateInMonth year k from month x
DateLeft (Day known nought) month x = (month ≡ known) × DayLeft nought x

-- from x on s leads to a date that is done
record Leads (ps : Pairs) (month : ℕ) (x : Mode) (at : ℕ) (s : List ℕ) : Type 0 where
  start : ℕ
  minus : Bool
  n : ℕ
  leads : (run x (noted x ps) at s).mode ≡ Done start minus n month

-- by a test, each way with what it says
out : {P : Type 0} (t : Bool) {ps : Pairs} {month : ℕ} {x y : Mode} {at : ℕ} {s : List ℕ} → (t ≡ true → Leads ps month x at s → P) → (t ≡ false → Leads ps month y at s → P) → Leads ps month (cond t x y) at s → P
out true f g e = f refl e
out false f g e = g refl e

dead_not : {P : Type 0} {ps : Pairs} {month p at : ℕ} {s : List ℕ} → Leads ps month (Dead p) at s → P
dead_not {ps = ps} {p = p} {at = at} {s = s} q = let e = q.leads in let z : ◌≡◌ {A = ℕ} 0 1 = cc (dead_run p ps at s) in absurd (omega arith)

module _ (ps : Pairs) (month start : ℕ) (minus : Bool) (n : ℕ) where
  -- no run byte follows a date
  nothing_left : (known at : ℕ) (s : List ℕ) → Row is_run s → Leads ps month (Done start minus n known) at s → (s ≡ []) × (month ≡ known)
  unfolding run step every
  nothing_left known at [] h q = let e = q.leads in (refl, cc)
  nothing_left known at (b ∷ s) h q =
      let x = Done start minus n known in
      let d : step (ltb 0 (length (noted x ps))) at x b ≡ Dead start = rw (both (is_run b) (every is_run s) h).0 in
      dead_not {ps = noted x ps} {p = start} {at = at + 1} {s = s} (record { start = q.start; minus = q.minus; n = q.n; leads = sym (ap (λ r. r.mode) (step_on x (noted x ps) at b s d)) ∙ q.leads })

  abbrev Left : Dating → ℕ → List ℕ → Type 0
  Left d at s = Row is_run s → Leads ps month (Date start minus n d) at s → DateLeft d month s

  next : (d : Dating) (at b : ℕ) (s : List ℕ) → Leads ps month (Date start minus n d) at (b ∷ s) → Leads ps month (step (ltb 0 (length ps)) at (Date start minus n d) b) (at + 1) s
  unfolding run
  next d at b s q = record { start = q.start; minus = q.minus; n = q.n; leads = q.leads }

  date_left : (d : Dating) (at : ℕ) (s : List ℕ) → Left d at s
  unfolding run step every
  date_left d at [] h q = let e = q.leads in let z : ◌≡◌ {A = ℕ} 0 1 = cc in absurd (omega arith)
  date_left (Year k year) at (b ∷ s) h q =
      let r = (both (is_run b) (every is_run s) h).1 in
      out (ltb k 4)
      (λ l. out (is_digit b && years_begin k (grown_year year b))
      (λ v q _ _. year_digit b k year (ltb-true k 4 l) (both (is_digit b) (years_begin k (grown_year year b)) v) (date_left (Year (k + 1) (grown_year year b)) (at + 1) s r q))
      (λ _ q. dead_not q))
      (λ l. out (eqb b 45)
      (λ v q u f. let z : k ≡ 4 = omega (arith, ltb-false k 4 l) in year_dash b k year v z (f z) (date_left (Month year 0 0) (at + 1) s r q (lit≤ tt)))
      (λ _ q. dead_not q))
      (next (Year k year) at b s q)
  date_left (Month year k from) at (b ∷ s) h q =
      let r = (both (is_run b) (every is_run s) h).1 in
      out (ltb k 3)
      (λ l. out (ltb 0 (month_on from k (upper b) 12))
      (λ v q _. month_letter b year k from (ltb-true k 3 l) (ltb-true 0 (month_on from k (upper b) 12) v) (date_left (Month year (k + 1) (month_on from k (upper b) 12)) (at + 1) s r q))
      (λ _ q. dead_not q))
      (λ l. out (eqb b 45)
      (λ v q u. let z : k ≡ 3 = omega (arith, ltb-false k 3 l) in let d = date_left (Day (month_number year from) false) (at + 1) s r q in month_dash b year k from v z d.0 d.1)
      (λ _ q. dead_not q))
      (next (Month year k from) at b s q)
  date_left (Day known nought) at (b ∷ s) h q =
      let r = (both (is_run b) (every is_run s) h).1 in
      out (eqb b 49)
      (λ v q. let w = nothing_left known (at + 1) s r q in (w.1, rw (eqb-true b 49 v, w.0) (one_left nought)))
      (λ _. zero_left nought (date_left (Day known true) (at + 1) s r))
      (next (Day known nought) at b s q)
    where
      zero_left : (z : Bool) → (Leads ps month (Date start minus n (Day known true)) (at + 1) s → DateLeft (Day known true) month s) → Leads ps month (cond (not z && eqb b 48) (Date start minus n (Day known true)) (Dead start)) (at + 1) s → DateLeft (Day known z) month (b ∷ s)
      zero_left true f q = dead_not q
      zero_left false f q = out (eqb b 48) (λ v q. let d = f q in (d.0, rw (eqb-true b 48 v) (behind_zero d.1))) (λ _ q. dead_not q) q

  pub date_read : (at : ℕ) (s : List ℕ) (start' : ℕ) (minus' : Bool) (n' : ℕ) → Row is_run s → (run (Date start minus n (Year 0 0)) ps at s).mode ≡ Done start' minus' n' month → G.Date month (64 ∷ s)
  date_read at s start' minus' n' h e = whole_date 64 refl (date_left (Year 0 0) at s h (record { start = start'; minus = minus'; n = n'; leads = e }) (lit≤ tt) (λ z. absurd (omega arith)))
