-- `julian::read_in` meets its contract: the pair's tests in their order, and then the day and its microsecond.
use Rattle.std.specs.Prelude.{Result}
use lib.IntN.{ℤ}
use Rattle.answer.specs.declared.Refusal.{Refusal}
use Rattle.std.proofs.Common.{◌≡◌, ℕ, ◌*◌, ◌^◌, ◌<◌, ◌≤◌, Bool, true, false, sym, ap, ◌∙◌, ap₂, arith, le-ltb, lt-ltb}
use Rattle.answer.proofs.Orders.{passed}
use Rattle.leap.specs.declared.Table.{Table}
use Rattle.labels.specs.Labels.{Offsets}
use Rattle.labels.specs.Lengths.{day_micros}
use Rattle.labels.proofs.Lengths.{day_range}
use Rattle.answer.specs.declared.Marked.{Marked}
use Rattle.answer.specs.Marks.{marked}
use Rattle.stamp.specs.declared.DayStart.{DayStart}
use Rattle.stamp.specs.declared.DaySpan.{DaySpan}
use Rattle.stamp.specs.Scales.{offsets_of}
use Rattle.stamp.specs.Days.{day_start, day_on}
use Rattle.stamp.specs.Marks.{instant_on_marked}
use Rattle.stamp.proofs.Days.{on_day}
use Rattle.fraction.specs.Fraction.{is_fraction, is_half, nearest_at, nearest_of}
use Rattle.fraction.proofs.Fraction.{below_one, nearest_at_lem}
use Rattle.julian.specs.declared.JulianDate.{JulianDate}
use Rattle.julian.specs.Midnight.{midnight_in_years, day_number}
use Rattle.julian.specs.Dates.{nearest_in, same_day, day_read, micro_read, read_in}
use Rattle.julian.specs.Marks.{beyond_read, read_in_marked}
use Rattle.julian.proofs.Dates.{read_same, read_next, read_less, read_since}
use Rattle.julian.proofs.read_in.Goals as goal
use Rattle.julian.proofs.read_in.Goals.{Start}

-- ---- an answer's mark is beside it

module _ (c : goal.Start) where
  abbrev table : Table
  table = c.args.t.now

  abbrev o : Offsets
  o = offsets_of table c.args.scale

  abbrev p : JulianDate
  p = c.args.date

  abbrev mark : Bool
  mark = beyond_read table c.args.scale p

  told : {a : Result ℤ Refusal} {m : Marked ℤ} → m ≡ marked a mark → a ≡ read_in table c.args.scale p → m ≡ read_in_marked table c.args.scale p
  told e f = e ∙ ap (λ a. marked a mark) f

  -- past the pair's own tests, the instant of what is read
  answered : is_half p.midnight ≡ true → is_fraction p.fraction ≡ true → midnight_in_years p.midnight ≡ true
      → {b : DayStart} {u : ℕ} {m : Marked ℤ} → m ≡ instant_on_marked c.args.t.now.vouched c.args.scale b u → b ≡ day_start o (day_read o p) → u ≡ micro_read o p → m ≡ read_in_marked table c.args.scale p
  answered one two three e f g =
      told (e ∙ ap₂ (instant_on_marked c.args.t.now.vouched c.args.scale) f g)
      (passed _ one
      (passed _ two
      (passed _ three (on_day c.args.scale (day_start o (day_read o p)) (micro_read o p) (read_since o p three) (omega (arith, read_less o p, day_range o (day_read o p)))))))

-- ---- the day and its microsecond

days_are : (o : Offsets) (p : JulianDate) {x : DaySpan} {d : ℕ} → x ≡ day_on o d → d ≡ day_number p.midnight → x ≡ day_on o (day_number p.midnight)
days_are o p e f = e ∙ ap (day_on o) f

module _ (o : Offsets) (p : JulianDate) (two : is_fraction p.fraction ≡ true) (x : DaySpan) (days : x ≡ day_on o (day_number p.midnight)) (u : ℕ) (e : u ≡ nearest_at (15625 * x.seconds) 6 p.fraction) where
  length_is : 1000000 * x.seconds ≡ day_micros o (day_number p.midnight)
  length_is = ap (λ (d : DaySpan). 1000000 * d.seconds) days

  micro_is : u ≡ nearest_in o p
  micro_is =
      let n = x.seconds in
      let few : n ≤ 86401 = omega (arith, ap (λ (d : DaySpan). d.seconds) days, day_range o (day_number p.midnight)) in
      let whole : 15625 * n * 2 ^ 6 ≡ 1000000 * n = omega arith in
      e
      ∙ nearest_at_lem (15625 * n) 6 p.fraction (below_one p.fraction two) (omega arith) (omega arith)
      ∙ ap (λ (w : ℕ). nearest_of w p.fraction) (whole ∙ length_is)

  -- the code's test is the definition's
  is_same : u < 1000000 * x.seconds → same_day o p ≡ true
  is_same h = lt-ltb (nearest_in o p) (day_micros o (day_number p.midnight)) (omega (arith, micro_is, length_is))

  is_next : 1000000 * x.seconds ≤ u → same_day o p ≡ false
  is_next h = le-ltb (nearest_in o p) (day_micros o (day_number p.midnight)) (omega (arith, micro_is, length_is))

pub returns-then-micro-seconds : goal.returns-then-micro-seconds
returns-then-micro-seconds c =
    let s = (goal.at.returns-then-micro-seconds c).Start in
    let one : is_half c.args.date.midnight ≡ true = sym c.is_half.ensures ∙ c.if-not-is_half.false in
    let two : is_fraction c.args.date.fraction ≡ true = sym c.is_fraction.ensures ∙ c.if-not-is_fraction.false in
    let three : midnight_in_years c.args.date.midnight ≡ true = sym c.in_years.ensures ∙ c.if-not-in_years.false in
    let days : c.day_on-days.result ≡ day_on (o s) (day_number (p s).midnight) = days_are (o s) (p s) c.day_on-days.ensures c.day_number.ensures in
    let q = read_same (o s) (p s) (is_same (o s) (p s) two c.day_on-days.result days c.nearest_of-micro.result c.nearest_of-micro.ensures c.if-micro-seconds.true) in
    answered s one two three c.instant_on.ensures (ap (λ (d : DaySpan). d.this) days ∙ ap (day_start (o s)) (sym q.0)) (micro_is (o s) (p s) two c.day_on-days.result days c.nearest_of-micro.result c.nearest_of-micro.ensures ∙ sym q.1)

pub returns-else-micro-seconds : goal.returns-else-micro-seconds
returns-else-micro-seconds c =
    let s = (goal.at.returns-else-micro-seconds c).Start in
    let one : is_half c.args.date.midnight ≡ true = sym c.is_half.ensures ∙ c.if-not-is_half.false in
    let two : is_fraction c.args.date.fraction ≡ true = sym c.is_fraction.ensures ∙ c.if-not-is_fraction.false in
    let three : midnight_in_years c.args.date.midnight ≡ true = sym c.in_years.ensures ∙ c.if-not-in_years.false in
    let days : c.day_on-days.result ≡ day_on (o s) (day_number (p s).midnight) = days_are (o s) (p s) c.day_on-days.ensures c.day_number.ensures in
    let q = read_next (o s) (p s) (is_next (o s) (p s) two c.day_on-days.result days c.nearest_of-micro.result c.nearest_of-micro.ensures c.if-micro-seconds.false) in
    answered s one two three c.instant_on-else-micro-seconds.ensures (ap (λ (d : DaySpan). d.next) days ∙ ap (day_start (o s)) (sym q.0)) (sym q.1)
