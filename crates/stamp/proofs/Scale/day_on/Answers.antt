-- `stamp::Scale::day_on` meets its contract: the calendar read once, and the table walked once.
use mathlib.Core.Path.{◌≡◌, ap, ap₂, ◌∙◌}
use Prim.Native.Nat.{ℕ, ◌+◌}
use native.Mathlib.Omega.{arith}
use borrow.Author.Rules.{rules}
use lib.Dec.{eqb}
use mir.Syntax.{w32}
use mir.Val.{SFits, to_z, of_z}
use mir.Facts.{to_z-of_z}
use Rattle.months.specs.Months.{days_before}
use Rattle.months.proofs.Laws.{days_next, length_most}
use Rattle.calendar.specs.declared.Span.{Span}
use Rattle.calendar.specs.Days.{month_of_day}
use Rattle.calendar.proofs.Days.{in_month}
use Rattle.labels.specs.Labels.{Offsets}
use Rattle.labels.specs.Lengths.{seconds_in, day_seconds}
use Rattle.stamp.specs.Days.{day_start}
use Rattle.stamp.specs.Parts.{day_after}
use Rattle.stamp.specs.Scales.{offsets_of}
use Rattle.stamp.proofs.Days.{day_behind}
use Rattle.stamp.proofs.Scale.day_on.Goals as goal
use Rattle.stamp.proofs.Scale.day_on.Goals.{After-month_of_day-span, Start}

module _ (c : goal.Start) where
  abbrev o : Offsets
  o = offsets_of c.args.t.now c.args.self

  abbrev d : ℕ
  d = c.args.day

  abbrev m : ℕ
  m = month_of_day c.args.day

module _ (c : goal.After-month_of_day-span) where
  number_is : c.month_of_day-span.result.number ≡ m c.before
  number_is = ap (λ (x : Span). x.number) c.month_of_day-span.ensures

  end_is : c.month_of_day-span.result.start + c.month_of_day-span.result.length ≡ days_before (m c.before + 1)
  end_is =
      omega (arith, ap (λ (x : Span). x.start) c.month_of_day-span.ensures, ap (λ (x : Span). x.length) c.month_of_day-span.ensures, days_next (m c.before))

pub overflow_add-last-2 : goal.overflow_add-last-2
overflow_add-last-2 c =
    let s = (goal.at.overflow_add-last-2 c).Start in
    record { fits = omega (arith, end_is (goal.at.overflow_add-last-2 c).After-month_of_day-span, days_next (m s), length_most (m s), in_month (d s)) }

pub returns : goal.returns
returns c =
    let s = (goal.at.returns c).Start in
    let span = (goal.at.returns c).After-month_of_day-span in
    let here-fits : SFits w32 c.near-near.result.here = search rules in
    let next-fits : SFits w32 c.near-near.result.next = search rules in
    let here : to_z w32 (of_z w32 c.near-near.result.here) ≡ o s (m s) = to_z-of_z here-fits ∙ c.near-near.ensures.0 ∙ ap (o s) (number_is span) in
    let next : to_z w32 (of_z w32 c.near-near.result.next) ≡ o s (m s + 1) = to_z-of_z next-fits ∙ c.near-near.ensures.1 ∙ ap (λ (k : ℕ). o s (k + 1)) (number_is span) in
    let told : c.day_after-next.result ≡ day_after (day_start (o s) (d s)) (eqb (d s + 1) (days_before (m s + 1))) (o s (m s + 1)) = c.day_after-next.ensures ∙ cc (here, next, end_is span, number_is span) in
    let behind : c.day_after-next.result ≡ day_start (o s) (d s + 1) = told ∙ day_behind (o s) (d s) in
    let seconds : c.day_seconds.result ≡ day_seconds (o s) (d s) =
    c.day_seconds.ensures
    ∙ ap (λ (n : ℕ). seconds_in (eqb (d s + 1) n) (to_z w32 (of_z w32 c.near-near.result.here)) (to_z w32 (of_z w32 c.near-near.result.next))) (end_is span)
    ∙ ap₂ (seconds_in (eqb (d s + 1) (days_before (m s + 1)))) here next in
    cc (here, number_is span, seconds, behind)
