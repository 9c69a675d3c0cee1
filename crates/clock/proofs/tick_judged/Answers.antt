-- `clock::tick_judged` meets its contract: the second is asked, and past it stands the rule.
use mathlib.Core.Path.{◌≡◌, sym, ap, ap₂, ◌∙◌}
use Prim.Native.Nat.{ℕ, ◌+◌}
use native.Mathlib.Omega.{arith}
use borrow.Author.Rules.{rules}
use mir.Syntax.{w32}
use mir.Val.{SFits}
use mir.Facts.{to_z-of_z}
use Rattle.answer.proofs.Orders.{refused, passed}
use Rattle.months.specs.Months.{month_length}
use Rattle.leap.specs.Leap.{offset_at}
use Rattle.labels.specs.declared.Month.{Month}
use Rattle.labels.specs.Labels.{Offsets, whole, month_of, minute_in, minute_length}
use Rattle.labels.proofs.Facts.{second_no, second_yes}
use Rattle.labels.proofs.Judging.{Fields, judged_fields}
use Rattle.clock.specs.Clock.{next}
use Rattle.clock.proofs.tick_judged.Goals as goal
use Rattle.clock.proofs.tick_judged.Goals.{After-minute_length-seconds}

module _ (c : goal.After-minute_length-seconds) where
  abbrev o : Offsets
  o = offset_at c.args.t.now

  given : Fields 60 (whole c.args.l) c.args.month
  given = judged_fields 60 (whole c.args.l) c.args.month c.requires

  number_is : c.args.month.number ≡ month_of c.args.l
  number_is = sym (ap (λ (m : Month). m.number) given.month_is_lem)

  days_are : c.args.month.days ≡ month_length (month_of c.args.l)
  days_are = sym (ap (λ (m : Month). m.days) given.month_is_lem)

  minute_is : c.minute_length-seconds.result ≡ minute_length o c.args.l
  minute_is =
      let here : SFits w32 c.near_end-near.result.here = search rules in
      let after : SFits w32 c.near_end-near.result.next = search rules in
      simp to_z-of_z at c.minute_length-seconds.ensures
      ∙ c.near_end-near.ensures
      ∙ ap₂ (λ (d m : ℕ). minute_in d (o m) (o (m + 1)) c.args.l) days_are number_is

pub returns-then-seconds-l : goal.returns-then-seconds-l
returns-then-seconds-l c =
    let m = (goal.at.returns-then-seconds-l c).After-minute_length-seconds in
    refused _ _ (second_no (o m) c.args.l (minute_is m) (omega arith))

pub next-requires : goal.next-requires
next-requires c = (given (goal.at.next-requires c).After-minute_length-seconds).clock.second_most

pub returns : goal.returns
returns c =
    let m = (goal.at.returns c).After-minute_length-seconds in
    passed _ (second_yes (o m) c.args.l (minute_is m) (omega arith)) (c.next.ensures ∙ ap₂ (λ (d n : ℕ). next d n c.args.l) (days_are m) (minute_is m))
