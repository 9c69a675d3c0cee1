-- `stamp::Scale::instant_judged` meets its contract: the second is asked, and past it stands the reading's instant.
use mathlib.Core.Path.{◌≡◌, sym, ap, ap₂, ◌∙◌}
use Prim.Native.Nat.{ℕ, ◌+◌}
use native.Mathlib.Omega.{arith}
use borrow.Author.Rules.{rules, sfits_of}
use lib.IntN.{ℤ}
use mir.Syntax.{w32, w64}
use mir.Val.{SFits, to_z, of_z}
use mir.Facts.{to_z-of_z}
use Rattle.std.specs.Prelude.{Ok}
use Rattle.laws.proofs.Machine.{read1, read2}
use Rattle.answer.proofs.Orders.{refused, passed}
use Rattle.leap.specs.declared.OffsetPair.{OffsetPair}
use Rattle.months.specs.Months.{month_length, days_before}
use Rattle.months.proofs.Laws.{days_most, length_most}
use Rattle.labels.specs.declared.Month.{Month}
use Rattle.labels.specs.Labels.{Offsets, month_of, minute_in, minute_length}
use Rattle.labels.specs.Seconds.{axis_at, micro_of}
use Rattle.labels.proofs.Facts.{second_no, second_yes}
use Rattle.stamp.specs.Scales.{offsets_of, most_second, to_instant, instant_for}
use Rattle.stamp.proofs.Scales.{most_sixty}
use Rattle.labels.proofs.Judging.{Fields, judged_fields}
use Rattle.stamp.proofs.Scale.instant_judged.Goals as goal
use Rattle.stamp.proofs.Scale.instant_judged.Goals.{Start}

module _ (c : goal.Start) where
  abbrev o : Offsets
  o = offsets_of c.args.t.now c.args.self

  given : Fields (most_second c.args.self) c.args.r c.args.month
  given = judged_fields (most_second c.args.self) c.args.r c.args.month c.requires

  number_is : c.args.month.number ≡ month_of c.args.r.label
  number_is = sym (ap (λ (m : Month). m.number) given.month_is_lem)

  days_are : c.args.month.days ≡ month_length (month_of c.args.r.label)
  days_are = sym (ap (λ (m : Month). m.days) given.month_is_lem)

-- the seconds of the label's minute: the two offsets reach the callee by their bits
minute_is : (s : goal.Start) {n : ℕ} {p : OffsetPair} → SFits w32 p.here → SFits w32 p.next → n ≡ minute_in s.args.month.days (to_z w32 (of_z w32 p.here)) (to_z w32 (of_z w32 p.next)) s.args.r.label
    → (p.here ≡ o s s.args.month.number) × (p.next ≡ o s (s.args.month.number + 1)) → n ≡ minute_length (o s) s.args.r.label
minute_is s f g h e =
    let l = s.args.r.label in
    read2 (λ (x z : ℤ). minute_in s.args.month.days x z l) f g h
    ∙ ap₂ (λ (x z : ℤ). minute_in s.args.month.days x z l) e.0 e.1
    ∙ ap₂ (λ (d m : ℕ). minute_in d (o s m) (o s (m + 1)) l) (days_are s) (number_is s)

-- and so does the instant come back
instant_told : (s : goal.Start) {i z : ℤ} {n : ℕ} → SFits w64 i → SFits w32 z → i ≡ to_instant s.args.self (axis_at n (to_z w32 (of_z w32 z))) → n ≡ micro_of s.args.r → z ≡ o s s.args.month.number
    → to_z w64 (of_z w64 i) ≡ instant_for s.args.t.now s.args.self s.args.r
instant_told s {n = n} f g h p q =
    to_z-of_z f
    ∙ read1 (λ (x : ℤ). to_instant s.args.self (axis_at n x)) g h
    ∙ ap₂ (λ (u : ℕ) (x : ℤ). to_instant s.args.self (axis_at u x)) p (q ∙ ap (o s) (number_is s))

pub returns-then-minute_length-l : goal.returns-then-minute_length-l
returns-then-minute_length-l c =
    let s = (goal.at.returns-then-minute_length-l c).Start in
    let here : SFits w32 c.near-near.result.here = search rules in
    let next : SFits w32 c.near-near.result.next = search rules in
    refused _ _ (second_no (o s) c.args.r.label (minute_is s here next c.minute_length.ensures c.near-near.ensures) c.if-minute_length-l.true)

pub micro_of-requires : goal.micro_of-requires
micro_of-requires c =
    let s = (goal.at.micro_of-requires c).Start in
    let g = given s in
    let m = month_of c.args.r.label in
    let d : c.days_before.result ≡ days_before m = c.days_before.ensures ∙ ap days_before (number_is s) in
    record {
      start_value = (d, omega (arith, days_most m, g.years, g.months));
      le_day = (g.days.0, (omega (arith, g.days, length_most m), (g.clock.hour_high, (g.clock.minute_high, (omega (arith, g.clock.second_most, most_sixty c.args.self), g.clock.micro_high)))));
    }

pub returns : goal.returns
returns c =
    let s = (goal.at.returns c).Start in
    let here : SFits w32 c.near-near.result.here = search rules in
    let next : SFits w32 c.near-near.result.next = search rules in
    passed _ (second_yes (o s) c.args.r.label (minute_is s here next c.minute_length.ensures c.near-near.ensures) c.if-minute_length-l.false)
    (ap Ok (instant_told s (sfits_of c.instant.type_inv) here c.instant.ensures c.micro_of.ensures.0 c.near-near.ensures.0))
