-- `stamp::Scale::instant_on` meets its contract: each test, and past them the instant with its mark.
use mathlib.Core.Path.{◌≡◌, refl, sym, ap, ap₂, ◌∙◌}
use mathlib.Core.Bool.{true, ◌&&◌}
use Prim.Native.Nat.{ℕ, ◌+◌, ◌*◌, ◌≤◌, ◌<◌}
use borrow.Author.Rules.{rules, sfits_of}
use borrow.Author.Tests.{le-leb, lt-leb}
use lib.Dec.{leb}
use lib.IntN.{ℤ}
use mir.Syntax.{w32, w64}
use mir.Val.{SFits}
use mir.Facts.{to_z-of_z}
use Rattle.std.specs.Prelude.{Result, Ok, Err}
use Rattle.answer.specs.declared.Refusal.{Refusal}
use Rattle.laws.proofs.Branches.{and_no, and_rest}
use Rattle.laws.proofs.Cases.{join}
use Rattle.laws.proofs.Machine.{read1}
use Rattle.answer.specs.declared.Refusal.TheVariants.{Range as RANGE}
use Rattle.answer.proofs.Orders.{refused, passed}
use Rattle.labels.specs.Seconds.{axis_at, first_day, last_day}
use Rattle.answer.specs.declared.Marked.{Marked}
use Rattle.answer.specs.Marks.{marked}
use Rattle.stamp.specs.Scales.{to_instant}
use Rattle.stamp.specs.Days.{longest, instant_after, instant_on}
use Rattle.stamp.specs.Marks.{beyond_on}
use Rattle.stamp.proofs.Scale.instant_on.Goals as goal
use Rattle.stamp.proofs.Scale.instant_on.Goals.{Start, then-number-lt-FIRST_DAY-via-then-number-lt-FIRST_DAY, then-number-lt-FIRST_DAY-via-else-number-lt-FIRST_DAY+then-number-gt-LAST_DAY, then-number-lt-FIRST_DAY-via-else-number-lt-FIRST_DAY+else-number-gt-LAST_DAY+then-micro-gt-LONGEST}

module _ (c : goal.Start) where
  abbrev number : ℕ
  number = c.args.day.number

  answer : Result ℤ Refusal
  answer = instant_on c.args.self c.args.day c.args.micro

  -- an answer with the mark of its day
  abbrev of_day : Result ℤ Refusal → Marked ℤ
  of_day a = marked a (beyond_on c.args.vouched c.args.self c.args.day.month)

  early : number < first_day → Err RANGE ≡ answer
  unfolding answer instant_on
  early h = refused _ _ (sym (and_no _ (lt-leb _ _ h)))

  late : first_day ≤ number → last_day < number → Err RANGE ≡ answer
  unfolding answer instant_on
  late l h = refused _ _ (sym (and_rest (le-leb _ _ l) (sym (lt-leb _ _ h))))

  module _ (l : first_day ≤ number) (h : number ≤ last_day) where
    years : (leb first_day number && leb number last_day) ≡ true
    years = join (le-leb _ _ l) (le-leb _ _ h)

    long : longest < c.args.micro → Err RANGE ≡ answer
    unfolding answer instant_on
    long q = passed _ years (refused _ _ (lt-leb _ _ q))

    fine : c.args.micro ≤ longest → Ok (instant_after c.args.self c.args.day c.args.micro) ≡ answer
    unfolding answer instant_on
    fine q = passed _ years (passed _ (le-leb _ _ q) refl)

pub returns-then-number-lt-FIRST_DAY : goal.returns-then-number-lt-FIRST_DAY
unfolding answer
returns-then-number-lt-FIRST_DAY c =
    let s = (goal.at.returns-then-number-lt-FIRST_DAY c).Start in
    let outside : Err RANGE ≡ answer s =
    elim c.then-number-lt-FIRST_DAY.branch [
      | then-number-lt-FIRST_DAY-via-then-number-lt-FIRST_DAY w ↦ early s w.if-number-lt-FIRST_DAY.true
      | then-number-lt-FIRST_DAY-via-else-number-lt-FIRST_DAY+then-number-gt-LAST_DAY w ↦ late s w.if-number-lt-FIRST_DAY.false w.if-number-gt-LAST_DAY.true
      | then-number-lt-FIRST_DAY-via-else-number-lt-FIRST_DAY+else-number-gt-LAST_DAY+then-micro-gt-LONGEST w ↦ long s w.if-number-lt-FIRST_DAY.false w.if-number-gt-LAST_DAY.false w.if-micro-gt-LONGEST.true
    ] in
    c.refused_instant.ensures ∙ ap (of_day s) outside

pub returns : goal.returns
unfolding answer
returns c =
    let s = (goal.at.returns c).Start in
    let offset : SFits w32 c.args.day.offset = search rules in
    c.new.ensures
    ∙ ap₂ marked (ap Ok (to_z-of_z {w = w64} (sfits_of c.instant-instant.type_inv) ∙ read1 (λ (z : ℤ). to_instant c.args.self (axis_at (86400000000 * number s + c.args.micro) z)) offset c.instant-instant.ensures)) c.beyond_on.ensures
    ∙ ap (of_day s) (fine s c.if-number-lt-FIRST_DAY.false c.if-number-gt-LAST_DAY.false c.if-micro-gt-LONGEST.false)
