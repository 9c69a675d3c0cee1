-- Each part is found where the one before it ends.
use lib.Dec.{lit<}
use native.Mathlib.Nat.{one-le-pow}
use Rattle.columns.proofs.Fields.{later_low}
use Rattle.columns.proofs.Steps.{too_long, Found, no_digit, not_blank, is_plain}
use Rattle.columns.proofs.decimal_in.Goals as goal
use Rattle.columns.proofs.decimal_in.Goals.{After-past_digits-all, then-whole-first-lt1-via-then-whole-first-lt1, then-whole-first-lt1-via-else-whole-first-lt1+then-past_blanks-s}

module _ (c : goal.After-past_digits-all) where
  found : Found c.args.s.now c.past_blanks-from.result c.past_sign-first.result c.past_digits-whole.result.number c.past_digits-whole.result.end c.past_point-behind.result c.past_digits-all.result.number c.past_digits-all.result.end
  found =
      record {
        short = c.if-s-gt18.false;
        blanks = c.past_blanks-from.ensures.value;
        sign = c.past_sign-first.ensures;
        whole = c.past_digits-whole.ensures;
        point = c.past_point-behind.ensures;
        rest = c.past_digits-all.ensures;
      }

pub returns-then-s-gt18 : goal.returns-then-s-gt18
returns-then-s-gt18 c = too_long _ c.if-s-gt18.true

pub past_digits-whole-requires : goal.past_digits-whole-requires
past_digits-whole-requires c = (c.past_sign-first.ensures.inside, (c.if-s-gt18.false, one-le-pow c.past_sign-first.result 10 (lit< tt)))

pub past_digits-all-requires : goal.past_digits-all-requires
past_digits-all-requires c = (c.past_point-behind.ensures.inside, (c.if-s-gt18.false, later_low c.past_digits-whole.ensures.small c.past_point-behind.ensures.later))

pub returns-then-whole-first-lt1 : goal.returns-then-whole-first-lt1
returns-then-whole-first-lt1 c =
    let f = found (goal.at.returns-then-whole-first-lt1 c).After-past_digits-all in
    elim c.then-whole-first-lt1.branch [
      | then-whole-first-lt1-via-then-whole-first-lt1 w ↦ no_digit f w.if-whole-first-lt1.true
      | then-whole-first-lt1-via-else-whole-first-lt1+then-past_blanks-s w ↦ not_blank f w.past_blanks.ensures.value w.if-past_blanks-s.true
    ]

pub returns : goal.returns
returns c = is_plain (found (goal.at.returns c).After-past_digits-all) c.past_blanks.ensures.value c.if-past_blanks-s.false c.if-whole-first-lt1.false c.byte_at.ensures
