use mathlib.Core.Path.{◌≡◌, refl, ap, ap₂, ◌∙◌}
use mathlib.Core.List.{List}
use Prim.Native.Nat.{ℕ}
use native.Mathlib.Omega.{arith}
use borrow.Author.Tests.{lt-leb, le-leb}
use Rattle.std.specs.Prelude.{Some, None}
use Rattle.laws.proofs.Branches.{cond_yes}
use Rattle.laws.proofs.Cases.{join}
use Rattle.digits.specs.Decimals.{number_at}
use Rattle.pictures.specs.declared.Date.TheVariants.{Named}
use Rattle.pictures.specs.Reading.{has_picture, in_full, named_pattern, month_in, read_named}
use Rattle.pictures.proofs.Patterns.{digits_at, numbers_at, not_found, has_it, is_full, is_alike, is_short, fields_from}
use Rattle.pictures.proofs.read_named.Goals as goal
use Rattle.pictures.proofs.read_named.Goals.{After-month_named-month}

-- the month of the text in full
abbrev named : List ℕ → ℕ
named s = month_in (in_full named_pattern s)

month : (c : goal.After-month_named-month) → c.month_named-month.result ≡ named c.args.text.now
month c = c.month_named-month.ensures ∙ ap month_in (is_full named_pattern 20 c.args.text.now c.in_ok-t.ensures)

pub returns-in_err-t : goal.returns-in_err-t
unfolding read_named
returns-in_err-t c = rw (not_found (has_picture named_pattern 20 c.args.text.now) (in_full named_pattern c.args.text.now) c.in_err-t.ensures) c.from_residual.ensures

pub returns-then-month-lt1 : goal.returns-then-month-lt1
unfolding read_named
returns-then-month-lt1 c =
    let m = month (goal.at.returns-then-month-lt1 c).After-month_named-month in
    rw (has_it named_pattern 20 c.args.text.now c.in_ok-t.ensures, lt-leb 1 (named c.args.text.now) (omega arith)) refl

pub number_at-requires-clause-all : goal.number_at-requires-clause-all
number_at-requires-clause-all c = digits_at named_pattern 9 2 refl (is_alike named_pattern 20 c.args.text.now c.in_ok-t.ensures)

pub fields_in-requires-clause-numbers : goal.fields_in-requires-clause-numbers
fields_in-requires-clause-numbers c = numbers_at named_pattern 12 refl refl refl refl refl (is_alike named_pattern 20 c.args.text.now c.in_ok-t.ensures)

pub fields_in-requires-clause-short : goal.fields_in-requires-clause-short
fields_in-requires-clause-short c = omega (arith, is_short named_pattern 20 c.args.text.now c.in_ok-t.ensures)

pub returns : goal.returns
unfolding read_named
returns c =
    let g = is_full named_pattern 20 c.args.text.now c.in_ok-t.ensures in
    let m = month (goal.at.returns c).After-month_named-month in
    cond_yes None (join (has_it named_pattern 20 c.args.text.now c.in_ok-t.ensures) (le-leb 1 (named c.args.text.now) (omega (arith, c.if-month-lt1.false)))) (ap Some (fields_from 12 (λ (x : List ℕ). Named (month_in x) (number_at x 9 2)) c.fields_in.ensures refl (ap₂ Named c.month_named-month.ensures c.number_at.ensures) g))
