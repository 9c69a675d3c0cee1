use mathlib.Core.Path.{refl, ap}
use mathlib.Core.List.{List}
use Prim.Native.Nat.{ℕ}
use native.Mathlib.Omega.{arith}
use Rattle.std.specs.Prelude.{Some, None}
use Rattle.laws.proofs.Branches.{cond_yes}
use Rattle.digits.specs.Decimals.{number_at}
use Rattle.pictures.specs.declared.Date.TheVariants.{OfYear}
use Rattle.pictures.specs.Reading.{has_picture, in_full, of_year_pattern, read_of_year}
use Rattle.pictures.proofs.Patterns.{digits_at, numbers_at, not_found, has_it, is_full, is_alike, is_short, fields_from}
use Rattle.pictures.proofs.read_of_year.Goals as goal

pub returns-in_err-t : goal.returns-in_err-t
unfolding read_of_year
returns-in_err-t c = rw (not_found (has_picture of_year_pattern 17 c.args.text.now) (in_full of_year_pattern c.args.text.now) c.in_err-t.ensures) c.from_residual.ensures

pub number_at-requires-clause-all : goal.number_at-requires-clause-all
number_at-requires-clause-all c = digits_at of_year_pattern 5 3 refl (is_alike of_year_pattern 17 c.args.text.now c.in_ok-t.ensures)

pub fields_in-requires-clause-numbers : goal.fields_in-requires-clause-numbers
fields_in-requires-clause-numbers c = numbers_at of_year_pattern 9 refl refl refl refl refl (is_alike of_year_pattern 17 c.args.text.now c.in_ok-t.ensures)

pub fields_in-requires-clause-short : goal.fields_in-requires-clause-short
fields_in-requires-clause-short c = omega (arith, is_short of_year_pattern 17 c.args.text.now c.in_ok-t.ensures)

pub returns : goal.returns
unfolding read_of_year
returns c =
    let g = is_full of_year_pattern 17 c.args.text.now c.in_ok-t.ensures in
    cond_yes None (has_it of_year_pattern 17 c.args.text.now c.in_ok-t.ensures) (ap Some (fields_from 9 (λ (x : List ℕ). OfYear (number_at x 5 3)) c.fields_in.ensures refl (ap OfYear c.number_at.ensures) g))
