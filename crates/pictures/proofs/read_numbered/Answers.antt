use mathlib.Core.Path.{refl, ap, ap₂}
use mathlib.Core.List.{List}
use Prim.Native.Nat.{ℕ}
use native.Mathlib.Omega.{arith}
use Rattle.std.specs.Prelude.{Some, None}
use Rattle.laws.proofs.Branches.{cond_yes}
use Rattle.digits.specs.Decimals.{number_at}
use Rattle.pictures.specs.declared.Date.TheVariants.{Numbered}
use Rattle.pictures.specs.Reading.{has_picture, in_full, numbered_pattern, read_numbered}
use Rattle.pictures.proofs.Patterns.{digits_at, numbers_at, not_found, has_it, is_full, is_alike, is_short, fields_from}
use Rattle.pictures.proofs.read_numbered.Goals as goal

pub returns-in_err-t : goal.returns-in_err-t
unfolding read_numbered
returns-in_err-t c = rw (not_found (has_picture numbered_pattern 19 c.args.text.now) (in_full numbered_pattern c.args.text.now) c.in_err-t.ensures) c.from_residual.ensures

pub number_at-requires-clause-all : goal.number_at-requires-clause-all
number_at-requires-clause-all c = digits_at numbered_pattern 5 2 refl (is_alike numbered_pattern 19 c.args.text.now c.in_ok-t.ensures)

pub number_at-requires-2-clause-all : goal.number_at-requires-2-clause-all
number_at-requires-2-clause-all c = digits_at numbered_pattern 8 2 refl (is_alike numbered_pattern 19 c.args.text.now c.in_ok-t.ensures)

pub fields_in-requires-clause-numbers : goal.fields_in-requires-clause-numbers
fields_in-requires-clause-numbers c = numbers_at numbered_pattern 11 refl refl refl refl refl (is_alike numbered_pattern 19 c.args.text.now c.in_ok-t.ensures)

pub fields_in-requires-clause-short : goal.fields_in-requires-clause-short
fields_in-requires-clause-short c = omega (arith, is_short numbered_pattern 19 c.args.text.now c.in_ok-t.ensures)

pub returns : goal.returns
unfolding read_numbered
returns c =
    let g = is_full numbered_pattern 19 c.args.text.now c.in_ok-t.ensures in
    cond_yes None (has_it numbered_pattern 19 c.args.text.now c.in_ok-t.ensures) (ap Some (fields_from 11 (λ (x : List ℕ). Numbered (number_at x 5 2) (number_at x 8 2)) c.fields_in.ensures refl (ap₂ Numbered c.number_at.ensures c.number_at-2.ensures) g))
