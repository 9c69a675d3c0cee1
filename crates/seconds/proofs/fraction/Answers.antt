-- The digits stand over six zeros.
use mathlib.Core.Path.{ap, ◌∙◌}
use mathlib.Core.List.{List, ◌++◌}
use Prim.Native.Nat.{ℕ}
use lib.ListN.{length, drop}
use Rattle.digits.specs.Bytes.{ascii}
use Rattle.digits.specs.Decimals.{decimal_of}
use native.Mathlib.Omega.{arith}
use Rattle.seconds.proofs.Seconds.{fraction_long, fraction_short}
use Rattle.seconds.proofs.fraction.Goals as goal

pub returns-then-given-gt6 : goal.returns-then-given-gt6
returns-then-given-gt6 c = fraction_long _ (omega arith)

pub returns : goal.returns
returns c =
    let filled = ap (λ (l : List ℕ). decimal_of 999999 (l ++ drop (length c.args.given.now) (ascii "000000"))) c.copy_from_slice.ensures.after in
    c.decimal.ensures ∙ filled ∙ fraction_short c.args.given.now (omega arith)
