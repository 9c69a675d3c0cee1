-- What the digits passed give, and those to come, is the whole.
use Rattle.std.proofs.Common.{◌≡◌, ◌≤◌, drop}
use Rattle.digits.specs.Decimals.{decimal_of}
use Rattle.digits.proofs.Decimals.{judged}
use Rattle.digits.proofs.decimal.Given as goal

abbrev pub invariant-loop-b : goal.invariant-loop-b
invariant-loop-b l = (l.n ≤ l.most) × (judged l.most l.n (drop l.b-index l.word) ≡ decimal_of l.most l.word)
