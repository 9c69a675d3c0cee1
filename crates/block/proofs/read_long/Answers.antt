-- `block::read_long` meets its contract: two groups, or three.
use native.Mathlib.Omega.{arith}
use Rattle.std.proofs.lemmas.List.{take_rest}
use Rattle.block.proofs.Long.{none, two_zero, two, three_none, three_zero, four, three_groups}
use Rattle.block.proofs.read_long.Goals as goal

pub returns-in-empty : goal.returns-in-empty
returns-in-empty c = none _ c.args.s.now (omega arith)

pub returns-in-0 : goal.returns-in-0
returns-in-0 c = two_zero _ c.args.s.now (omega arith) (omega arith)

pub returns-in-0-to-127 : goal.returns-in-0-to-127
returns-in-0-to-127 c = two _ c.args.s.now (omega arith) (omega arith) (omega arith) (λ z. omega (arith, z)) (omega (arith, c.group.ensures)) c.group-in-0-to-127.ensures

pub returns-in-empty-rest : goal.returns-in-empty-rest
returns-in-empty-rest c = three_none _ c.args.s.now (omega arith) (omega arith) (take_rest c.args.s.now 1) (omega arith)

pub returns-in-0-rest : goal.returns-in-0-rest
returns-in-0-rest c = three_zero _ c.args.s.now (omega arith) (omega arith) (take_rest c.args.s.now 1) (omega arith) (omega arith)

pub returns-in-0-rest-2 : goal.returns-in-0-rest-2
returns-in-0-rest-2 c = four _ c.args.s.now (omega arith) (omega arith) (take_rest c.args.s.now 1) (omega arith) (omega arith)

pub returns-in-len1-up-rest : goal.returns-in-len1-up-rest
returns-in-len1-up-rest c =
    three_groups _ c.args.s.now (omega arith) (omega arith) (take_rest c.args.s.now 1) (omega arith) (omega arith) (omega arith) (λ z. omega (arith, z)) (omega (arith, c.group-in-len1-up-rest.ensures)) c.group-in-len1-up-rest-2.ensures c.group-in-len1-up-rest-3.ensures
