-- `block::read_any` meets its contract: a number of one group, or of more.
use mathlib.Core.Path.{sym, ap, ◌∙◌}
use Prim.Native.Nat.{ℕ, ◌%◌}
use lib.ListN.{get_or}
use native.Mathlib.Omega.{arith}
use Rattle.std.specs.Prelude.{Ok}
use Rattle.std.proofs.lemmas.List.{take_rest}
use Rattle.block.specs.Reading.{above, read_groups}
use Rattle.block.proofs.Numbers.{at_end, at_last, at_more}
use Rattle.block.proofs.read_any.Goals as goal

pub returns-in-empty : goal.returns-in-empty
returns-in-empty c = sym (at_end c.args.s.now 2 (omega arith))

pub returns-in-0-to-127 : goal.returns-in-0-to-127
returns-in-0-to-127 c = ap (λ (n : ℕ). Ok (n, 1)) (omega (arith, c.group.ensures)) ∙ sym (at_last c.args.s.now 2 (omega arith) (omega arith))

pub returns-in-len1-up : goal.returns-in-len1-up
returns-in-len1-up c = c.read_long.ensures ∙ ap (λ r. above (get_or c.args.s.now 0 0 % 128) (read_groups 2 r)) (take_rest c.args.s.now 1) ∙ sym (at_more c.args.s.now 2 (omega arith) (omega arith))
