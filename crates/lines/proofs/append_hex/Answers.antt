-- `-` for none, or two digits for each byte where there is room.
use native.Mathlib.Omega.{arith}
use Prim.Native.Nat.{◌+◌, ◌*◌}
use mathlib.Core.Path.{sym, ◌∙◌}
use borrow.Author.Tests.{eqb-true, eqb-false}
use lib.ListN.{length}
use Rattle.digits.proofs.Bytes.{same_text, room_yes, room_no}
use Rattle.lines.specs.Pairs.{hex_text}
use Rattle.lines.proofs.Pairs.{hex_length, hex_some, hex_none}
use Rattle.lines.proofs.append_hex.Goals as goal

pub returns-then-is_empty : goal.returns-then-is_empty
returns-then-is_empty c =
    let a = c.args in
    same_text a.out.now a.at c.append.result (hex_none a.bytes.now (eqb-true _ 0 (sym c.is_empty.ensures ∙ c.if-is_empty.true))) c.append.ensures

pub returns-then-out-at : goal.returns-then-out-at
returns-then-out-at c =
    let a = c.args in
    let n = hex_length a.bytes.now in
    same_text a.out.now a.at (length a.out.now) (hex_some a.bytes.now (eqb-false _ 0 (sym c.is_empty.ensures ∙ c.if-is_empty.false))) (room_no a.out.now a.at (hex_text a.bytes.now) (omega arith) (omega arith))

pub returns-then-out-at-2 : goal.returns-then-out-at-2
returns-then-out-at-2 c =
    let a = c.args in
    let n = hex_length a.bytes.now in
    same_text a.out.now a.at a.at (hex_some a.bytes.now (eqb-false _ 0 (sym c.is_empty.ensures ∙ c.if-is_empty.false))) (room_no a.out.now a.at (hex_text a.bytes.now) (omega arith) (omega arith))

pub returns : goal.returns
returns c =
    let a = c.args in
    let n = hex_length a.bytes.now in
    same_text a.out.now a.at (a.at + length a.bytes.now * 2) (hex_some a.bytes.now (eqb-false _ 0 (sym c.is_empty.ensures ∙ c.if-is_empty.false)))
    (rw n at (room_yes a.out.now a.at (hex_text a.bytes.now) (omega arith) c.put_hex.ensures))
