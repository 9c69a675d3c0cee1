-- No room, or the text placed.
use native.Mathlib.Omega.{arith}
use Rattle.digits.proofs.Bytes.{room_yes, room_no}
use Rattle.digits.proofs.append.Goals as goal

pub returns-then-out-at : goal.returns-then-out-at
returns-then-out-at c =
    let a = c.args in room_no a.out.now a.at a.text.now (omega arith) (omega arith)

pub returns-then-out-at-2 : goal.returns-then-out-at-2
returns-then-out-at-2 c =
    let a = c.args in room_no a.out.now a.at a.text.now (omega arith) (omega arith)

pub returns : goal.returns
returns c =
    let a = c.args in
    room_yes a.out.now a.at a.text.now (omega arith) c.put.ensures
