-- No room, or a front of the piece that has room.
use native.Mathlib.Omega.{arith}
use Rattle.lines.proofs.Cuts.{held_full, held_more}
use Rattle.lines.proofs.hold.Goals as goal

pub returns-then-line-held : goal.returns-then-line-held
returns-then-line-held c =
    let a = c.args in held_full a.line.now a.held a.piece.now (omega arith)

pub returns : goal.returns
returns c =
    let a = c.args in
    held_more a.line.now a.held a.piece.now (omega arith) c.front-n.ensures.value c.append.ensures
