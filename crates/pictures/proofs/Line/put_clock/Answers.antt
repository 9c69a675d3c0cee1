-- Its texts, one behind another.
use mathlib.Core.List.{append_assoc}
use Rattle.pictures.proofs.Line.put_clock.Goals as goal

pub returns : goal.returns
returns c =
    simp (c.put_number-4.ensures, c.put-3.ensures, c.put_number-3.ensures, c.put-2.ensures, c.put_number-2.ensures, c.put.ensures, c.put_number.ensures, append_assoc)
