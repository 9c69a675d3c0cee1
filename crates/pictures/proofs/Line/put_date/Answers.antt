-- Its texts, one behind another.
use mathlib.Core.List.{append_assoc}
use Rattle.pictures.proofs.Line.put_date.Goals as goal

pub returns-in-Numbered : goal.returns-in-Numbered
returns-in-Numbered c =
    rw c.in-Numbered.is
    (simp (c.put-in-Numbered-2.ensures, c.put_number-in-Numbered-2.ensures, c.put-in-Numbered.ensures, c.put_number-in-Numbered.ensures, c.put.ensures, c.put_number.ensures, append_assoc))

pub returns-in-Named : goal.returns-in-Named
returns-in-Named c =
    rw c.in-Named.is
    (simp (c.put-in-Named-4.ensures, c.put_number-in-Named.ensures, c.put-in-Named-3.ensures, c.put-in-Named-2.ensures, c.month_name.ensures, c.put-in-Named.ensures, c.put_number.ensures, append_assoc))
