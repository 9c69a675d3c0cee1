-- Four texts, one behind another.
use mathlib.Core.Path.{ap}
use mir.Syntax.{w64}
use mir.Facts.{to_z-of_z, sfits_widen}
use Rattle.laws.proofs.Machine.{widened}
use Rattle.digits.specs.Decimals.{signed_text}
use Rattle.phrases.proofs.Puts.{puts_as, then}
use Rattle.tablewords.specs.Words.{offset_text}
use Rattle.tablewords.proofs.put_entry.Goals as goal

pub overflow_cast-offset : goal.overflow_cast-offset
overflow_cast-offset c =
    rw (to_z-of_z c.ranges.offset) (sfits_widen tt c.ranges.offset)

pub returns : goal.returns
unfolding offset_text
returns c =
    then c.put_date-a.ensures (then c.put-b.ensures
    (then (puts_as (ap signed_text (widened w64 tt c.ranges.offset)) c.put_signed-c.ensures) c.put.ensures))
