-- The sign, and the size behind it.
use mathlib.Core.Path.{ap, ◌∙◌}
use lib.IntN.{nat_abs}
use mir.Facts.{to_z-of_z}
use Rattle.seconds.specs.Seconds.{sign_text, micros_text, seconds_text}
use Rattle.phrases.proofs.Puts.{puts_as, then}
use Rattle.seconds.proofs.put_seconds.Goals as goal

pub returns : goal.returns
unfolding seconds_text
returns c =
    let z = to_z-of_z c.ranges.z in
    then (puts_as (ap sign_text z) c.put_sign-a.ensures) (puts_as (ap micros_text (c.unsigned_abs.ensures.value ∙ ap nat_abs z)) c.put_micros.ensures)
