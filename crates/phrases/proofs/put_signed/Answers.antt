-- The digits fit 21 bytes.
use lib.ListN.{replicate}
use Rattle.digits.specs.Decimals.{signed_text}
use Rattle.digits.proofs.Decimals.{signed_few}
use mathlib.Core.Path.{ap, ◌∙◌}
use mir.Facts.{to_z-of_z}
use Rattle.phrases.proofs.Puts.{puts_as, in_front}
use Rattle.phrases.proofs.put_signed.Goals as goal

pub returns : goal.returns
returns c =
    let z = to_z-of_z c.ranges.z in
    puts_as (in_front (replicate 21 0) _ (signed_few _) c.append_signed-k.ensures ∙ ap signed_text z) c.put.ensures
