-- A minus for a negative number.
use Rattle.digits.proofs.Decimals.{sign_is}
use Rattle.phrases.proofs.Puts.{puts_as}
use Rattle.seconds.proofs.Seconds.{sign_low, sign_high}
use Rattle.seconds.proofs.put_sign.Goals as goal

pub returns-then-z-lt0 : goal.returns-then-z-lt0
returns-then-z-lt0 c =
    puts_as (sign_low c.args.z (sign_is c.ranges.z c.if-z-lt0.true)) c.put.ensures

pub returns-else-z-lt0 : goal.returns-else-z-lt0
returns-else-z-lt0 c =
    puts_as (sign_high c.args.z (sign_is c.ranges.z c.if-z-lt0.false)) c.put-else-z-lt0.ensures
