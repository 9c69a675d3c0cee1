-- The digits fit 20 bytes.
use lib.ListN.{replicate}
use Rattle.digits.specs.Decimals.{decimal_text}
use Rattle.digits.proofs.Decimals.{decimal_few}
use Rattle.phrases.proofs.Puts.{puts_as, in_front}
use Rattle.phrases.proofs.put_unsigned.Goals as goal

pub returns : goal.returns
returns c =
    let x = c.args.n in
    puts_as (in_front (replicate 20 0) (decimal_text x) (decimal_few x) c.append_unsigned-k.ensures) c.put.ensures
