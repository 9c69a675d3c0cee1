-- The bytes before the word, and those behind it.
use Rattle.phrases.proofs.Parts.{first_part, second_part}
use Rattle.wording.proofs.parts_at.Goals as goal

pub returns : goal.returns
returns c =
    let s = c.args.s.now in
    record { first = first_part c.args.word.now s c.up_to-k.ensures.0; second = second_part c.args.word.now s c.behind-from.result c.behind-from.ensures.0 }
