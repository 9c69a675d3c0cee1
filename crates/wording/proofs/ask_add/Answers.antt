-- The two parts around the word.
use mathlib.Core.Path.{sym, ap₂}
use lib.Seq.{length-take-le}
use Rattle.digits.specs.Bytes.{ascii}
use Rattle.phrases.proofs.Replies.{says_as}
use Rattle.stampwords.specs.Moves.{add_reply}
use Rattle.phrases.proofs.Parts.{first_part, second_part}
use Rattle.wording.proofs.ask_add.Goals as goal

pub returns : goal.returns
returns c =
    let a = c.args in
    says_as (ap₂ (add_reply a.t.now a.line.now) c.parts_at.ensures.first c.parts_at.ensures.second) c.say_add.ensures
