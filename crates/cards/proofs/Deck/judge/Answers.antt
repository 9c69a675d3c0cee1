-- As they stand where the dates rise; over 64 cards are no table, whichever way they stand.
use mathlib.Core.Path.{sym, ap, ◌∙◌}
use mathlib.Core.Bool.{false}
use Rattle.leap.specs.Readers.{judged}
use Rattle.cards.specs.Reading.{turned}
use Rattle.cards.proofs.Turned.{turned_many}
use Rattle.cards.proofs.Deck.judge.Goals as goal
use Rattle.cards.proofs.Deck.judge.Goals.{else-self-via-then-self+else-self-le64, else-self-via-else-self}

pub returns-else-self : goal.returns-else-self
returns-else-self c =
    let d = c.args.self.now in
    c.judge-else-self.ensures
    ∙ elim c.else-self.branch [
      | else-self-via-then-self+else-self-le64 w ↦ sym (turned_many false d.table w.if-self-le64.false) ∙ turned_many d.falling d.table w.if-self-le64.false
      | else-self-via-else-self w ↦ ap (λ b. judged (turned b d.table)) (sym w.if-self.false)
    ]
