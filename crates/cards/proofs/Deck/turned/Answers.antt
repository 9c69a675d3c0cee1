-- Both arrays are turned as far as they are in use.
use mathlib.Core.Path.{sym, ◌∙◌}
use lib.Seq.{length-take-le}
use Rattle.cards.proofs.Turned.{held_in, turned_is}
use Rattle.cards.proofs.Deck.turned.Goals as goal

pub slice_bounds-months-end : goal.slice_bounds-months-end
slice_bounds-months-end c = (held_in c.requires.no_more c.requires.few).0

pub slice_bounds-reverse-end : goal.slice_bounds-reverse-end
slice_bounds-reverse-end c = sym (length-take-le _ _ (held_in c.requires.no_more c.requires.few).0)

pub slice_bounds-offsets-end : goal.slice_bounds-offsets-end
slice_bounds-offsets-end c = (held_in c.requires.no_more c.requires.few).1

pub slice_bounds-reverse-end-2 : goal.slice_bounds-reverse-end-2
slice_bounds-reverse-end-2 c = sym (length-take-le _ _ (held_in c.requires.no_more c.requires.few).1)

pub returns : goal.returns
returns c = c.new.ensures ∙ turned_is c.args.self.now.table c.requires.no_more c.reverse.ensures.after c.reverse-2.ensures.after
