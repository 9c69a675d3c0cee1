use mathlib.Core.Path.{◌≡◌}
use mathlib.Core.Bool.{◌&&◌}
use lib.ListN.{length}
use Rattle.pictures.specs.Reading.{like}
use Rattle.pictures.proofs.is_like.Given as goal

-- what was passed, and what is left, are the whole
abbrev pub invariant-loop-c : goal.invariant-loop-c
invariant-loop-c l =
    (length l.c-iterator.a.rest.now ≡ length l.c-iterator.b.rest.now) × ((l.fine && like l.c-iterator.a.rest.now l.c-iterator.b.rest.now) ≡ like l.pattern l.text)
