-- What stands beside the mark is the answer. It is said here, beside its function, so that an edit of code and definition alike is held against it.
-- Assumes nothing.
use mathlib.Core.Path.{◌≡◌, refl}
use Rattle.leap.specs.declared.Table.{Table}
use Rattle.labels.specs.declared.Label.{Label}
use Rattle.clock.specs.Clock.{tick}
use Rattle.clock.specs.Marks.{tick_marked}

pub tick_beside : (t : Table) (l : Label) → (tick_marked t l).answer ≡ tick t l
tick_beside t l = refl
