-- The marks beside the clock's answers: a label says whether its month lies beyond the last that the table is vouched for, a refusal nothing.
-- The answers themselves are those of Clock.
-- Assumes nothing.
use Rattle.answer.specs.declared.Refusal.{Refusal}
use Rattle.std.specs.Prelude.{Bool, false, ℕ, Result, Ok, Err}
use Rattle.leap.specs.declared.Table.{Table}
use Rattle.leap.specs.Leap.{beyond}
use Rattle.labels.specs.declared.Label.{Label}
use Rattle.labels.specs.Labels.{month_of}
use Rattle.answer.specs.declared.Marked.{Marked}
use Rattle.clock.specs.Clock.{start, tick}

-- beside an answer under a table of number v
abbrev pub marked_tick : ℕ → Result Label Refusal → Marked Label
marked_tick v a = record { answer = a; beyond = mark a }
  where
    mark : Result Label Refusal → Bool
    mark (Ok l) = beyond v (month_of l)
    mark (Err why) = false

-- `start`
abbrev pub start_marked : Table → Marked Label
start_marked t = marked_tick t.vouched (start t)

-- `tick`: the month of the new label
abbrev pub tick_marked : Table → Label → Marked Label
tick_marked t l = marked_tick t.vouched (tick t l)
