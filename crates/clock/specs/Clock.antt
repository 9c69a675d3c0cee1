-- The plain clock: its start, its tick by the rule, and what it shows after n ticks.
-- Assumes nothing.
use Rattle.answer.specs.declared.Refusal.{Refusal}
use Rattle.std.specs.Prelude.{cond, [], ◌∷◌, ℕ, zero, suc, ◌+◌, ltb, Result, Ok, Err}
use Rattle.answer.specs.declared.Refusal.TheVariants.{Range as RANGE, Table as TABLE}
use Rattle.answer.specs.Refusals.{number, refusing}
use Rattle.months.specs.Months.{month_length}
use Rattle.leap.specs.declared.Table.{Table}
use Rattle.leap.specs.Leap.{accepted, offset_at}
use Rattle.labels.specs.declared.Label.{Label}
use Rattle.labels.specs.Labels.{label, whole, no_label, month_of, minute_length, label_tests}

-- ---- the rule

abbrev pub shown : ℕ → ℕ → ℕ → ℕ → ℕ → ℕ → Result Label Refusal
shown y mo d h mi s = Ok (label y mo d h mi s)

-- `days` is the length of the label's month, `seconds` that of its minute: 61 where a second is added, 59 where one is taken out.
-- The first of second, minute, hour, day, month and year that can go up does, and those before it begin again; at the end of 9999 none can.
unfoldable pub next : ℕ → ℕ → Label → Result Label Refusal
next days seconds l =
    cond (ltb (l.second + 1) seconds) (shown l.year l.month l.day l.hour l.minute (l.second + 1))
    (cond (ltb l.minute 59) (shown l.year l.month l.day l.hour (l.minute + 1) 0)
    (cond (ltb l.hour 23) (shown l.year l.month l.day (l.hour + 1) 0 0)
    (cond (ltb l.day days) (shown l.year l.month (l.day + 1) 0 0 0)
    (cond (ltb l.month 12) (shown l.year (l.month + 1) 1 0 0 0)
    (cond (ltb l.year 9999) (shown (l.year + 1) 1 1 0 0 0)
    (Err RANGE))))))

-- ---- the calls

-- a label is judged as the UTC reading of its whole second, by the tests 3, 4, 5 and 6 in this order, and past them by the rule
abbrev pub tick_in : Table → Label → Result Label Refusal
tick_in t l = refusing Err (label_tests (offset_at t) 60 (whole l)) (next (month_length (month_of l)) (minute_length (offset_at t) l) l)

-- `tick`, without its mark
unfoldable pub tick : Table → Label → Result Label Refusal
tick t l = refusing Err ((accepted t, TABLE) ∷ []) (tick_in t l)

-- `start`, without its mark
unfoldable pub start : Table → Result Label Refusal
start t = refusing Err ((accepted t, TABLE) ∷ []) (shown 1972 1 1 0 0 0)

-- an answer in the scope's numbers: that of the refusal, 0 on success, and the label, all zero on a refusal
abbrev pub tick_results : Result Label Refusal → ℕ × Label
tick_results (Ok l) = (0, l)
tick_results (Err why) = (number why, no_label)

-- ---- the clock

-- a tick of what is shown; a refusal stays
abbrev pub onward : Table → Result Label Refusal → Result Label Refusal
onward t (Ok l) = tick t l
onward t (Err why) = Err why

-- what the clock shows after n ticks
unfoldable pub after : Table → ℕ → Result Label Refusal
after t zero = start t
after t (suc n) = onward t (after t n)
