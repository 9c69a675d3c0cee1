-- The marks beside answers on text, as those of `stamp`: a text that is read has the mark of its stamp's month, one that is written that of the reading it shows.
-- A refusal has none, and ROOM is one. The answers themselves are those of Text.
-- Assumes nothing.
use Rattle.answer.specs.declared.Refusal.{Refusal}
use Rattle.std.specs.Prelude.{Bool, false, List, ℕ, ℤ, Result, Ok, Err}
use Rattle.leap.specs.declared.Table.{Table}
use Rattle.labels.specs.Labels.{month_of}
use Rattle.answer.specs.declared.Marked.{Marked}
use Rattle.answer.specs.Marks.{marked}
use Rattle.stamp.specs.declared.Stamp.{Stamp}
use Rattle.stamp.specs.Scales.{scale_of}
use Rattle.stamp.specs.Marks.{beyond_on, beyond_at}
use Rattle.text.specs.Text.{read_text, write_text}

-- ---- beside an answer

-- under a table of number v
abbrev pub marked_text : ℕ → Result (ℤ × Stamp) Refusal → Marked (ℤ × Stamp)
marked_text v a = record { answer = a; beyond = mark a }
  where
    mark : Result (ℤ × Stamp) Refusal → Bool
    mark (Ok (x, z)) = beyond_on v z.scale (month_of z.reading.label)
    mark (Err why) = false

-- ---- the calls

-- `read_text`: the stamp that is read
abbrev pub read_text_marked : Table → ℕ → List ℕ → Marked (ℤ × Stamp)
read_text_marked t k text = marked_text t.vouched (read_text t k text)

-- `write_text`: the reading that is written
abbrev pub write_text_marked : Table → ℤ → ℕ → ℕ → ℕ → List ℕ → Marked ℕ
write_text_marked t x p k digits buffer = marked (write_text t x p k digits buffer) (beyond_at t (scale_of k) x)
