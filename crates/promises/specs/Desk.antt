-- What the desk's `between` answers: the time from one stamp on UTC to another is counted in seconds of UTC's clock, the added ones with the others.
-- The desk reads both stamps with `read_text` and answers the difference of the two instants; here is what this difference is, by the clock of demand 3 and by the labels.
-- `pass` answers the same in a row, and beside it by how many seconds a subtraction of the labels is wrong.
-- And what holds of the answer to every line, whatever it asks for.
-- Assumes nothing.
use Rattle.std.specs.Prelude.{◌≡◌, ◌⊎◌, Bool, true, false, ◌||◌, List, [], ◌∷◌, ◌++◌, ℕ, ◌+◌, ◌*◌, ◌≤◌, ℤ, pos, ◌+ℤ◌, ◌-ℤ◌, ◌*ℤ◌, length, ◌≤ℤ◌, ◌<ℤ◌, Some, Ok}
use Rattle.leap.specs.declared.Table.{Table}
use Rattle.leap.specs.Leap.{accepted, offset_at}
use Rattle.leap.specs.Readers.{no_table}
use Rattle.labels.specs.declared.Label.{Label}
use Rattle.labels.specs.declared.Reading.{Reading}
use Rattle.labels.specs.Labels.{month_of}
use Rattle.labels.specs.Seconds.{micro_of}
use Rattle.stamp.specs.declared.Stamp.{Stamp}
use Rattle.clock.specs.Promise.{Shows}
use Rattle.text.specs.Promise.{AcceptedAs}
use Rattle.digits.specs.Bytes.{ascii}
use Rattle.phrases.specs.Parts.{begins_with}
use Rattle.phrases.specs.Replies.{answering}
use Rattle.seconds.specs.Seconds.{seconds_text}
use Rattle.stampwords.specs.Stamps.{clock_of, stamp_read, beyond_text}
use Rattle.stampwords.specs.Spans.{steps_in_order, steps_text, between_reply, real_name, cell, pass_reply}
use Rattle.wording.specs.Wording.{answered}

-- TAI-UTC under the table in the label's month, in seconds
abbrev pub offset_on : Table → Label → ℤ
offset_on t l = offset_at t (month_of l)

-- the readings r and s of UTC stand for the instants x and y
pub record Elapsed (t : Table) (x y : ℤ) (r s : Reading) : Type 0 where
  -- the clock shows both labels, each after some number of ticks
  pub shows_the_first : (j : ℕ) × Shows t j r.label
  pub shows_the_second : (k : ℕ) × Shows t k s.label
  -- from x to y there are a million microseconds for each tick from the one label to the other, and those that the readings have besides: none between whole seconds
  pub by_ticks : (j k : ℕ) → Shows t j r.label → Shows t k s.label → y -ℤ x ≡ pos (1000000 * k + s.micro) -ℤ pos (1000000 * j + r.micro)
  -- a subtraction of what the labels show, each day of 86,400 seconds, is off by as many seconds as TAI-UTC differs between their months
  pub by_labels : y -ℤ x ≡ (pos (micro_of s) -ℤ pos (micro_of r)) +ℤ (pos 1000000 *ℤ (offset_on t s.label -ℤ offset_on t r.label))

-- for every table and any two texts that are read on UTC, in either order
abbrev pub Between : Type 0
Between = (t : Table) (from to : List ℕ) (x y : ℤ) (z w : Stamp) → AcceptedAs t 0 from x z → AcceptedAs t 0 to y w → Elapsed t x y z.reading w.reading

-- ---- what the desk answers

-- a stamp as the desk gives it, its clock in front of it: that clock is UTC, and it is read as the instant x and the stamp z
pub record ReadOnUtc (t : Table) (given : List ℕ) (x : ℤ) (z : Stamp) : Type 0 where
  pub on_utc : clock_of given ≡ 0
  pub read : (stamp_read t given).answer ≡ Ok (x, z)

-- one of the two lies beyond the month that the table is vouched for, and the answer ends with these words
abbrev pub mark_of : Table → List ℕ → List ℕ → List ℕ
mark_of t a b = beyond_text ((stamp_read t a).beyond || (stamp_read t b).beyond)

-- the stamps a and b are read as the instants x and y, with the readings of z and w
pub record DeskBetween (t : Table) (a b : List ℕ) (x y : ℤ) (z w : Stamp) : Type 0 where
  -- `between` has a good answer: the seconds from x to y with six digits, ` s`, and the mark
  pub between : between_reply t a b ≡ answering (seconds_text (y -ℤ x) ++ (ascii " s" ++ mark_of t a b))
  -- which are the ticks of UTC's clock between the two labels
  pub elapsed : Elapsed t x y z.reading w.reading
  -- `pass` has a good answer, a row: the name, both stamps, the same seconds, the steps, and the mark
  pub pass : (name : List ℕ) → real_name name ≡ true
      → pass_reply t name a b ≡ answering (cell name ++ (cell a ++ (cell b ++ (seconds_text (y -ℤ x) ++ (ascii "," ++ (steps_text (steps_in_order t x z y w) ++ mark_of t a b))))))
  -- the steps are TAI-UTC in the later month less that in the earlier one: by so many seconds a subtraction of the labels is wrong, as `by_labels` has it
  pub steps : x ≤ℤ y → steps_in_order t x z y w ≡ Some (offset_on t w.reading.label -ℤ offset_on t z.reading.label)
  -- and where the later stamp is given first, the other way round
  pub steps_back : y <ℤ x → steps_in_order t x z y w ≡ Some (offset_on t z.reading.label -ℤ offset_on t w.reading.label)

-- for every table and any two stamps on UTC that are read, in either order
abbrev pub OnTheDesk : Type 0
OnTheDesk = (t : Table) (a b : List ℕ) (x y : ℤ) (z w : Stamp) → ReadOnUtc t a x z → ReadOnUtc t b y w → DeskBetween t a b x y z w

-- ---- the answer to any line

-- a line of up to 1,024 bytes that loads a table
pub record Loading (line : List ℕ) : Type 0 where
  pub short : length line ≤ 1024
  pub loads : (begins_with (ascii "table block ") line ≡ true) ⊎ ((begins_with (ascii "table kernel ") line ≡ true) ⊎ (begins_with (ascii "table cards ") line ≡ true))

-- `answered t readable file line` is the reply to a line under the table t, with the table from then on; `file` is what the file that the line names holds, if it can be read
pub record DeskAnswers : Type 0 where
  -- every answer ends with a line feed (10)
  pub ends_its_line : (t : Table) (readable : Bool) (file line : List ℕ) → (text : List ℕ) × ((answered t readable file line).reply.text ≡ text ++ (10 ∷ []))
  -- an answer that is not good leaves the table as it was, or none: another than the two is never in force
  pub keeps_or_loses : (t : Table) (readable : Bool) (file line : List ℕ) → (answered t readable file line).reply.good ≡ false
      → ((answered t readable file line).table ≡ t) ⊎ ((answered t readable file line).table ≡ no_table)
  -- a line of a block, a kernel or cards that is not good leaves none
  pub loses_the_table : (t : Table) (readable : Bool) (file line : List ℕ) → Loading line → (answered t readable file line).reply.good ≡ false → (answered t readable file line).table ≡ no_table
  -- where the table is accepted, so is the table from then on, if there is one
  pub stays_accepted : (t : Table) (readable : Bool) (file line : List ℕ) → accepted t ≡ true
      → (accepted (answered t readable file line).table ≡ true) ⊎ ((answered t readable file line).table ≡ no_table)
  -- and without one no stamp is read
  pub none_reads_no_stamp : (given : List ℕ) (x : ℤ) (z : Stamp) → (stamp_read no_table given).answer ≡ Ok (x, z) → ⊥
