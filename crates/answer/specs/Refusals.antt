-- The refusals: the scope's number of each, and the order in which a call judges them.
-- Assumes nothing.
use Rattle.std.specs.Prelude.{Bool, true, cond, ◌&&◌, List, [], ◌∷◌, ℕ}
use Rattle.answer.specs.declared.Refusal.{Refusal}
use Rattle.answer.specs.declared.Refusal.TheVariants.{Room, Shape, Year, Date, Clock, NoSecond, Range, Ask, Cut, Groups, Table, Tail, Number, Kernel, Card}

-- Each number, and what it is given exactly for.
abbrev pub number : Refusal → ℕ
-- the result is longer than the lent buffer
number Room = 1
-- the text has none of the pictures; empty text, a bare point, an unknown month name
number Shape = 2
-- the year is before 1972, or past 9999 in a stamp's fields or a clock's label
number Year = 3
-- month, day or day of year is zero or too large
number Date = 4
-- hour over 23, minute over 59, second over 60, or 60 on a uniform scale; in a stamp's fields, a microsecond over 999,999
number Clock = 5
-- a UTC second that the table does not admit
number NoSecond = 6
-- the instant or Julian day has no label on this scale; a tick after the end of 9999; an entry after 2049 of a table that is to be written as cards
number Range = 7
-- unknown scale, picture or digit number
number Ask = 8
-- a block ends before a number of it does
number Cut = 9
-- a block's number has three groups and a mark for more, or a last group of zero after another
number Groups = 10
-- a table is not as described, or a count of 0 or over 64, a gap of 0, a month past 96,335, a vouched month before the last entry's; a new block that does not open with 0
number Table = 11
-- a byte after a block's last entry
number Tail = 12
-- the midnight is not a whole number and a half, or the fraction is not at least 0 and below 1; infinities and NaN
number Number = 13
-- a file is no kernel, or is longer than is read; its place is said in specs/Promise.antt of `kernel`
number Kernel = 14
-- a line of a file is no card, or its date is out of order; its place is said in specs/Promise.antt of `cards`
number Card = 15

-- A call's order: tests, each with the refusal for its failing. The first that fails decides; `refuse` makes its answer.
abbrev pub refusing : {A : Type 0} → (Refusal → A) → List (Bool × Refusal) → A → A
refusing refuse [] answer = answer
refusing refuse (test ∷ tests) answer = cond test.0 (refusing refuse tests answer) (refuse test.1)

-- no test fails
abbrev pub all_pass : List (Bool × Refusal) → Bool
all_pass [] = true
all_pass (test ∷ tests) = test.0 && all_pass tests
