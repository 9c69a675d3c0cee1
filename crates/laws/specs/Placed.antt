-- Lists placed in lists: at the front, or from a place on; what they do not cover stays.
-- To use: cite them in a contract on a lent buffer; proofs/Placed.antt has their lengths and elements.
-- Assumes nothing.
use Rattle.std.specs.Prelude.{List, ◌++◌, ℕ, ◌+◌, length, take, drop}

-- the new elements in front, and past them the old ones
abbrev pub over : {A : Type 0} → List A → List A → List A
over new old = new ++ drop (length new) old

-- the new elements from place i on, the old ones before and past them
abbrev pub place : {A : Type 0} → List A → ℕ → List A → List A
place old i new = take i old ++ (new ++ drop (i + length new) old)
