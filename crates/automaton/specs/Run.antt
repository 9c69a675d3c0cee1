-- The automaton along a file: where it stands behind bytes, and the pairs that it has read. Nothing here need be believed.
-- Assumes nothing.
use Rattle.std.specs.Prelude.{ℕ, ◌+◌, Bool, true, false, List, [], ◌∷◌, ◌++◌, ltb, ℤ, length}
use Rattle.digits.specs.Decimals.{signed}
use Rattle.automaton.specs.declared.Mode.{Mode}
use Rattle.automaton.specs.declared.Mode.TheVariants.{Rest, Inside, Name, Ours, Pair, Date, Done, Dead}
use Rattle.automaton.specs.declared.Resting.TheVariants.{Text}
use Rattle.automaton.specs.Step.{step}

-- a pair: a month number, and the number before its date
abbrev pub Pairs : Type 0
Pairs = List (ℕ × ℤ)

-- right behind a date its pair is noted
abbrev pub noted : Mode → Pairs → Pairs
noted (Rest r) ps = ps
noted (Inside w) ps = ps
noted (Name k start) ps = ps
noted (Ours o) ps = ps
noted (Pair minus n c) ps = ps
noted (Date start minus n d) ps = ps
noted (Done start minus n month) ps = ps ++ (month, signed minus n) ∷ []
noted (Dead place) ps = ps

-- a file may end here
abbrev pub may_end : Mode → Bool
may_end (Rest r) = true
may_end (Inside w) = false
may_end (Name k start) = false
may_end (Ours o) = false
may_end (Pair minus n c) = false
may_end (Date start minus n d) = false
may_end (Done start minus n month) = false
may_end (Dead place) = false

pub record Stand : Type 0 where
  pub mode : Mode
  pub pairs : Pairs

abbrev pub standing : Mode → Pairs → Stand
standing m ps = record { mode = m; pairs = ps }

-- s, which stands at place `at` of the file, is read on from m with these pairs
unfoldable pub run : Mode → Pairs → ℕ → List ℕ → Stand
run m ps at [] = standing m ps
run m ps at (b ∷ s) = run (step (ltb 0 (length ps)) at m b) (noted (step (ltb 0 (length ps)) at m b) ps) (at + 1) s

-- a file is read from its start, which is a line of text
abbrev pub scan : List ℕ → Stand
scan s = run (Rest (Text 0)) [] 0 s
