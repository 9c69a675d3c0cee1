-- What reading a kernel answers, which the contracts of its functions cite. Nothing here need be believed: specs/Promise.antt says what `read_kernel` answers,
-- by the grammar alone.
-- Assumes nothing.
use Rattle.std.specs.Prelude.{ℕ, ◌-◌, ◌≤◌, ◌≡◌, Bool, true, false, cond, ◌&&◌, List, ◌++◌, ltb, leb, length, take, drop, replicate, Result}
use Rattle.answer.specs.declared.Refusal.TheVariants.{Kernel as KERNEL}
use Rattle.leap.specs.declared.Table.{Table}
use Rattle.answer.specs.declared.Fault.{Fault}
use Rattle.leap.specs.Entries.{table_of}
use Rattle.leap.specs.Readers.{refused_at, judged}
use Rattle.automaton.specs.declared.Mode.{Mode}
use Rattle.automaton.specs.declared.Mode.TheVariants.{Rest, Inside, Name, Ours, Pair, Date, Done, Dead}
use Rattle.grammar.specs.Places.{limit}
use Rattle.automaton.specs.Run.{Pairs, may_end, run, scan}

-- the place of a fault: where it is certain, that place, else the end of the n bytes
abbrev pub place_of : ℕ → Mode → ℕ
place_of n (Rest r) = n
place_of n (Inside w) = n
place_of n (Name k start) = n
place_of n (Ours o) = n
place_of n (Pair minus k c) = n
place_of n (Date start minus k d) = n
place_of n (Done start minus k month) = n
place_of n (Dead place) = place

-- n bytes end here, with the pairs of this table; `whole`: they are the file
abbrev pub ended : Bool → ℕ → Mode → Table → Result Table Fault
ended whole n m t = cond (may_end m && (whole && ltb 0 t.count)) (judged t) (refused_at KERNEL (place_of n m))

abbrev pub verdict : Bool → List ℕ → Result Table Fault
verdict whole s = ended whole (length s) (scan s).mode (table_of (scan s).pairs)

unfoldable pub read_kernel : List ℕ → Result Table Fault
read_kernel s = cond (leb (length s) limit) (verdict true s) (verdict false (take limit s))

-- from place i to place j there is nothing but blanks
pub record OnlyBlanks (s : List ℕ) (i j : ℕ) : Type 0 where
  pub blanks : drop i s ≡ replicate (j - i) 32 ++ drop j s
  pub later : i ≤ j
  pub inside : j ≤ length s

-- s is read on from place j as from place i
pub record ReadsOn (s : List ℕ) (m : Mode) (i j : ℕ) : Type 0 where
  pub same : (ps : Pairs) → run m ps j (drop j s) ≡ run m ps i (drop i s)
  pub later : i ≤ j
  pub inside : j ≤ length s
