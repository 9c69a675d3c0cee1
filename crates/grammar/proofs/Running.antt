-- Reading on, byte by byte and from one part of a file to the next.
-- Assumes nothing.
use Prim.Native.Nat.{ℕ, suc, ◌+◌}
use mathlib.Core.Path.{◌≡◌, refl, ap, ◌∙◌}
use mathlib.Core.List.{List, [], ◌∷◌, ◌++◌}
use native.Mathlib.Omega.{arith}
use lib.Dec.{ltb}
use lib.ListN.{length}
use Rattle.automaton.specs.declared.Mode.{Mode}
use Rattle.automaton.specs.declared.Mode.TheVariants.{Rest, Dead}
use Rattle.automaton.specs.declared.Resting.TheVariants.{Text}
use Rattle.automaton.specs.Step.{step}
use Rattle.automaton.specs.Run.{Pairs, noted, run, scan}

-- reading s and then w
pub run_append : (m : Mode) (ps : Pairs) (at : ℕ) (s w : List ℕ) → run m ps at (s ++ w) ≡ run (run m ps at s).mode (run m ps at s).pairs (at + length s) w
unfolding run
run_append m ps at [] w = let e : at ≡ at + 0 = omega arith in ap (λ n. run m ps n w) e
run_append m ps at (b ∷ s) w =
    let m' = step (ltb 0 (length ps)) at m b in
    let ps' = noted m' ps in
    let e : at + 1 + length s ≡ at + suc (length s) = omega arith in
    run_append m' ps' (at + 1) s w ∙ ap (λ n. run (run m' ps' (at + 1) s).mode (run m' ps' (at + 1) s).pairs n w) e

-- one byte
pub step_on : (m : Mode) {m' : Mode} (ps : Pairs) (at b : ℕ) (s : List ℕ) → step (ltb 0 (length ps)) at m b ≡ m' → run m ps at (b ∷ s) ≡ run m' (noted m' ps) (at + 1) s
unfolding run
step_on m ps at b s e = ap (λ x. run x (noted x ps) (at + 1) s) e

-- a fault stays
pub dead_run : (p : ℕ) (ps : Pairs) (at : ℕ) (s : List ℕ) → (run (Dead p) ps at s).mode ≡ Dead p
unfolding run step
dead_run p ps at [] = refl
dead_run p ps at (b ∷ s) = dead_run p ps (at + 1) s

-- ---- from the start of a file

pub scan_append : (s w : List ℕ) → scan (s ++ w) ≡ run (scan s).mode (scan s).pairs (length s) w
scan_append s w =
    let e : 0 + length s ≡ length s = omega arith in
    run_append (Rest (Text 0)) [] 0 s w ∙ ap (λ n. run (scan s).mode (scan s).pairs n w) e

-- behind s the mode is known
pub scan_from : (s w : List ℕ) {m : Mode} → (scan s).mode ≡ m → scan (s ++ w) ≡ run m (scan s).pairs (length s) w
scan_from s w e = scan_append s w ∙ ap (λ m. run m (scan s).pairs (length s) w) e

pub scan_one : (s : List ℕ) (b : ℕ) → (scan (s ++ b ∷ [])).mode ≡ step (ltb 0 (length (scan s).pairs)) (length s) (scan s).mode b
unfolding run
scan_one s b = ap (λ r. r.mode) (scan_append s (b ∷ []))

pub dead_stays : (s rest : List ℕ) (p : ℕ) → (scan s).mode ≡ Dead p → (scan (s ++ rest)).mode ≡ Dead p
dead_stays s rest p e = ap (λ r. r.mode) (scan_from s rest e) ∙ dead_run p (scan s).pairs (length s) rest
