-- Bytes go on to a kernel exactly where the automaton is not dead, and those that do not have a first fault.
-- Assumes nothing.
use Prim.Native.Nat.{ℕ}
use mathlib.Core.Path.{◌≡◌, refl, sym, ap, subst, ◌∙◌}
use mathlib.Core.Logic.{◌⊎◌, inl, inr}
use mathlib.Core.List.{List, [], ◌∷◌, ◌++◌, append_assoc, append-nil}
use Rattle.automaton.specs.declared.Mode.TheVariants.{Rest, Dead}
use Rattle.automaton.specs.declared.Resting.TheVariants.{Text}
use Rattle.automaton.specs.Run.{may_end, run, scan}
use Rattle.grammar.specs.Places.{IsKernel, GoesOn, FirstFault}
use Rattle.grammar.proofs.Good.{Good}
use Rattle.grammar.proofs.Running.{dead_stays}
use Rattle.grammar.proofs.Names.{never}
use Rattle.grammar.proofs.Sound.{sound}
use Rattle.grammar.proofs.Complete.{complete}
use Rattle.grammar.proofs.Completion.{live_good}
use Rattle.grammar.proofs.Faults.{Live, Died, lives, alive}

pub kernel_is : (s : List ℕ) → Good s → IsKernel s
kernel_is s g = let k = sound s g in (k.0, k.1.0)

pub good_is : (s : List ℕ) → IsKernel s → Good s
good_is s k = (complete s k.0 k.1).0

pub live_goes_on : (s : List ℕ) → Live (scan s).mode → GoesOn s
live_goes_on s live = let g = live_good s live in (g.0, kernel_is (s ++ g.0) g.1)

pub dead_no_more : (s : List ℕ) (p : ℕ) → (scan s).mode ≡ Dead p → GoesOn s → ⊥
dead_no_more s p e g = never (good_is (s ++ g.0) g.1).may_end_lem (ap may_end (dead_stays s g.0 p e))

pub goes_live : (s : List ℕ) → GoesOn s → Live (scan s).mode
goes_live s g p e = dead_no_more s p e g

pub dies : (s : List ℕ) → (GoesOn s → ⊥) → Died (scan s).mode
dies s f = go (alive (scan s).mode)
  where
    go : Live (scan s).mode ⊎ Died (scan s).mode → Died (scan s).mode
    go (inl live) = absurd (f (live_goes_on s live))
    go (inr d) = d

-- ---- bytes go on, or have a first fault

pub record Fault (s : List ℕ) : Type 0 where
  pub x : List ℕ
  pub b : ℕ
  pub rest : List ℕ
  pub split : s ≡ x ++ b ∷ rest
  pub first : FirstFault x b

first_from : (s x rest : List ℕ) → s ≡ x ++ rest → GoesOn x → GoesOn s ⊎ Fault s
first_from s x [] e g = inl (subst GoesOn (sym (e ∙ append-nil x)) g)
first_from s x (b ∷ rest) e g = go (alive (scan (x ++ b ∷ [])).mode) (λ live. first_from s (x ++ b ∷ []) rest (e ∙ sym (append_assoc x (b ∷ []) rest)) (live_goes_on (x ++ b ∷ []) live))
  where
    go : Live (scan (x ++ b ∷ [])).mode ⊎ Died (scan (x ++ b ∷ [])).mode → (Live (scan (x ++ b ∷ [])).mode → GoesOn s ⊎ Fault s) → GoesOn s ⊎ Fault s
    go (inl live) more = more live
    go (inr d) more = inr (record { x = x; b = b; rest = rest; split = e; first = record { goes_on = g; no_more = dead_no_more (x ++ b ∷ []) d.place d.there } })

pub first_fault : (s : List ℕ) → GoesOn s ⊎ Fault s
unfolding run
first_fault s = first_from s [] s refl (live_goes_on [] (lives (Rest (Text 0)) refl))
