-- The lines of a file, found one after another.
-- Assumes nothing.
use Prim.Native.Nat.{ℕ, suc, ◌+◌, ◌≤◌, ◌<◌}
use mathlib.Core.Path.{◌≡◌, refl, sym, ap, subst, ◌∙◌}
use mathlib.Core.Logic.{◌⊎◌, inl, inr}
use mathlib.Core.Bool.{Bool, true, false, cond}
use mathlib.Core.List.{List, [], ◌∷◌, ◌++◌}
use native.Mathlib.Omega.{arith}
use borrow.Author.Tests.{eqb-true, eq-eqb}
use lib.Dec.{eqb, eqb-suc-suc}
use lib.ListN.{length, drop, drop_of_length-le, length-drop}
use lib.Seq.{drop-drop}
use Rattle.lines.specs.Words.{before}
use Rattle.columns.specs.Lines.{lines_of, on_line, fed, place_behind}
use Rattle.columns.specs.Promise.{BeginsWith, EndsOtherwise, Lines}

-- the first line, and the lines behind its line feed
line_first : (b : ℕ) (s : List ℕ) → lines_of (b ∷ s) ≡ before 10 (b ∷ s) ∷ lines_of (drop (suc (length (before 10 (b ∷ s)))) (b ∷ s))
unfolding lines_of before
line_first b [] = go (eqb b 10)
  where
    go : (t : Bool) → cond t ([] ∷ []) ((b ∷ []) ∷ []) ≡ cond t [] (b ∷ []) ∷ lines_of (drop (suc (length (cond t [] (b ∷ [])))) (b ∷ []))
    go true = refl
    go false = refl
line_first b (c ∷ s) = go (eqb b 10) (line_first c s)
  where
    first : List ℕ
    first = before 10 (c ∷ s)

    go : (t : Bool) → lines_of (c ∷ s) ≡ first ∷ lines_of (drop (suc (length first)) (c ∷ s)) → cond t ([] ∷ lines_of (c ∷ s)) (on_line b (lines_of (c ∷ s))) ≡ cond t [] (b ∷ first) ∷ lines_of (drop (suc (length (cond t [] (b ∷ first)))) (b ∷ c ∷ s))
    go true h = refl
    go false h = ap (on_line b) h

first_of : (s : List ℕ) → 0 < length s → lines_of s ≡ before 10 s ∷ lines_of (drop (suc (length (before 10 s))) s)
first_of [] h = absurd (omega arith)
first_of (b ∷ s) h = line_first b s

-- the lines from a place on, as a loop meets them: `end` is where the first of them ends
pub lines_step : (s : List ℕ) (i : ℕ) {end : ℕ} → i < length s → end ≡ i + length (before 10 (drop i s)) → lines_of (drop i s) ≡ before 10 (drop i s) ∷ lines_of (drop (end + 1) s)
lines_step s i {end} h e =
    let n : i + suc (length (before 10 (drop i s))) ≡ end + 1 = omega arith in
    first_of (drop i s) (simp length-drop (omega arith)) ∙ ap (λ (l : List ℕ). before 10 (drop i s) ∷ lines_of l) (drop-drop (suc (length (before 10 (drop i s)))) i s ∙ ap (λ (k : ℕ). drop k s) n)

pub lines_end : (s : List ℕ) (i : ℕ) → length s ≤ i → lines_of (drop i s) ≡ []
unfolding lines_of
lines_end s i h = rw (drop_of_length-le s h)

-- ---- where the lines stand

begins : (s : List ℕ) → BeginsWith (before 10 s) s
unfolding before
begins [] = record { rest = []; split = refl; no_feed = refl; ends = inl refl }
begins (b ∷ s) = go (eqb b 10) refl (begins s)
  where
    go : (t : Bool) → eqb b 10 ≡ t → BeginsWith (before 10 s) s → BeginsWith (cond t [] (b ∷ before 10 s)) (b ∷ s)
    go true e h = record { rest = b ∷ s; split = refl; no_feed = refl; ends = inr (s, ap (λ (x : ℕ). x ∷ s) (eqb-true b 10 e)) }
    go false e h = record { rest = h.rest; split = ap (λ (l : List ℕ). b ∷ l) h.split; no_feed = rw (e, eqb-suc-suc) h.no_feed; ends = h.ends }

-- a file with lines has the first of them and the others behind it
first_is : (s line : List ℕ) (lines : List (List ℕ)) → lines_of s ≡ line ∷ lines → (before 10 s ≡ line) × (lines_of (drop (length line + 1) s) ≡ lines)
unfolding lines_of
first_is [] line lines e = (cc, cc)
first_is (b ∷ s) line lines e =
    let h : before 10 (b ∷ s) ∷ lines_of (drop (suc (length (before 10 (b ∷ s)))) (b ∷ s)) ≡ line ∷ lines = sym (line_first b s) ∙ e in
    let f : before 10 (b ∷ s) ≡ line = cc in
    let n : length line + 1 ≡ suc (length (before 10 (b ∷ s))) = omega (arith, ap length f) in
    (f, ap (λ (k : ℕ). lines_of (drop k (b ∷ s))) n ∙ cc)

stand : (s : List ℕ) (earlier after : List (List ℕ)) (line : List ℕ) → lines_of s ≡ earlier ++ (line ∷ after) → BeginsWith line (drop (place_behind earlier) s)
unfolding place_behind
stand s [] after line e = subst (λ (l : List ℕ). BeginsWith l s) (first_is s line after e).0 (begins s)
stand s (l ∷ earlier) after line e =
    subst (BeginsWith line) (drop-drop (place_behind earlier) (length l + 1) s)
    (stand (drop (length l + 1) s) earlier after line (first_is s l (earlier ++ (line ∷ after)) e).1)

-- ---- the lines are all of the file

abbrev AllOf : List ℕ → List ℕ → Type 0
AllOf s x = (x ≡ s) ⊎ ((x ≡ s ++ 10 ∷ []) × EndsOtherwise s)

-- one byte before them
before_all : (b : ℕ) {s x : List ℕ} → AllOf s x → AllOf (b ∷ s) (b ∷ x)
before_all b (inl e) = inl (ap (λ (l : List ℕ). b ∷ l) e)
before_all b (inr h) = inr (ap (λ (l : List ℕ). b ∷ l) h.0, (b ∷ h.1.0, h.1.1, ap (λ (l : List ℕ). b ∷ l) h.1.2, h.1.3))

all_of : (s : List ℕ) → AllOf s (fed (lines_of s))
unfolding lines_of fed
all_of [] = inl refl
all_of (b ∷ []) = go (eqb b 10) refl
  where
    go : (t : Bool) → eqb b 10 ≡ t → AllOf (b ∷ []) (fed (cond t ([] ∷ []) ((b ∷ []) ∷ [])))
    go true e = inl (ap (λ (x : ℕ). x ∷ []) (sym (eqb-true b 10 e)))
    go false e = inr (refl, ([], b, refl, λ q. let f : true ≡ false = sym (eq-eqb b 10 q) ∙ e in let z : ◌≡◌ {A = ℕ} 0 1 = cc in omega arith))
all_of (b ∷ c ∷ s) = go (eqb b 10) refl (lines_of (c ∷ s)) (line_first c s) (all_of (c ∷ s))
  where
    go : (t : Bool) → eqb b 10 ≡ t → (lines : List (List ℕ)) {l : List ℕ} {ls : List (List ℕ)} → lines ≡ l ∷ ls → AllOf (c ∷ s) (fed lines) → AllOf (b ∷ c ∷ s) (fed (cond t ([] ∷ lines) (on_line b lines)))
    go true e lines q h = rw (eqb-true b 10 e) (before_all 10 h)
    go false e [] q h = let z : ◌≡◌ {A = ℕ} 0 1 = cc in absurd (omega arith)
    go false e (l ∷ lines) q h = before_all b h

pub lines : (s : List ℕ) → Lines s
lines s = record { stands = stand s; all_of_it = all_of s }
