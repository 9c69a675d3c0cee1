-- The lines of a text, found one after another.
-- Assumes nothing.
use mathlib.Core.Path.{◌≡◌, sym, ap, ◌∙◌}
use mathlib.Core.List.{List}
use Prim.Native.Nat.{ℕ, suc, ◌+◌, ◌-◌, ◌≤◌, min}
use native.Mathlib.Omega.{arith}
use lib.ListN.{length, take, drop, drop_of_length-le}
use lib.Seq.{drop-drop, drop-length}
use Rattle.laws.proofs.Cases.{by_order}
use Rattle.lines.specs.Words.{before, past, line_of}
use Rattle.lines.proofs.Words.{before_front}

-- what stands behind the first b
pub past_drops : (b : ℕ) (s : List ℕ) (i : ℕ) → drop (past b s i) s ≡ drop (length (before b (drop i s)) + 1) (drop i s)
past_drops b s i =
    let n = length (before b (drop i s)) in
    rw (drop-drop (n + 1) i s)
    (by_order (i + n) (length s)
    (λ h. let e : min (i + n + 1) (length s) ≡ i + (n + 1) = omega arith in ap (λ (k : ℕ). drop k s) e)
    (λ h. let e : min (i + n + 1) (length s) ≡ length s = omega arith in let f : length s ≤ i + (n + 1) = omega arith in
    ap (λ (k : ℕ). drop k s) e ∙ drop-length s ∙ sym (drop_of_length-le s f)))

pub line_next : (s : List ℕ) (i k : ℕ) → line_of (drop (past 10 s i) s) k ≡ line_of (drop i s) (suc k)
unfolding line_of
line_next s i k = rw past_drops

-- the slice from a place up to the next b
pub part_is : (b : ℕ) (s : List ℕ) (i : ℕ) {e : ℕ} → e ≡ i + length (before b (drop i s)) → take (e - i) (drop i s) ≡ before b (drop i s)
part_is b s i {e} h = let n : e - i ≡ length (before b (drop i s)) = omega arith in rw n (before_front b (drop i s))
