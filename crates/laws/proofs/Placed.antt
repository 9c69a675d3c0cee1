-- Lists placed in lists: what `over` and `place` cover, keep and join. Elements are read with `get_or`, at a default of any value.
-- To use: rewrite by the law for the element, the length or the next piece that the goal speaks of.
-- Assumes nothing.
use mathlib.Core.Path.{◌≡◌, sym, ap, ◌∙◌}
use mathlib.Core.List.{List, [], ◌∷◌, ◌++◌, append_assoc, append-nil}
use Prim.Native.Nat.{ℕ, zero, suc, ◌+◌, ◌-◌, ◌≤◌, ◌<◌, min}
use native.Mathlib.Nat.{zero-add, add-zero, zero-min, min-zero, suc-min-suc}
use native.Mathlib.Numerals.{add-one}
use native.Mathlib.Omega.{arith}
use lib.ListN.{length, take, drop, get_or, set, length-append, length-take, length-drop, take-append-drop, drop_of_length-le, replicate, length-replicate, get_or-replicate, get_or-append, get_or-eq_default}
use lib.Seq.{sets, sets-eq, take_at, drop_at, take_all, take-length, length-take-le, set_split, drop-drop, drop-append-add, get_or-append-add, get_or-take, get_or-drop}
use Rattle.laws.specs.Placed.{over, place}
use Rattle.laws.proofs.Cases.{by_order}

module _ {A : Type 0} where
  -- ---- in front

  pub length_over : (new old : List A) → length new ≤ length old → length (over new old) ≡ length old
  length_over new old h = simp (length-append, length-drop) (omega arith)

  pub over_front : (new old : List A) {n : ℕ} → length new ≡ n → take n (over new old) ≡ new
  over_front new old {n} e = take_at new (drop (length new) old) n e

  pub over_rest : (new old : List A) {n : ℕ} → length new ≡ n → drop n (over new old) ≡ drop n old
  over_rest new old {n} e = drop_at new (drop (length new) old) n e ∙ ap (λ (k : ℕ). drop k old) e

  pub over_old : (new old : List A) (k : ℕ) (d : A) → length new ≤ k → get_or (over new old) k d ≡ get_or old k d
  over_old new old k d h =
      let e : k ≡ length new + (k - length new) = omega arith in
      ap (λ (j : ℕ). get_or (over new old) j d) e
      ∙ get_or-append-add new (drop (length new) old) (k - length new) d
      ∙ get_or-drop (length new) old (k - length new) d
      ∙ ap (λ (j : ℕ). get_or old j d) (sym e)

  -- ---- from a place on

  pub place_zero : (old new : List A) → place old 0 new ≡ over new old
  place_zero old new = ap (λ (k : ℕ). new ++ drop k old) (zero-add (length new))

  pub place_none : (old : List A) (i : ℕ) → place old i [] ≡ old
  place_none old i = rw (add-zero, take-append-drop)

  pub place_one : (old : List A) (i : ℕ) (v : A) → i < length old → set old i v ≡ place old i (v ∷ [])
  place_one old i v h = rw add-one (set_split old i v h)

  pub length_place : (old : List A) (i : ℕ) (new : List A) → i + length new ≤ length old → length (place old i new) ≡ length old
  length_place old i new h = simp (length-append, length-take, length-drop) (omega arith)

  -- more elements right after those placed
  pub place_then : (old : List A) (i : ℕ) (a b : List A) {o : List A} {j : ℕ} → o ≡ place old i a → j ≡ i + length a → j + length b ≤ length old → place o j b ≡ place old i (a ++ b)
  place_then old i a b e q h =
      let p : length (take i old ++ a) ≡ i + length a = simp (length-append, length-take) (omega arith) in
      let k : length (take i old ++ a) + length b ≡ i + length (a ++ b) = simp (length-append, length-take) (omega arith) in
      rw (e, q, ← append_assoc (take i old) a, take_at (take i old ++ a) _ _ p, ← p, drop-append-add, drop-drop, append_assoc (take i old) a, append_assoc a b)
      (ap (λ (n : ℕ). take i old ++ (a ++ (b ++ drop n old))) k)

  -- a copy to the front of the part from place i on
  pub place_part : (old new : List A) (i : ℕ) → i + length new ≤ length old → take i old ++ ((take (length new) new ++ drop (length new) (take (length old - i) (drop i old))) ++ drop (length old - i) (drop i old)) ≡ place old i new
  place_part old new i h =
      let e : length (drop i old) ≤ length old - i = simp length-drop (omega arith) in
      rw (take-length, take_all _ (drop i old) e, drop_of_length-le (drop i old) e, append-nil, drop-drop)

  -- ---- a run of stores, and a list of one value

  pub take_sets : (old : List A) (i : ℕ) (new : List A) → i + length new ≤ length old → take (i + length new) (sets old i new) ≡ take i old ++ new
  take_sets old i new h =
      ap (take (i + length new)) (sets-eq new old i h)
      ∙ take_at (take i old ++ new) (drop (i + length new) old) (i + length new) (omega (arith, length-append (take i old) new, length-take i old))

  -- it has that value everywhere, past its end too
  pub replicate_same : (v : A) (n k : ℕ) → get_or (replicate n v) k v ≡ v
  replicate_same v n k =
      by_order k n (λ l. get_or-replicate n k v v l) (λ l. get_or-eq_default (replicate n v) v (omega (arith, length-replicate n v)))

  -- a front as long as the list or shorter
  pub take_min : (m : ℕ) (l : List A) → take (min (length l) m) l ≡ take m l
  take_min zero l = rw min-zero
  take_min (suc m) [] = rw zero-min
  take_min (suc m) (x ∷ l) = rw suc-min-suc (ap (λ (r : List A). x ∷ r) (take_min m l))
