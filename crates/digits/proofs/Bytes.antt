-- Bytes at an index, bytes that are the same, and text in a lent buffer: one appended, one behind another.
-- Assumes nothing.
use mathlib.Core.Path.{◌≡◌, refl, sym, ap, ap₂, subst, ◌∙◌}
use mathlib.Core.Bool.{Bool, true, false}
use mathlib.Core.List.{List, [], ◌∷◌, ◌++◌}
use Prim.Native.Nat.{ℕ, zero, suc, ◌+◌, ◌-◌, min, ◌≤◌, ◌<◌}
use native.Mathlib.Omega.{arith}
use borrow.Author.Tests.{le-leb, lt-leb, eq-eqb, eqb-true}
use lib.Dec.{eqb}
use lib.ListN.{length, take, drop, length-append, length-drop}
use lib.Seq.{length-take-le, take_all}
use Rattle.laws.specs.Placed.{place}
use Rattle.laws.proofs.Cases.{and_l, and_r}
use Rattle.laws.proofs.Placed.{length_place, place_none, place_then}
use Rattle.digits.specs.Bytes.{bytes_at, same_bytes, end_of, appended, Appended, Placed}

pub bytes_length : (s : List ℕ) (i w : ℕ) → length (bytes_at s i w) ≡ w
bytes_length s i zero = refl
bytes_length s i (suc w) = ap suc (bytes_length s (i + 1) w)

pub same_true : (a b : List ℕ) → same_bytes a b ≡ true → a ≡ b
same_true [] [] e = refl
same_true [] (y ∷ ys) e = cc
same_true (x ∷ xs) [] e = cc
same_true (x ∷ xs) (y ∷ ys) e = ap₂ ◌∷◌ (eqb-true x y (and_l _ (same_bytes xs ys) e)) (same_true xs ys (and_r (eqb x y) _ e))

pub same_self : (a : List ℕ) → same_bytes a a ≡ true
same_self [] = refl
same_self (x ∷ a) = rw (eq-eqb x x refl, same_self a)

-- a comparison that answers true exactly for the same bytes
pub same_is : (r : Bool) (a b : List ℕ) → (r ≡ true → a ≡ b) → (a ≡ b → r ≡ true) → r ≡ same_bytes a b
same_is true a b f g = sym (ap (same_bytes a) (sym (f refl)) ∙ same_self a)
same_is false a b f g = go (same_bytes a b) refl
  where
    go : (t : Bool) → same_bytes a b ≡ t → false ≡ same_bytes a b
    go true e = let z : false ≡ true = g (same_true a b e) in cc
    go false e = sym e

-- what a slice from an index to the end of 21 bytes holds
pub rest_is : (l : List ℕ) (i : ℕ) → length l ≡ 21 → take (21 - i) (drop i l) ≡ drop i l
rest_is l i h = take_all (21 - i) (drop i l) (simp length-drop (omega arith))

-- ---- one text appended

module _ (l : List ℕ) (i : ℕ) (v : List ℕ) where
  pub room_yes : i + length v ≤ length l → {o : List ℕ} → o ≡ place l i v → Appended l i v (i + length v) o
  unfolding end_of appended
  room_yes h {o} e =
      let n : length o ≡ length l = ap length e ∙ length_place l i v h in
      record {
        end = rw (le-leb (i + length v) (length l) h);
        text = rw (le-leb (i + length v) (length l) h) e;
        counts = (omega arith, sym (length-take-le (i + length v) o (omega arith)));
      }

  pub room_no : length l < i + length v → {r : ℕ} → r ≡ min i (length l) → Appended l i v r l
  unfolding end_of appended
  room_no h {r} e =
      record {
        end = rw (lt-leb (i + length v) (length l) h) e;
        text = rw (lt-leb (i + length v) (length l) h);
        counts = (omega arith, sym (length-take-le r l (omega arith)));
      }

-- the same text by another name
pub same_text : (l : List ℕ) (i r : ℕ) {v w o : List ℕ} → v ≡ w → Appended l i v r o → Appended l i w r o
same_text l i r {o = o} e = subst (λ (x : List ℕ). Appended l i x r o) e

-- ---- texts one behind the other where there is room

module _ (l : List ℕ) (i : ℕ) (v : List ℕ) {r : ℕ} {o : List ℕ} (h : i + length v ≤ length l) where
  pub is_placed : r ≡ i + length v → o ≡ place l i v → Placed l i v r o
  is_placed e q = record { end = e; text = q; size = ap length q ∙ length_place l i v h; inside = omega arith }

  pub placed : Appended l i v r o → Placed l i v r o
  unfolding end_of appended
  placed p = is_placed (p.end ∙ rw (le-leb (i + length v) (length l) h)) (p.text ∙ rw (le-leb (i + length v) (length l) h))

-- the same text by another name
pub placed_as : {l : List ℕ} {i : ℕ} {v w : List ℕ} {r : ℕ} {o : List ℕ} → v ≡ w → Placed l i v r o → Placed l i w r o
placed_as {l} {i} {r = r} {o = o} e p = subst (λ (x : List ℕ). Placed l i x r o) e p

module _ (l : List ℕ) (i : ℕ) (a b : List ℕ) {j r : ℕ} {m o : List ℕ} (p : Placed l i a j m) where
  pub then_placed : Placed m j b r o → Placed l i (a ++ b) r o
  then_placed q =
      let n : i + length (a ++ b) ≤ length l = simp length-append (omega (arith, p.end, p.size, q.end, q.inside)) in
      is_placed l i (a ++ b) n (q.end ∙ simp length-append (omega (arith, p.end))) (q.text ∙ place_then l i a b p.text p.end (omega (arith, p.size, q.end, q.inside)))

  pub placed_then : i + (length a + length b) ≤ length l → Appended m j b r o → Placed l i (a ++ b) r o
  placed_then h q = then_placed (placed m j b (omega (arith, p.end, p.size)) q)

-- no text yet
pub nothing : (l : List ℕ) (i : ℕ) → i ≤ length l → Placed l i [] i l
nothing l i h = is_placed l i [] (omega arith) (omega arith) (sym (place_none l i))

-- one text more, by the name that the whole has for it
pub behind : {l m o a x b : List ℕ} {i j r : ℕ} → Placed l i a j m → x ≡ b → Appended m j x r o → i + (length a + length b) ≤ length l → Placed l i (a ++ b) r o
behind {l} {m} {a = a} {b = b} {i = i} {j = j} {r = r} p e q h = placed_then l i a b p h (same_text m j r e q)

-- the digits of a number from place k on, of nine
pub digits_from : (k : ℕ) {x y : List ℕ} → x ≡ y → take (9 - k) (drop k x) ≡ take (9 - k) (drop k y)
digits_from k = ap (λ (l : List ℕ). take (9 - k) (drop k l))
