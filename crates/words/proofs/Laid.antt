-- A list laid over another place by place, as a loop does it, and the words of a table so laid.
-- Assumes nothing.
use mathlib.Core.Path.{◌≡◌, refl, sym, ap, subst, ◌∙◌}
use mathlib.Core.List.{List, [], ◌∷◌, ◌++◌, append_assoc, append-nil}
use Prim.Native.Nat.{ℕ, ◌+◌, ◌≤◌, ◌<◌}
use native.Mathlib.Nat.{zero-add}
use native.Mathlib.Numerals.{add-one}
use native.Mathlib.Omega.{arith}
use lib.ListN.{length, get_or, set, take, length-take, length-append, drop_of_length-le}
use lib.Seq.{take_all, take-suc}
use Rattle.laws.specs.Placed.{place}
use Rattle.laws.proofs.Placed.{place_zero, place_none, place_one, place_then, length_place}

module _ {A : Type 0} where
  -- the first k elements of `new` are laid over `old` from place i on
  pub record Laid (old : List A) (i : ℕ) (new : List A) (out : List A) (k : ℕ) : Type 0 where
    pub few : k ≤ length new
    pub room : i + length new ≤ length old
    pub is : out ≡ place old i (take k new)

  pub laid_none : (old : List A) (i : ℕ) (new : List A) → i + length new ≤ length old → Laid old i new old 0
  laid_none old i new h = record { few = omega arith; room = h; is = sym (place_none old i) }

  pub laid_next : {old : List A} {i : ℕ} {new out : List A} {k : ℕ} (d : A) {v : A} → Laid old i new out k → k < length new → v ≡ get_or new k d → Laid old i new (set out (i + k) v) (k + 1)
  laid_next {old} {i} {new} {out} {k} d {v} l h e =
      let n : length (take k new) ≡ k = simp length-take (omega arith) in
      let fits : i + length (take k new) ≤ length old = omega (arith, l.room) in
      let long : i + k < length out = omega (arith, l.room, ap length l.is ∙ length_place old i (take k new) fits) in
      record {
        few = omega arith;
        room = l.room;
        is =
            place_one out (i + k) v long
            ∙ place_then old i (take k new) (v ∷ []) {j = i + k} l.is (omega arith) (omega (arith, l.room))
            ∙ ap (place old i) (ap (λ (x : A). take k new ++ (x ∷ [])) e ∙ sym (take-suc new k d h) ∙ ap (λ (m : ℕ). take m new) (sym (add-one k)));
      }

  -- the same from the front on
  pub laid_first : {old new out : List A} {k : ℕ} (d : A) {v : A} → Laid old 0 new out k → k < length new → v ≡ get_or new k d → Laid old 0 new (set out k v) (k + 1)
  laid_first {old} {new} {out} {k} d {v} l h e = subst (λ (j : ℕ). Laid old 0 new (set out j v) (k + 1)) (zero-add k) (laid_next d l h e)

  pub laid_all : {old : List A} {i : ℕ} {new out : List A} {k : ℕ} → Laid old i new out k → length new ≤ k → out ≡ place old i new
  laid_all {old} {i} {new} {k = k} l h = l.is ∙ ap (place old i) (take_all k new h)

  -- what is as long as the old list stands in its place
  pub place_whole : (old new : List A) → length new ≡ length old → place old 0 new ≡ new
  place_whole old new e = place_zero old new ∙ ap (λ (l : List A). new ++ l) (drop_of_length-le old {i = length new} (omega arith)) ∙ append-nil new

-- a count, months, the words of offsets and the number of a month, laid one after the other over as many words
pub table_laid : (old : List ℕ) {a b : List ℕ} (count vouched : ℕ) (months words : List ℕ) → length old ≡ 130 → length months ≡ 64 → length words ≡ 64 → a ≡ place (set old 0 count) 1 months → b ≡ place a 65 words → set b 129 vouched ≡ count ∷ (months ++ (words ++ vouched ∷ []))
table_laid old {a} {b} count vouched months words l m w e f =
    let q : 1 + length months ≡ length (count ∷ months) = omega arith in
    let p : a ≡ place old 0 (count ∷ months) = e ∙ place_then old 0 (count ∷ []) months {j = 1} (place_one old 0 count (omega arith)) refl (omega arith) in
    let r : b ≡ place old 0 (count ∷ (months ++ words)) = f ∙ place_then old 0 (count ∷ months) words {j = 65} p (omega arith) (omega arith) in
    let n : length b ≡ 130 = ap length r ∙ length_place old 0 (count ∷ (months ++ words)) (omega (arith, length-append months words)) ∙ l in
    place_one b 129 vouched (omega arith)
    ∙ place_then old 0 (count ∷ (months ++ words)) (vouched ∷ []) {j = 129} r (omega (arith, length-append months words)) (omega arith)
    ∙ place_whole old (count ∷ ((months ++ words) ++ vouched ∷ [])) (omega (arith, length-append months words, length-append (months ++ words) (vouched ∷ [])))
    ∙ ap (λ (x : List ℕ). count ∷ x) (append_assoc months words (vouched ∷ []))
