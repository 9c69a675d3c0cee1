-- Pairs of hex digits, read into a buffer and written from bytes.
-- Assumes nothing.
use mathlib.Core.Path.{◌≡◌, refl, sym, ap, ◌∙◌}
use mathlib.Core.Bool.{Bool, true, false, cond}
use mathlib.Core.List.{List, [], ◌∷◌, ◌++◌, append_assoc, append-nil}
use Prim.Native.Nat.{ℕ, zero, suc, ◌+◌, ◌*◌, ◌/◌, ◌%◌, ◌≤◌, ◌<◌}
use native.Mathlib.Numerals.{add-one}
use native.Mathlib.Omega.{arith}
use borrow.Author.Tests.{lt-ltb, ltb-true, eq-eqb, ne_eqb, le-leb, lt-leb}
use lib.Dec.{eqb, ltb, leb}
use lib.ListN.{length, take, drop, get_or, set, take-append-drop, length-drop, length-set}
use lib.Seq.{drop-cons, drop-drop, take_at, take-suc, take-suc-set, drop-set-lt, length-take-le}
use Rattle.std.specs.Prelude.{Some, None}
use Rattle.laws.specs.Placed.{place}
use Rattle.laws.proofs.Placed.{place_none, place_then}
use Rattle.lines.specs.Pairs.{nibble, paired, all_pairs, hex_of, hex_into, glyph, hex_text, hex_shown}

-- the two digits at a pair's place
module _ (s : List ℕ) (i : ℕ) (h : i * 2 + 1 < length s) where
  pair : drop (i * 2) s ≡ get_or s (i * 2) 0 ∷ get_or s (i * 2 + 1) 0 ∷ drop ((i + 1) * 2) s
  pair =
      let n : suc (suc (i * 2)) ≡ (i + 1) * 2 = omega arith in
      let m : suc (i * 2) ≡ i * 2 + 1 = omega arith in
      drop-cons s (i * 2) 0 (omega arith)
      ∙ ap (λ (l : List ℕ). get_or s (i * 2) 0 ∷ l) (drop-cons s (suc (i * 2)) 0 (omega arith))
      ∙ ap (λ (l : List ℕ). get_or s (i * 2) 0 ∷ get_or s (suc (i * 2)) 0 ∷ l) (ap (λ (k : ℕ). drop k s) n)
      ∙ ap (λ (k : ℕ). get_or s (i * 2) 0 ∷ get_or s k 0 ∷ drop ((i + 1) * 2) s) m

  module _ {a b : ℕ} (p : a ≡ nibble (get_or s (i * 2) 0)) (q : b ≡ nibble (get_or s (i * 2 + 1) 0)) where
    pub pair_good : a < 16 → b < 16 → paired (drop (i * 2) s) ≡ (a * 16 + b) ∷ paired (drop ((i + 1) * 2) s)
    unfolding paired
    pair_good x y = rw (pair, ← p, ← q, lt-ltb a 16 x, lt-ltb b 16 y)

short : (s : List ℕ) → length s ≤ 1 → paired s ≡ []
unfolding paired
short [] h = refl
short (a ∷ []) h = refl
short (a ∷ b ∷ s) h = absurd (omega arith)

pub pair_end : (s : List ℕ) (i : ℕ) → length s / 2 ≤ i → paired (drop (i * 2) s) ≡ []
pair_end s i h = short (drop (i * 2) s) (simp length-drop (omega arith))

-- what is stored and what is still to be read are the whole
pub record Read (w : List ℕ) (start out : List ℕ) (i : ℕ) : Type 0 where
  pub whole : take i out ++ paired (drop (i * 2) w) ≡ paired w
  pub rest : drop i out ≡ drop i start
  pub size : length out ≡ length start
  pub low : i ≤ length w / 2

pub read_none : (w out : List ℕ) → Read w out out 0
read_none w out = record { whole = refl; rest = refl; size = refl; low = omega arith }

module _ (w start out : List ℕ) (i : ℕ) (r : Read w start out i) (room : length w / 2 ≤ length start) where
  pub read_more : (v : ℕ) → i < length w / 2 → paired (drop (i * 2) w) ≡ v ∷ paired (drop ((i + 1) * 2) w) → Read w start (set out i v) (i + 1)
  read_more v h e = record {
    whole =
        let n : i + 1 ≡ suc i = add-one i in
        ap (λ (k : ℕ). take k (set out i v) ++ paired (drop ((i + 1) * 2) w)) n
        ∙ ap (λ (l : List ℕ). l ++ paired (drop ((i + 1) * 2) w)) (take-suc-set out i v (omega (arith, r.size)))
        ∙ append_assoc (take i out) (v ∷ []) _
        ∙ ap (λ (l : List ℕ). take i out ++ l) (sym e)
        ∙ r.whole;
    rest = drop-set-lt (i + 1) out i v (omega arith) ∙ next_rest;
    size = length-set out i v ∙ r.size;
    low = omega arith;
  }
    where
      next_rest : drop (i + 1) out ≡ drop (i + 1) start
      next_rest = sym (drop_drop' out) ∙ ap (drop 1) r.rest ∙ drop_drop' start
        where
          drop_drop' : (l : List ℕ) → drop 1 (drop i l) ≡ drop (i + 1) l
          drop_drop' l = drop-drop 1 i l

  pub read_done : paired (drop (i * 2) w) ≡ [] → (i ≡ length (paired w)) × (out ≡ place start 0 (paired w))
  read_done e =
      let f : take i out ≡ paired w = sym (append-nil (take i out)) ∙ ap (λ (l : List ℕ). take i out ++ l) (sym e) ∙ r.whole in
      let n : i ≡ length (paired w) = sym (length-take-le i out (omega (arith, r.size, r.low))) ∙ ap length f in
      let z : 0 + length (paired w) ≡ i = omega arith in
      (n, sym (take-append-drop i out) ∙ ap (λ (l : List ℕ). l ++ drop i out) f ∙ ap (λ (l : List ℕ). paired w ++ l) r.rest ∙ ap (λ (k : ℕ). paired w ++ drop k start) (sym z))

-- ---- a word of pairs in a buffer with room
module _ (out s : List ℕ) where
  pub no_room : length out < length s / 2 → (None ≡ hex_of (length out) s) × (out ≡ hex_into out s)
  unfolding hex_of hex_into
  no_room h = (rw (lt-leb (length s / 2) (length out) h), rw (lt-leb (length s / 2) (length out) h))

  module _ (h : length s / 2 ≤ length out) {n : ℕ} (p : n ≡ length (paired s)) where
    pub not_pairs : (n * 2 ≡ length s → ⊥) → (None ≡ hex_of (length out) s) × (out ≡ hex_into out s)
    unfolding hex_of hex_into all_pairs
    not_pairs e =
        let r = le-leb (length s / 2) (length out) h in
        let q = ne_eqb (n * 2) (length s) e in
        (rw (r, ← p, q), rw (r, ← p, q))

    pub all_pairs_lem : n * 2 ≡ length s → {m : ℕ} {after : List ℕ} → (m ≡ length (paired s)) × (after ≡ place out 0 (paired s)) → (Some m ≡ hex_of (length out) s) × (after ≡ hex_into out s)
    unfolding hex_of hex_into all_pairs
    all_pairs_lem e {m} {after} u =
        let r = le-leb (length s / 2) (length out) h in
        let q : eqb (length (paired s) * 2) (length s) ≡ true = eq-eqb (length (paired s) * 2) (length s) (ap (λ (k : ℕ). k * 2) (sym p) ∙ e) in
        (rw (r, q) (ap Some u.0), rw (r, q) u.1)

pub paired_few : (s : List ℕ) → length (paired s) * 2 ≤ length s
unfolding paired
paired_few [] = omega arith
paired_few (a ∷ []) = omega arith
paired_few (a ∷ b ∷ s) = go (ltb (nibble a) 16) (ltb (nibble b) 16) (paired_few s)
  where
    go : (x y : Bool) → length (paired s) * 2 ≤ length s → length (cond x (cond y ((nibble a * 16 + nibble b) ∷ paired s) []) []) * 2 ≤ suc (suc (length s))
    go false y h = omega arith
    go true false h = omega arith
    go true true h = omega arith

-- where nothing but pairs stands, each byte is a hex digit
pub pairs_digits : (s : List ℕ) → length (paired s) * 2 ≡ length s → (k : ℕ) → k < length s → nibble (get_or s k 0) < 16
unfolding paired
pairs_digits [] e k h = absurd (omega arith)
pairs_digits (a ∷ []) e k h = absurd (omega arith)
pairs_digits (a ∷ b ∷ s) e k h = go (ltb (nibble a) 16) refl (ltb (nibble b) 16) refl e (pairs_digits s) k h
  where
    go : (x : Bool) → ltb (nibble a) 16 ≡ x → (y : Bool) → ltb (nibble b) 16 ≡ y
        → length (cond x (cond y ((nibble a * 16 + nibble b) ∷ paired s) []) []) * 2 ≡ suc (suc (length s))
        → (length (paired s) * 2 ≡ length s → (j : ℕ) → j < length s → nibble (get_or s j 0) < 16)
        → (j : ℕ) → j < suc (suc (length s)) → nibble (get_or (a ∷ b ∷ s) j 0) < 16
    go false p y q e ih j l = absurd (omega arith)
    go true p false q e ih j l = absurd (omega arith)
    go true p true q e ih zero l = ltb-true (nibble a) 16 p
    go true p true q e ih (suc zero) l = ltb-true (nibble b) 16 q
    go true p true q e ih (suc (suc j)) l = ih (omega arith) j (omega arith)

-- nothing is stored where there are no pairs
pub into_none : (out s : List ℕ) → paired s ≡ [] → out ≡ hex_into out s
unfolding hex_into
into_none out s e = go (leb (length s / 2) (length out)) (all_pairs s)
  where
    go : (t u : Bool) → out ≡ cond t (cond u (place out 0 (paired s)) out) out
    go true true = rw e (sym (place_none out 0))
    go true false = refl
    go false u = refl

-- ---- a caller with room for every pair
module _ (s : List ℕ) {room : ℕ} (h : length s / 2 ≤ room) where
  pub hex_bad : hex_of room s ≡ None → all_pairs s ≡ false
  unfolding hex_of
  hex_bad e = go (all_pairs s) (rw (le-leb (length s / 2) room h) at e)
    where
      go : (t : Bool) → cond t (Some (length (paired s))) None ≡ None → t ≡ false
      go true q = cc
      go false q = refl

  pub hex_good : {n : ℕ} → hex_of room s ≡ Some n → (all_pairs s ≡ true) × (n ≡ length (paired s))
  unfolding hex_of
  hex_good {n} e = go (all_pairs s) (rw (le-leb (length s / 2) room h) at e)
    where
      go : (t : Bool) → cond t (Some (length (paired s))) None ≡ Some n → (t ≡ true) × (n ≡ length (paired s))
      go true q = (refl, cc)
      go false q = (cc, cc)

pub into_front : (out s : List ℕ) → length s / 2 ≤ length out → all_pairs s ≡ true → take (length (paired s)) (hex_into out s) ≡ paired s
unfolding hex_into
into_front out s h e = rw (le-leb (length s / 2) (length out) h, e) (take_at (paired s) _ (length (paired s)) refl)

-- ---- bytes as hex

pub hex_length : (s : List ℕ) → length (hex_text s) ≡ length s * 2
unfolding hex_text
hex_length [] = refl
hex_length (b ∷ s) = let h = hex_length s in omega arith

hex_append : (s t : List ℕ) → hex_text (s ++ t) ≡ hex_text s ++ hex_text t
unfolding hex_text
hex_append [] t = refl
hex_append (b ∷ s) t = ap (λ (l : List ℕ). glyph (b / 16) ∷ glyph (b % 16) ∷ l) (hex_append s t)

-- one byte more, right after those placed
pub hex_more : (l : List ℕ) (i k : ℕ) (s : List ℕ) {o p : List ℕ} → k < length s → i + length s * 2 ≤ length l
    → o ≡ place l i (hex_text (take k s)) → p ≡ hex_text (get_or s k 0 ∷ []) → place o (i + k * 2) p ≡ place l i (hex_text (take (k + 1) s))
hex_more l i k s {o} {p} h r e q =
    let n : length (hex_text (take k s)) ≡ k * 2 = hex_length (take k s) ∙ ap (λ (m : ℕ). m * 2) (length-take-le k s (omega arith)) in
    let m : length (hex_text (get_or s k 0 ∷ [])) ≡ 2 = hex_length (get_or s k 0 ∷ []) in
    ap (place o (i + k * 2)) q ∙ place_then l i (hex_text (take k s)) (hex_text (get_or s k 0 ∷ [])) {j = i + k * 2} e (omega arith) (omega arith)
    ∙ ap (place l i) (sym (hex_append (take k s) (get_or s k 0 ∷ [])) ∙ ap hex_text (sym (rw (add-one k) (take-suc s k 0 h))))

pub pair_size : (b : ℕ) {p : List ℕ} → p ≡ hex_text (b ∷ []) → length p ≡ 2
pair_size b e = ap length e ∙ hex_length (b ∷ [])

pub hex_some : (s : List ℕ) → (length s ≡ 0 → ⊥) → hex_text s ≡ hex_shown s
unfolding hex_shown
hex_some [] h = absurd (h refl)
hex_some (b ∷ s) h = refl

pub hex_none : (s : List ℕ) → length s ≡ 0 → 45 ∷ [] ≡ hex_shown s
unfolding hex_shown
hex_none [] h = refl
hex_none (b ∷ s) h = absurd (omega arith)
