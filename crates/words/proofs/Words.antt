-- The words of a table and the table of its words, each by its elements; they undo each other.
-- Assumes nothing.
use mathlib.Core.Path.{◌≡◌, refl, sym, ap, ap₂, ◌∙◌}
use mathlib.Core.List.{List, [], ◌∷◌, ◌++◌, map, append-nil, append_assoc}
use Prim.Native.Nat.{ℕ, zero, suc, ◌+◌, ◌%◌, ◌≤◌, ◌<◌}
use native.Mathlib.Nat.{add-zero, zero-add}
use native.Mathlib.Omega.{arith}
use lib.IntN.{ℤ, pos}
use lib.ListN.{length, get_or, take, drop, length-take, length-drop, length-append, length-map, get_or-append}
use lib.Seq.{ext_get_or, get_or-take, get_or-drop, get_or-append-add}
use mir.Syntax.{w32}
use mir.Val.{Fits, SFits}
use mir.Facts.{to_z-of_z, of_z-to_z}
use Rattle.leap.specs.declared.Table.{Table}
use Rattle.leap.specs.Leap.{tabled, vouched_to}
use Rattle.words.specs.Words.{offset_from, offset_word, words_at, table_from, table_words, Held, Struct, Undone}

pub same_table : {n n' : ℕ} {ms ms' : List ℕ} {os os' : List ℤ} {v v' : ℕ} → n ≡ n' → ms ≡ ms' → os ≡ os' → v ≡ v' → vouched_to v (tabled n ms os) ≡ vouched_to v' (tabled n' ms' os')
same_table p q r s = λ i. record { count = p i; months = q i; offsets = r i; vouched = s i }

-- ---- words from a place on

pub length_at : (i n : ℕ) (words : List ℕ) → length (words_at i n words) ≡ n
unfolding words_at
length_at i zero words = refl
length_at i (suc n) words = ap suc (length_at (i + 1) n words)

pub at_is : (i n : ℕ) (words : List ℕ) (k : ℕ) → k < n → get_or (words_at i n words) k 0 ≡ get_or words (i + k) 0
unfolding words_at
at_is i zero words k h = absurd (omega arith)
at_is i (suc n) words zero h = ap (λ (j : ℕ). get_or words j 0) (sym (add-zero i))
at_is i (suc n) words (suc k) h =
    let e : i + 1 + k ≡ i + suc k = omega arith in
    at_is (i + 1) n words k (omega arith) ∙ ap (λ (j : ℕ). get_or words j 0) e

-- they are a part
pub at_part : (i n : ℕ) (words : List ℕ) → i + n ≤ length words → words_at i n words ≡ take n (drop i words)
at_part i n words h =
    let e : length (take n (drop i words)) ≡ n = simp (length-take, length-drop) (omega arith) in
    ext_get_or 0 (words_at i n words) (take n (drop i words)) (length_at i n words ∙ sym e)
    (λ k l.
    let m : k < n = omega (arith, length_at i n words) in
    at_is i n words k m ∙ sym (get_or-take n (drop i words) k 0 m ∙ get_or-drop i words k 0))

-- between what stands before and after
at_among : (before mid after : List ℕ) {i n : ℕ} → length before ≡ i → length mid ≡ n → words_at i n (before ++ (mid ++ after)) ≡ mid
at_among before mid after {i} {n} e f =
    let words = before ++ (mid ++ after) in
    ext_get_or 0 (words_at i n words) mid (length_at i n words ∙ sym f)
    (λ k h.
    let l : k < n = omega (arith, length_at i n words) in
    at_is i n words k l
    ∙ ap (λ (j : ℕ). get_or words (j + k) 0) (sym e)
    ∙ get_or-append-add before (mid ++ after) k 0
    ∙ get_or-append mid after 0 k (omega arith))

at_join : (i m n : ℕ) (words : List ℕ) → words_at i m words ++ words_at (i + m) n words ≡ words_at i (m + n) words
unfolding words_at
at_join i zero n words = ap₂ (λ (j m : ℕ). words_at j m words) (add-zero i) (sym (zero-add n))
at_join i (suc m) n words =
    let e : i + suc m ≡ i + 1 + m = omega arith in
    let f : suc (m + n) ≡ suc m + n = omega arith in
    ap (λ (j : ℕ). get_or words i 0 ∷ (words_at (i + 1) m words ++ words_at j n words)) e
    ∙ ap (λ (l : List ℕ). get_or words i 0 ∷ l) (at_join (i + 1) m n words)
    ∙ ap (λ (j : ℕ). words_at i j words) f

-- ---- offsets and their words

offsets_back : (os : List ℤ) → ((k : ℕ) → SFits w32 (get_or os k (pos 0))) → map offset_from (map offset_word os) ≡ os
offsets_back [] f = refl
offsets_back (o ∷ os) f = ap₂ (λ (x : ℤ) (l : List ℤ). x ∷ l) (to_z-of_z (f 0)) (offsets_back os (λ k. f (suc k)))

words_kept : (i n : ℕ) (words : List ℕ) → ((k : ℕ) → Fits w32 (get_or words k 0)) → map offset_word (map offset_from (words_at i n words)) ≡ words_at i n words
unfolding words_at
words_kept i zero words f = refl
words_kept i (suc n) words f = ap₂ (λ (x : ℕ) (l : List ℕ). x ∷ l) (of_z-to_z (f i)) (words_kept (i + 1) n words f)

-- ---- both ways

back : (t : Table) → Held t → table_from (table_words t) ≡ t
unfolding table_from table_words
back t h =
    let n = t.count % 4294967296 in
    let offsets = map offset_word t.offsets in
    let few : n ≡ t.count = omega (arith, h.few) in
    let long : length offsets ≡ 64 = length-map t.offsets offset_word ∙ h.offsets_long in
    let last = t.vouched ∷ [] in
    let sixty_five : length (n ∷ t.months) ≡ 65 = omega (arith, h.months_long) in
    let before = n ∷ (t.months ++ offsets) in
    let end : 129 ≡ length before + 0 = omega (arith, length-append t.months offsets, h.months_long) in
    same_table few (at_among (n ∷ []) t.months (offsets ++ last) refl h.months_long)
    (ap (map offset_from) (at_among (n ∷ t.months) offsets last sixty_five long) ∙ offsets_back t.offsets h.offsets_fit)
    (ap (λ (l : List ℕ). get_or (n ∷ l) 129 0) (sym (append_assoc t.months offsets last))
    ∙ ap (λ (j : ℕ). get_or (before ++ last) j 0) end
    ∙ get_or-append-add before last 0 0)

forth : (words : List ℕ) → Struct words → table_words (table_from words) ≡ words
unfolding table_from table_words words_at
forth words h =
    let n = get_or words 0 0 in
    let few : n % 4294967296 ≡ n = omega (arith, (h.words_fit 0).fits) in
    ap₂ (λ (x : ℕ) (l : List ℕ). x ∷ (words_at 1 64 words ++ (l ++ words_at 129 1 words))) few (words_kept 65 64 words h.words_fit)
    ∙ ap (λ (l : List ℕ). n ∷ (words_at 1 64 words ++ l)) (at_join 65 64 1 words)
    ∙ ap (λ (l : List ℕ). n ∷ l) (at_join 1 64 65 words)
    ∙ ap (words_at 0 130) (sym (append-nil words))
    ∙ at_among [] words [] refl h.long

pub undone : Undone
unfolding table_words
undone = record { table_back = back; words_back = forth; zeros = refl }
