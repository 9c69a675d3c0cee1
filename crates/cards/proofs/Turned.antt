-- Cards from the last to the first: their entries turned round, and how arrays hold them.
-- Assumes nothing.
use Prim.Native.Nat.{ℕ, ◌-◌, ◌≤◌, ◌<◌}
use mathlib.Core.Path.{◌≡◌, refl, sym, ap, ap₂, subst, ◌∙◌}
use mathlib.Core.Bool.{Bool, true, false}
use mathlib.Core.List.{List, [], ◌∷◌, ◌++◌, reverse, reverse-cons, map, map-append}
use native.Mathlib.Omega.{arith}
use lib.IntN.{ℤ, pos}
use lib.ListN.{length, take, drop, replicate, length-reverse, length-map}
use lib.Seq.{take_at, drop-append_seam}
use Rattle.answer.specs.declared.Refusal.TheVariants.{Table as TABLE}
use Rattle.leap.specs.declared.Table.{Table}
use Rattle.leap.specs.Leap.{padded, tabled}
use Rattle.leap.specs.Entries.{Entry, entries, table_of}
use Rattle.leap.specs.Readers.{refused_at, judged}
use Rattle.leap.proofs.Entries.{Holds, holds_table, holds_long, entries_long}
use Rattle.leap.proofs.Facts.{too_many}
use Rattle.cards.specs.Reading.{turned}

-- the arrays of a table of entries
holds_of : (es : List Entry) → Holds (table_of es).months (table_of es).offsets es
unfolding table_of
holds_of es = record { months_are = refl; offsets_are = refl }

-- over 64 entries are no table, turned or not
pub turned_many : (falling : Bool) (t : Table) → 64 < t.count → refused_at TABLE 0 ≡ judged (turned falling t)
unfolding table_of
turned_many true t l = rw (too_many (table_of (reverse (entries t))) (omega (arith, length-reverse (entries t), entries_long t)))
turned_many false t l = rw (too_many t l)

-- one part of each entry, turned where it stands
module _ {A : Type 0} (part : Entry → A) where
  map_reverse : (es : List Entry) → map part (reverse es) ≡ reverse (map part es)
  map_reverse [] = refl
  map_reverse (e ∷ es) =
      ap (map part) (reverse-cons e es)
      ∙ map-append part (reverse es) (e ∷ [])
      ∙ ap (λ l. l ++ part e ∷ []) (map_reverse es)
      ∙ sym (reverse-cons (part e) (map part es))

  parts_turned : (z : A) (es : List Entry) (n : ℕ) → length es ≡ n → reverse (take n (padded z (map part es))) ++ drop n (padded z (map part es)) ≡ padded z (map part (reverse es))
  parts_turned z es n e =
      let l : length (map part es) ≡ n = length-map es part ∙ e in
      let rest = replicate (64 - length (map part es)) z in
      let m : length (map part es) ≡ length (map part (reverse es)) = length-map es part ∙ sym (length-reverse es) ∙ sym (length-map (reverse es) part) in
      ap₂ (λ x y. reverse x ++ y) (take_at (map part es) rest n l) (subst (λ k. drop k (map part es ++ rest) ≡ rest) l (drop-append_seam (map part es) rest))
      ∙ ap₂ (λ x k. x ++ replicate (64 - k) z) (sym (map_reverse es)) m

-- both its arrays are as long as its entries are many
pub held_in : {t : Table} → t ≡ table_of (entries t) → t.count ≤ 64 → (t.count ≤ length t.months) × (t.count ≤ length t.offsets)
held_in {t} z l =
    let n = entries_long t in
    let long = holds_long (holds_of (entries t)) (omega (arith, n)) in
    (omega (arith, long.0, ap (λ u. length u.months) z), omega (arith, long.1, ap (λ u. length u.offsets) z))

-- a table of its entries alone, with both its arrays turned
pub turned_is : (t : Table) → t ≡ table_of (entries t) → {ms : List ℕ} {os : List ℤ} → ms ≡ reverse (take t.count t.months) → os ≡ reverse (take t.count t.offsets)
    → tabled t.count (ms ++ drop t.count t.months) (os ++ drop t.count t.offsets) ≡ table_of (reverse (entries t))
turned_is t z p q =
    let es = entries t in
    let n = entries_long t in
    holds_table
    (record {
      months_are = ap (λ l. l ++ drop t.count t.months) p ∙ ap (λ l. reverse (take t.count l) ++ drop t.count l) (ap (λ u. u.months) z ∙ (holds_of es).months_are) ∙ parts_turned (λ e. e.0) 0 es t.count n;
      offsets_are = ap (λ l. l ++ drop t.count t.offsets) q ∙ ap (λ l. reverse (take t.count l) ++ drop t.count l) (ap (λ u. u.offsets) z ∙ (holds_of es).offsets_are) ∙ parts_turned (λ e. e.1) (pos 0) es t.count n;
    })
    (length-reverse es ∙ n)
