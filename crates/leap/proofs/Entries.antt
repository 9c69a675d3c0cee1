-- The entries of a table one by one, a table made entry by entry, and what is accepted in terms of them.
-- Assumes nothing.
use mathlib.Core.Path.{◌≡◌, refl, sym, ap, subst, ◌∙◌}
use mathlib.Core.Bool.{true}
use mathlib.Core.List.{List, [], ◌∷◌, ◌++◌, map, map-append}
use Prim.Native.Nat.{ℕ, zero, suc, ◌+◌, ◌-◌, ◌≤◌, ◌<◌}
use native.Mathlib.Numerals.{add-one}
use native.Mathlib.Omega.{arith}
use lib.IntN.{ℤ, pos}
use lib.ListN.{length, get_or, set, length-append, length-replicate, length-map, get_or-append, get_or-eq_default, get_or-map}
use lib.Seq.{set_at, get_or-append-add, ext_get_or, append_snoc}
use Rattle.laws.proofs.Cases.{by_order}
use Rattle.laws.proofs.Placed.{replicate_same}
use Rattle.leap.specs.declared.Table.{Table}
use Rattle.leap.specs.Leap.{tabled, vouched_to, padded, accepted}
use Rattle.leap.specs.Entries.{Entry, first_entry, no_entry, entry, entries_from, entries, table_of, Good}
use Rattle.leap.proofs.Facts.{Later, Accepted, same_entry, count_to, accepted_to, accepted_from}
use Rattle.leap.proofs.Vouched.{none_right}

-- ---- the places of a list

module _ {A : Type 0} (z : A) (xs : List A) where
  pub padded_long : length xs ≤ 64 → length (padded z xs) ≡ 64
  padded_long h = simp (length-append, length-replicate) (omega arith)

  pub padded_at : (k : ℕ) → get_or (padded z xs) k z ≡ get_or xs k z
  padded_at k =
      by_order k (length xs) (λ l. get_or-append xs _ z k l)
      (λ l.
      let e : k ≡ length xs + (k - length xs) = omega arith in
      rw e (get_or-append-add xs _ (k - length xs) z ∙ replicate_same z (64 - length xs) (k - length xs) ∙ sym (get_or-eq_default xs z (omega arith))))

  pub padded_put : (x : A) {k : ℕ} → length xs ≡ k → k < 64 → set (padded z xs) k x ≡ padded z (xs ++ x ∷ [])
  padded_put x {k} e l =
      let p : 64 - length xs ≡ suc (64 - (length xs + 1)) = omega arith in
      let q : length (xs ++ x ∷ []) ≡ length xs + 1 = length-append xs (x ∷ []) in
      rw (p, q) (set_at xs z _ x k e ∙ sym (append_snoc xs x _))

-- one part of each of these entries
module _ {A B : Type 0} (part : A → B) (z : A) (es : List A) where
  parts_long : length es ≤ 64 → length (padded (part z) (map part es)) ≡ 64
  parts_long h = padded_long (part z) (map part es) (omega (arith, length-map es part))

  parts_at : (k : ℕ) → get_or (padded (part z) (map part es)) k (part z) ≡ part (get_or es k z)
  parts_at k = padded_at (part z) (map part es) k ∙ get_or-map part es k z

  parts_put : (e : A) {k : ℕ} → length es ≡ k → k < 64 → set (padded (part z) (map part es)) k (part e) ≡ padded (part z) (map part (es ++ e ∷ []))
  parts_put e h l = padded_put (part z) (map part es) (part e) (length-map es part ∙ h) l ∙ ap (padded (part z)) (sym (map-append part es (e ∷ [])))

-- ---- a table that is made entry by entry

abbrev month : Entry → ℕ
month e = e.0

abbrev offset : Entry → ℤ
offset e = e.1

-- the arrays hold these entries, and zero after them
pub record Holds (months : List ℕ) (offsets : List ℤ) (es : List Entry) : Type 0 where
  pub months_are : months ≡ padded 0 (map (λ (e : Entry). e.0) es)
  pub offsets_are : offsets ≡ padded (pos 0) (map (λ (e : Entry). e.1) es)

module _ {months : List ℕ} {offsets : List ℤ} {es : List Entry} (h : Holds months offsets es) where
  pub holds_at : (k : ℕ) → (get_or months k 0, get_or offsets k (pos 0)) ≡ get_or es k no_entry
  holds_at k = same_entry (ap (λ l. get_or l k 0) h.months_are ∙ parts_at month no_entry es k) (ap (λ l. get_or l k (pos 0)) h.offsets_are ∙ parts_at offset no_entry es k)

  pub holds_more : (e : Entry) {k : ℕ} → length es ≡ k → k < 64 → Holds (set months k e.0) (set offsets k e.1) (es ++ e ∷ [])
  holds_more e {k} n l = record { months_are = ap (λ x. set x k e.0) h.months_are ∙ parts_put month no_entry es e n l; offsets_are = ap (λ x. set x k e.1) h.offsets_are ∙ parts_put offset no_entry es e n l }

  pub holds_table : {n : ℕ} → length es ≡ n → tabled n months offsets ≡ table_of es
  unfolding table_of
  holds_table n = let m = h.months_are in let o = h.offsets_are in λ i. record { count = sym n i; months = m i; offsets = o i; vouched = 0 }

  pub holds_long : length es ≤ 64 → (length months ≡ 64) × (length offsets ≡ 64)
  holds_long l = (ap length h.months_are ∙ parts_long month no_entry es l, ap length h.offsets_are ∙ parts_long offset no_entry es l)

holds_of : (es : List Entry) → Holds (table_of es).months (table_of es).offsets es
unfolding table_of
holds_of es = record { months_are = refl; offsets_are = refl }

pub entry_of : (es : List Entry) (k : ℕ) → entry (table_of es) k ≡ get_or es k no_entry
entry_of es k = holds_at (holds_of es) k

-- ---- a table and its entries

pub from_long : (t : Table) (k n : ℕ) → length (entries_from t k n) ≡ n
unfolding entries_from
from_long t k zero = refl
from_long t k (suc n) = ap suc (from_long t (k + 1) n)

pub from_at : (t : Table) (k n j : ℕ) → j < n → get_or (entries_from t k n) j no_entry ≡ entry t (k + j)
unfolding entries_from
from_at t k zero j l = absurd (omega arith)
from_at t k (suc n) zero l = ap (entry t) (omega arith)
from_at t k (suc n) (suc j) l = let e : k + 1 + j ≡ k + suc j = omega arith in from_at t (k + 1) n j (omega arith) ∙ ap (entry t) e

pub entries_long : (t : Table) → length (entries t) ≡ t.count
entries_long t = from_long t 0 t.count

pub entries_at : (t : Table) (k : ℕ) → k < t.count → get_or (entries t) k no_entry ≡ entry t k
entries_at t k l = let e : 0 + k ≡ k = omega arith in from_at t 0 t.count k l ∙ ap (entry t) e

-- the month that it is vouched for is in none of them
pub entries_same : (v : ℕ) (t : Table) → entries (vouched_to v t) ≡ entries t
unfolding entries_from
entries_same v t = from_same 0 t.count
  where
    from_same : (k n : ℕ) → entries_from (vouched_to v t) k n ≡ entries_from t k n
    from_same k zero = refl
    from_same k (suc n) = ap (◌∷◌ (entry t k)) (from_same (k + 1) n)

-- the entries of the table of a list are the list
pub entries_of : (es : List Entry) → entries (table_of es) ≡ es
unfolding table_of
entries_of es =
    let n = entries_long (table_of es) in
    ext_get_or no_entry (entries (table_of es)) es n (λ k l. entries_at (table_of es) k (omega arith) ∙ entry_of es k)

-- ---- what is accepted

-- these may come after entry e, one after another
abbrev pub Follow : Entry → List Entry → Type 0
Follow e [] = Unit {0}
Follow e (f ∷ es) = Later e f × Follow f es

follow_at : (e : Entry) (es : List Entry) → Follow e es → (k : ℕ) → k < length es → Later (get_or (e ∷ es) k no_entry) (get_or es k no_entry)
follow_at e [] h k l = absurd (omega arith)
follow_at e (f ∷ es) h zero l = h.0
follow_at e (f ∷ es) h (suc k) l = follow_at f es h.1 k (omega arith)

module _ {t : Table} (a : Accepted t) where
  follows : (k n : ℕ) → k + n < t.count → Follow (entry t k) (entries_from t (k + 1) n)
  unfolding entries_from
  follows k zero l = tt
  follows k (suc n) l = (a.later k (omega arith), follows (k + 1) n (omega arith))

  -- after the first entry, those that may come after it
  pub accepted_entries : (entries t ≡ first_entry ∷ entries_from t 1 (t.count - 1)) × Follow first_entry (entries_from t 1 (t.count - 1))
  unfolding entries_from
  accepted_entries =
      let n : t.count ≡ suc (t.count - 1) = omega (arith, a.some_entry) in
      let e = a.first in
      (ap (entries_from t 0) n ∙ ap (λ x. x ∷ entries_from t 1 (t.count - 1)) e, subst (λ x. Follow x (entries_from t 1 (t.count - 1))) e (follows 0 (t.count - 1) (omega (arith, a.some_entry))))

  -- the places past its entries have noEntry
  places_at : (k : ℕ) → k < 64 → get_or (entries t) k no_entry ≡ entry t k
  places_at k m =
      by_order k t.count (entries_at t k)
      (λ l. get_or-eq_default (entries t) no_entry (omega (arith, entries_long t)) ∙ sym (a.unused k l m))

-- a table is that of its entries
pub table_is : {t : Table} → Good t → table_of (entries t) ≡ t
table_is {t} g =
    let a = accepted_to t g.is_accepted in
    let es = entries t in
    let n = entries_long t in
    let long = holds_long (holds_of es) (omega (arith, a.few)) in
    let same : (k : ℕ) → k < 64 → entry (table_of es) k ≡ entry t k = λ k l. entry_of es k ∙ places_at a k l in
    let m = ext_get_or 0 (table_of es).months t.months (long.0 ∙ sym g.months_long) (λ k l. ap (λ e. e.0) (same k (omega arith))) in
    let o = ext_get_or (pos 0) (table_of es).offsets t.offsets (long.1 ∙ sym g.offsets_long) (λ k l. ap (λ e. e.1) (same k (omega arith))) in
    sym (holds_table (record { months_are = sym m ∙ (holds_of es).months_are; offsets_are = sym o ∙ (holds_of es).offsets_are }) n) ∙ ap (λ v. vouched_to v t) (sym g.no_month)

-- what may come after the first entry makes an accepted table
pub accepted_of : (es : List Entry) → length es < 64 → Follow first_entry es → Good (table_of (first_entry ∷ es))
unfolding table_of
accepted_of es l h =
    let t = table_of (first_entry ∷ es) in
    let at : (k : ℕ) → entry t k ≡ get_or (first_entry ∷ es) k no_entry = entry_of (first_entry ∷ es) in
    let next : (k : ℕ) → k + 1 < length (first_entry ∷ es) → Later (entry t k) (entry t (k + 1)) = λ k m. rw (at k, at (k + 1), add-one k) (follow_at first_entry es h k (omega arith)) in
    let unused : (k : ℕ) → length (first_entry ∷ es) ≤ k → entry t k ≡ no_entry = λ k m. at k ∙ get_or-eq_default (first_entry ∷ es) no_entry m in
    let long = holds_long (holds_of (first_entry ∷ es)) (omega arith) in
    record {
      is_accepted = accepted_from t (record {
        some_entry = omega arith;
        few = omega arith;
        first = at 0;
        later = next;
        unused = λ k m n. unused k m;
        month_right = sym (none_right _ (omega arith));
      });
      no_month = refl;
      months_long = long.0;
      offsets_long = long.1;
    }

-- an accepted table of a list has all that is good
pub accepted_good : (es : List Entry) → accepted (table_of es) ≡ true → Good (table_of es)
unfolding table_of
accepted_good es a =
    let long = holds_long (holds_of es) (count_to (table_of es) a).1 in
    record { is_accepted = a; no_month = refl; months_long = long.0; offsets_long = long.1 }
