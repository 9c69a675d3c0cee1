-- The order of cards: what rises, what falls, and what a reader keeps of the cards so far to know it.
-- Assumes nothing.
use Prim.Native.Nat.{ℕ, ◌+◌, ◌-◌, ◌≤◌, ◌<◌}
use mathlib.Core.Path.{◌≡◌, refl, sym, ap, ap₂, subst, ◌∙◌}
use mathlib.Core.Logic.{◌⊎◌, inl, inr}
use mathlib.Core.Bool.{Bool, true, false, cond, not, ◌&&◌, ◌||◌, and-true, and-false, or-false, and_assoc}
use mathlib.Core.List.{List, [], ◌∷◌, ◌++◌, reverse, append_assoc, reverse_aux-eq, reverse-append, reverse-reverse}
use native.Mathlib.Omega.{arith}
use borrow.Author.Tests.{ltb-true, lt-ltb, le-ltb, eq-eqb, ne_eqb}
use lib.Dec.{eqb, ltb}
use lib.ListN.{length, length-append}
use Rattle.laws.proofs.Cases.{both, and_l, and_r, join, one_of, or_l, or_r, pick, by_test, by_order, lt_cases}
use Rattle.leap.specs.declared.Table.{Table}
use Rattle.leap.specs.Entries.{Entry, first_entry, entries_from, entries}
use Rattle.leap.proofs.Facts.{Accepted}
use Rattle.leap.proofs.Entries.{Follow, accepted_entries}
use Rattle.cards.specs.Card.{rises}
use Rattle.cards.specs.Reading.{in_order, oldest_first, follows}

-- ---- one entry more

-- behind entry d comes entry e: later where the entries rise
rises_more : (ds : List Entry) (d e : Entry) → rises (ds ++ d ∷ e ∷ []) ≡ (rises (ds ++ d ∷ []) && ltb d.0 e.0)
unfolding rises
rises_more [] d e = and-true _
rises_more (c ∷ []) d e = ap (λ b. ltb c.0 d.0 && b) (and-true (ltb d.0 e.0)) ∙ ap (λ b. b && ltb d.0 e.0) (sym (and-true (ltb c.0 d.0)))
rises_more (b ∷ c ∷ ds) d e = ap (λ x. ltb b.0 c.0 && x) (rises_more (c ∷ ds) d e) ∙ sym (and_assoc (ltb b.0 c.0) (rises (c ∷ ds ++ d ∷ [])) (ltb d.0 e.0))

-- and earlier where they fall
falls_more : (ds : List Entry) (d e : Entry) → rises (reverse (ds ++ d ∷ e ∷ [])) ≡ (ltb e.0 d.0 && rises (reverse (ds ++ d ∷ [])))
unfolding rises
falls_more ds d e = ap rises (reverse-append ds (d ∷ e ∷ [])) ∙ ap (λ l. ltb e.0 d.0 && rises l) (sym (reverse-append ds (d ∷ [])))

order_more : (ds : List Entry) (d e : Entry) → in_order ((ds ++ d ∷ []) ++ e ∷ []) ≡ ((rises (ds ++ d ∷ []) && ltb d.0 e.0) || (ltb e.0 d.0 && rises (reverse (ds ++ d ∷ []))))
order_more ds d e = ap in_order (append_assoc ds (d ∷ []) (e ∷ [])) ∙ ap₂ ◌||◌ (rises_more ds d e) (falls_more ds d e)

-- two entries or more do not both rise and fall
one_way : (es : List Entry) → 1 < length es → rises es ≡ true → rises (reverse es) ≡ true → ⊥
unfolding rises
one_way [] l p q = omega arith
one_way (a ∷ []) l p q = omega arith
one_way (a ∷ b ∷ es) l p q =
    let up = ltb-true a.0 b.0 (and_l _ (rises (b ∷ es)) p) in
    let e = sym (ap rises (reverse_aux-eq es (b ∷ a ∷ [])) ∙ rises_more (reverse es) b a) ∙ q in
    omega (arith, ltb-true b.0 a.0 (and_r (rises (reverse es ++ b ∷ [])) _ e))

-- ---- a part of a list in order

rises_tail : (e : Entry) (es : List Entry) → rises (e ∷ es) ≡ true → rises es ≡ true
unfolding rises
rises_tail e [] p = refl
rises_tail e (f ∷ es) p = and_r (ltb e.0 f.0) (rises (f ∷ es)) p

rises_front : (es fs : List Entry) → rises (es ++ fs) ≡ true → rises es ≡ true
unfolding rises
rises_front [] fs p = refl
rises_front (e ∷ []) fs p = refl
rises_front (e ∷ f ∷ es) fs p = let q = both (ltb e.0 f.0) (rises (f ∷ es ++ fs)) p in join q.0 (rises_front (f ∷ es) fs q.1)

rises_back : (es fs : List Entry) → rises (es ++ fs) ≡ true → rises fs ≡ true
rises_back [] fs p = p
rises_back (e ∷ es) fs p = rises_back es fs (rises_tail e (es ++ fs) p)

pub order_front : (es fs : List Entry) → in_order (es ++ fs) ≡ true → in_order es ≡ true
order_front es fs p = go (one_of (rises (es ++ fs)) (rises (reverse (es ++ fs))) p)
  where
    go : (rises (es ++ fs) ≡ true) ⊎ (rises (reverse (es ++ fs)) ≡ true) → in_order es ≡ true
    go (inl q) = or_l (rises (reverse es)) (rises_front es fs q)
    go (inr q) = or_r (rises es) (rises_back (reverse fs) (reverse es) (sym (ap rises (reverse-append es fs)) ∙ q))

-- ---- oldest first

pub oldest_rises : (es : List Entry) → in_order es ≡ true → rises (oldest_first es) ≡ true
oldest_rises es p = pick (λ l. rises l ≡ true) (rises es) (λ q. q) (λ q. subst (λ b. (b || rises (reverse es)) ≡ true) q p)

pub oldest_risen : (es : List Entry) → rises es ≡ true → oldest_first es ≡ es
oldest_risen es p = rw p

-- none or one is its own reverse, and more do not rise both ways
pub oldest_turned : (es : List Entry) → rises es ≡ true → oldest_first (reverse es) ≡ es
unfolding rises
oldest_turned [] p = refl
oldest_turned (e ∷ []) p = refl
oldest_turned (e ∷ f ∷ es) p =
    let l = e ∷ f ∷ es in
    by_test (rises (reverse l)) (λ q. absurd (one_way l (omega arith) p q)) (λ q. rw q (reverse-reverse l))

-- ---- the entries of a table

follow_rises : (e : Entry) (es : List Entry) → Follow e es → rises (e ∷ es) ≡ true
unfolding rises
follow_rises e [] h = refl
follow_rises e (f ∷ es) h = join (lt-ltb e.0 f.0 h.0.rises) (follow_rises f es h.1)

pub accepted_rises : {t : Table} → Accepted t → rises (entries t) ≡ true
accepted_rises {t} a = let h = accepted_entries a in ap rises h.0 ∙ follow_rises first_entry (entries_from t 1 (t.count - 1)) h.1

-- ---- what the reader keeps of the entries so far

-- the month of the last, 0 where there is none
pub data Last : List Entry → ℕ → Type 0 where
  none : Last [] 0
  after : (ds : List Entry) (d : Entry) → Last (ds ++ d ∷ []) d.0

-- their count up to 64, and 65 for more; whether they fall; and the month of the last
pub record Ordered (es : List Entry) (count : ℕ) (falling : Bool) (last : ℕ) : Type 0 where
  pub few : count ≤ 64 → length es ≡ count
  pub many : 64 < count → 64 < length es
  pub by_order : in_order es ≡ true
  pub falling_is : falling ≡ not (rises es)
  pub last_is : Last es last

pub ordered_none : Ordered [] 0 false 0
unfolding rises
ordered_none = record { few = λ l. refl; many = λ l. omega arith; by_order = refl; falling_is = refl; last_is = none }

pub oldest_is : {es : List Entry} {count : ℕ} {falling : Bool} {last : ℕ} → Ordered es count falling last → oldest_first es ≡ cond falling (reverse es) es
oldest_is {es} o = rw o.falling_is (go (rises es))
  where
    go : (b : Bool) → cond b es (reverse es) ≡ cond (not b) (reverse es) es
    go true = refl
    go false = refl

differ : (m n : ℕ) → not (eqb m n) ≡ (ltb n m || ltb m n)
differ m n = go (lt_cases m n)
  where
    go : (m < n) ⊎ ((m ≡ n) ⊎ (n < m)) → not (eqb m n) ≡ (ltb n m || ltb m n)
    go (inl l) = rw (ne_eqb m n (λ e. omega arith), le-ltb n m (omega arith), lt-ltb m n l)
    go (inr (inl e)) = rw (eq-eqb m n e, le-ltb n m (omega arith), le-ltb m n (omega arith))
    go (inr (inr l)) = rw (ne_eqb m n (λ e. omega arith), lt-ltb n m l)

-- the entries rise (r) or fall (f), and not both; the next is later (u) or earlier (v)
turn : (r f u v : Bool) → (r || f) ≡ true → (r ≡ true → f ≡ true → ⊥) → cond (not r) v u ≡ ((r && u) || (v && f))
turn true true u v o n = absurd (n refl refl)
turn true false u v o n = sym (ap (λ b. u || b) (and-false v) ∙ or-false u)
turn false true u v o n = sym (and-true v)
turn false false u v o n = cc

-- the way that the next goes is the way of them all
way_of_all : (r f u v : Bool) → ((r && u) || (v && f)) ≡ true → (u ≡ true → v ≡ true → ⊥) → v ≡ not (r && u)
way_of_all r f true true o n = absurd (n refl refl)
way_of_all true f true false o n = refl
way_of_all false f true false o n = cc
way_of_all true f false true o n = refl
way_of_all false f false true o n = refl
way_of_all true f false false o n = o
way_of_all false f false false o n = o

-- by the count itself, which the reader does not keep past 64
follows_all : {es : List Entry} {last : ℕ} (e : Entry) → Last es last → in_order es ≡ true → follows (length es) (not (rises es)) last e.0 ≡ in_order (es ++ e ∷ [])
unfolding rises follows
follows_all e none i = refl
follows_all e (after [] d) i = differ e.0 d.0 ∙ sym (ap₂ ◌||◌ (and-true (ltb d.0 e.0)) (and-true (ltb e.0 d.0)))
follows_all e (after (c ∷ ds) d) i =
    let es = c ∷ ds ++ d ∷ [] in
    let l : 1 < length es = simp length-append (omega arith) in
    rw (le-ltb (length es) 1 (omega arith), le-ltb (length es) 2 l) (turn (rises es) (rises (reverse es)) (ltb d.0 e.0) (ltb e.0 d.0) i (one_way es l) ∙ sym (order_more (c ∷ ds) d e))

turns : {es : List Entry} {last : ℕ} (e : Entry) → Last es last → in_order (es ++ e ∷ []) ≡ true → ltb e.0 last ≡ not (rises (es ++ e ∷ []))
unfolding rises
turns e none i = le-ltb e.0 0 (omega arith)
turns e (after ds d) i =
    way_of_all (rises (ds ++ d ∷ [])) (rises (reverse (ds ++ d ∷ []))) (ltb d.0 e.0) (ltb e.0 d.0) (sym (order_more ds d e) ∙ i) (λ p q. omega (arith, ltb-true d.0 e.0 p, ltb-true e.0 d.0 q))
    ∙ ap not (sym (ap rises (append_assoc ds (d ∷ []) (e ∷ [])) ∙ rises_more ds d e))

module _ {es : List Entry} {count : ℕ} {falling : Bool} {last : ℕ} (e : Entry) (o : Ordered es count falling last) where
  -- a test below 65 does not see that the count stays there
  count_test : (n : ℕ) → n ≤ 64 → ltb count n ≡ ltb (length es) n
  count_test n h =
      by_order 64 count
      (λ l. le-ltb count n (omega arith) ∙ sym (le-ltb (length es) n (omega (arith, o.many l))))
      (λ l. ap (λ k. ltb k n) (sym (o.few l)))

  pub follows_is : follows count falling last e.0 ≡ in_order (es ++ e ∷ [])
  unfolding follows
  follows_is = rw (count_test 1 (omega arith), count_test 2 (omega arith), o.falling_is) (follows_all e o.last_is o.by_order)

  more : {n : ℕ} → (n ≤ 64 → length es + 1 ≡ n) → (64 < n → 64 ≤ length es) → in_order (es ++ e ∷ []) ≡ true → Ordered (es ++ e ∷ []) n (ltb e.0 last) e.0
  more f m i =
      record { few = λ l. length-append es (e ∷ []) ∙ f l; many = λ l. omega (arith, length-append es (e ∷ []), m l); by_order = i; falling_is = turns e o.last_is i; last_is = after es e }

  -- one more, where there is room for its count, and where there is none
  pub ordered_next : count < 64 → in_order (es ++ e ∷ []) ≡ true → Ordered (es ++ e ∷ []) (count + 1) (ltb e.0 last) e.0
  ordered_next l = let n = o.few (omega arith) in more (λ k. omega arith) (λ k. omega arith)

  pub ordered_full : 64 ≤ count → in_order (es ++ e ∷ []) ≡ true → Ordered (es ++ e ∷ []) 65 (ltb e.0 last) e.0
  ordered_full l = more (λ k. omega arith) (λ k. by_order 64 count (λ m. omega (arith, o.many m)) (λ m. omega (arith, o.few m)))
