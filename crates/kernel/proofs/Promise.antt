-- What is promised of kernels: what reading and writing answers, by the grammar alone.
-- Assumes nothing.
use Prim.Native.Nat.{ℕ, ◌+◌, ◌-◌, ◌≤◌, ◌<◌}
use mathlib.Core.Path.{◌≡◌, refl, sym, ap, subst, ◌∙◌}
use mathlib.Core.Logic.{◌⊎◌, inl, inr}
use mathlib.Core.Bool.{Bool, true, false, ◌&&◌}
use mathlib.Core.List.{List, [], ◌∷◌, ◌++◌, append_assoc, append-nil}
use native.Mathlib.Omega.{arith}
use borrow.Author.Tests.{le-leb, lt-leb, lt-ltb, ltb-true}
use lib.Dec.{ltb}
use lib.ListN.{length, take, drop, length-append, take-append-drop}
use lib.Seq.{take_all, take-append-add, length-take-le}
use Rattle.laws.proofs.Cases.{by_test, by_order, and_l, and_r, join}
use Rattle.answer.specs.declared.Refusal.TheVariants.{Kernel as KERNEL}
use Rattle.answer.proofs.Promise.{writer}
use Rattle.leap.specs.declared.Table.{Table}
use Rattle.leap.specs.Leap.{accepted}
use Rattle.leap.specs.Entries.{Entry, entries, table_of, Good}
use Rattle.leap.specs.Readers.{refused_at, judged, table_results}
use Rattle.leap.proofs.Facts.{accepted_to}
use Rattle.leap.proofs.Readers.{judged_found, judged_refused, two_numbers}
use Rattle.leap.proofs.Entries.{table_is, accepted_good}
use Rattle.automaton.specs.declared.Mode.{Mode}
use Rattle.automaton.specs.declared.Mode.TheVariants.{Rest, Inside, Name, Ours, Pair, Date, Done, Dead}
use Rattle.automaton.specs.Run.{may_end, scan}
use Rattle.grammar.specs.Grammar.{Kernel}
use Rattle.grammar.specs.Places.{limit, IsKernel, GoesOn, Place}
use Rattle.grammar.proofs.Running.{dead_stays}
use Rattle.grammar.proofs.Complete.{complete}
use Rattle.grammar.proofs.Faults.{Live}
use Rattle.grammar.proofs.Names.{never}
use Rattle.grammar.proofs.GoingOn as First
use Rattle.grammar.proofs.GoingOn.{kernel_is, good_is, goes_live, dies, first_fault}
use Rattle.grammar.proofs.Placing.{placed}
use Rattle.kernel.specs.Reading.{place_of, ended, read_kernel}
use Rattle.kernel.specs.Writing.{kernel_of, kernel_tests}
use Rattle.kernel.specs.Promise.{GivesTable, Refuses, Fault, Case, a_kernel, a_fault, too_long, unfinished, case_number, ReadsKernel, WritesKernel, Kernels}
use Rattle.kernel.proofs.Written as Written
use Rattle.kernel.proofs.Storing.{kernel_same}
use Rattle.kernel.proofs.Sizes.{sizes}
use Rattle.kernel.proofs.Judging.{good_read}
use Rattle.leap.proofs.Kept.{kept_judged}

-- ---- what is read in each case

pub kernel_read : (s : List ℕ) (es : List Entry) → Kernel es s → length s ≤ limit → read_kernel s ≡ judged (table_of es)
kernel_read s es k l = let c = complete s es k in good_read s c.0 l ∙ kept_judged es (scan s).pairs c.1

-- a fault within what is read
dead_read : (s : List ℕ) (p : ℕ) → (scan (take limit s)).mode ≡ Dead p → read_kernel s ≡ refused_at KERNEL p
unfolding read_kernel
dead_read s p e = by_order limit (length s)
    (λ l. rw (lt-leb (length s) limit l, e))
    (λ l. let f = subst (λ x. (scan x).mode ≡ Dead p) (take_all limit s l) e in rw (le-leb (length s) limit l, f))

live_place : (n : ℕ) (m : Mode) → Live m → place_of n m ≡ n
live_place n (Rest r) h = refl
live_place n (Inside w) h = refl
live_place n (Name k start) h = refl
live_place n (Ours o) h = refl
live_place n (Pair minus k c) h = refl
live_place n (Date start minus k d) h = refl
live_place n (Done start minus k month) h = refl
live_place n (Dead place) h = absurd (h place refl)

-- no certain fault, and no end
live_ended : (whole : Bool) (n : ℕ) (m : Mode) (t : Table) → Live m → (may_end m && (whole && ltb 0 t.count)) ≡ false → ended whole n m t ≡ refused_at KERNEL n
live_ended whole n m t h e = rw e (ap (refused_at KERNEL) (live_place n m h))

and_false : (b : Bool) → (b && false) ≡ false
and_false true = refl
and_false false = refl

long_read : (s : List ℕ) → limit < length s → GoesOn (take limit s) → read_kernel s ≡ refused_at KERNEL limit
unfolding read_kernel
long_read s l g =
    let u = take limit s in
    let n : length u ≡ limit = length-take-le limit s (omega arith) in
    rw (lt-leb (length s) limit l) (live_ended false (length u) (scan u).mode (table_of (scan u).pairs) (goes_live u g) (and_false (may_end (scan u).mode)) ∙ ap (refused_at KERNEL) n)

-- a file that may end here, with a pair, is a kernel
is_good : List ℕ → Bool
is_good s = may_end (scan s).mode && ltb 0 (length (scan s).pairs)

good_kernel : (s : List ℕ) → is_good s ≡ true → IsKernel s
unfolding is_good
good_kernel s e = kernel_is s (record { may_end_lem = and_l _ (ltb 0 (length (scan s).pairs)) e; some_pair = ltb-true 0 (length (scan s).pairs) (and_r (may_end (scan s).mode) _ e) })

kernel_good : (s : List ℕ) → IsKernel s → is_good s ≡ true
unfolding is_good
kernel_good s k = let g = good_is s k in join g.may_end_lem (lt-ltb 0 (length (scan s).pairs) g.some_pair)

end_read : (s : List ℕ) → length s ≤ limit → GoesOn s → (IsKernel s → ⊥) → read_kernel s ≡ refused_at KERNEL (length s)
unfolding read_kernel is_good table_of
end_read s l g n =
    let e : is_good s ≡ false = by_test (is_good s) (λ q. absurd (n (good_kernel s q))) (λ q. q) in
    rw (le-leb (length s) limit l) (live_ended true (length s) (scan s).mode (table_of (scan s).pairs) (goes_live s g) e)

-- ---- the cases

goes_before : (y u : List ℕ) → GoesOn (y ++ u) → GoesOn y
goes_before y u g = (u ++ g.0, subst IsKernel (append_assoc y u g.0) g.1)

kernel_goes : (s : List ℕ) → IsKernel s → GoesOn s
kernel_goes s k = ([], subst IsKernel (sym (append-nil s)) k)

module _ {s x : List ℕ} {b : ℕ} (f : Fault s x b) where
  abbrev y : List ℕ
  y = x ++ b ∷ []

  whole : s ≡ y ++ f.rest
  whole = f.split ∙ sym (append_assoc x (b ∷ []) f.rest)

  within : take limit s ≡ y ++ take (limit - length y) f.rest
  within =
      let n : length y ≡ length x + 1 = length-append x (b ∷ []) in
      let e : limit ≡ length y + (limit - length y) = omega (arith, f.read) in
      ap (take limit) whole ∙ ap (λ k. take k (y ++ f.rest)) e ∙ take-append-add y f.rest (limit - length y)

  fault_read : (p : ℕ) → (scan y).mode ≡ Dead p → read_kernel s ≡ refused_at KERNEL p
  fault_read p e = dead_read s p (subst (λ l. (scan l).mode ≡ Dead p) (sym within) (dead_stays y (take (limit - length y) f.rest) p e))

  not_going : GoesOn s → ⊥
  not_going g = f.certain.no_more (goes_before y f.rest (subst GoesOn whole g))

  not_within : GoesOn (take limit s) → ⊥
  not_within g = f.certain.no_more (goes_before y (take (limit - length y) f.rest) (subst GoesOn within g))

cases : (s : List ℕ) → Case s
cases s = by_order limit (length s) (λ l. long l (first_fault (take limit s))) (λ l. short l (first_fault s))
  where
    long : limit < length s → GoesOn (take limit s) ⊎ First.Fault (take limit s) → Case s
    long l (inl g) = too_long l g
    long l (inr f) =
        let e = ap length f.split ∙ length-append f.x (f.b ∷ f.rest) in
        a_fault f.x f.b (record {
          rest = f.rest ++ drop limit s;
          split = sym (take-append-drop limit s) ∙ ap (λ u. u ++ drop limit s) f.split ∙ append_assoc f.x (f.b ∷ f.rest) (drop limit s);
          read = omega (arith, e, length-take-le limit s (omega arith));
          certain = f.first;
        })

    short : length s ≤ limit → GoesOn s ⊎ First.Fault s → Case s
    short l (inl g) = by_test (is_good s) (λ e. a_kernel l (good_kernel s e)) (λ e. unfinished l g (λ k. never (kernel_good s k) e))
    short l (inr f) =
        let e = ap length f.split ∙ length-append f.x (f.b ∷ f.rest) in
        a_fault f.x f.b (record { rest = f.rest; split = f.split; read = omega (arith, e); certain = f.first })

same_case : (s : List ℕ) (c d : Case s) → case_number c ≡ case_number d
same_case s (a_kernel l k) (a_kernel m j) = refl
same_case s (a_kernel l k) (a_fault x b f) = absurd (not_going f (kernel_goes s k))
same_case s (a_kernel l k) (too_long m g) = absurd (omega arith)
same_case s (a_kernel l k) (unfinished m g n) = absurd (n k)
same_case s (a_fault x b f) (a_kernel m j) = absurd (not_going f (kernel_goes s j))
same_case s (a_fault x b f) (a_fault y c g) = refl
same_case s (a_fault x b f) (too_long m g) = absurd (not_within f g)
same_case s (a_fault x b f) (unfinished m g n) = absurd (not_going f g)
same_case s (too_long l g) (a_kernel m j) = absurd (omega arith)
same_case s (too_long l g) (a_fault y c f) = absurd (not_within f g)
same_case s (too_long l g) (too_long m h) = refl
same_case s (too_long l g) (unfinished m h n) = absurd (omega arith)
same_case s (unfinished l g n) (a_kernel m j) = absurd (n j)
same_case s (unfinished l g n) (a_fault y c f) = absurd (not_going f g)
same_case s (unfinished l g n) (too_long m h) = absurd (omega arith)
same_case s (unfinished l g n) (unfinished m h o) = refl

-- ---- what is answered

-- a kernel, or a refusal with 14
data Answered (s : List ℕ) : Type 0 where
  as_kernel : (es : List Entry) → length s ≤ limit → Kernel es s → read_kernel s ≡ judged (table_of es) → Answered s
  as_refused : (p : ℕ) → read_kernel s ≡ refused_at KERNEL p → Answered s

answered : (s : List ℕ) → Answered s
answered s = go (cases s)
  where
    go : Case s → Answered s
    go (a_kernel l k) = as_kernel k.0 l k.1 (kernel_read s k.0 k.1 l)
    go (a_fault x b f) = let d = dies (x ++ b ∷ []) f.certain.no_more in as_refused d.place (fault_read f d.place d.there)
    go (too_long l g) = as_refused limit (long_read s l g)
    go (unfinished l g n) = as_refused (length s) (end_read s l g n)

gives : (s : List ℕ) (t : Table) → GivesTable s t → (length s ≤ limit) × ((es : List Entry) × (Kernel es s × (Good (table_of es) × (table_of es ≡ t))))
gives s t h = go (answered s)
  where
    go : Answered s → (length s ≤ limit) × ((es : List Entry) × (Kernel es s × (Good (table_of es) × (table_of es ≡ t))))
    go (as_kernel es l k e) = by_test (accepted (table_of es))
        (λ a. (l, (es, (k, (accepted_good es a, ap (λ x. x.2) (sym (judged_found (table_of es) e a) ∙ h))))))
        (λ a. two_numbers (read_kernel s) (judged_refused (table_of es) e a) h (λ z. omega arith))
    go (as_refused p e) = two_numbers (read_kernel s) (ap table_results e) h (λ z. omega arith)

refuses_table : (s : List ℕ) → Refuses s 11 0 → (length s ≤ limit) × ((es : List Entry) × (Kernel es s × (accepted (table_of es) ≡ false)))
refuses_table s h = go (answered s)
  where
    go : Answered s → (length s ≤ limit) × ((es : List Entry) × (Kernel es s × (accepted (table_of es) ≡ false)))
    go (as_kernel es l k e) = by_test (accepted (table_of es))
        (λ a. two_numbers (read_kernel s) (judged_found (table_of es) e a) h (λ z. omega arith))
        (λ a. (l, (es, (k, a))))
    go (as_refused p e) = two_numbers (read_kernel s) (ap table_results e) h (λ z. omega arith)

fault_place : {s x : List ℕ} {b p : ℕ} → Fault s x b → Refuses s 14 p → Place x b p
fault_place {s} {x} {b} {p} f h =
    let d = dies (x ++ b ∷ []) f.certain.no_more in
    let e : d.place ≡ p = ap (λ r. r.1) (sym (ap table_results (fault_read f d.place d.there)) ∙ h) in
    (placed x b p f.certain).0 (d.there ∙ ap Dead e)

pub reads : (s : List ℕ) → ReadsKernel s
reads s = record {
  gives_a_table = λ t. (gives s t, λ h. let k = h.1 in judged_found (table_of k.0) (kernel_read s k.0 k.1.0 h.0) k.1.1.0.is_accepted ∙ ap (λ u. (0, 0, u)) k.1.1.1);
  refuses_its_table = (refuses_table s, λ h. let k = h.1 in judged_refused (table_of k.0) (kernel_read s k.0 k.1.0 h.0) k.1.1);
  refuses_a_fault = λ x b p f. (fault_place f, λ q. ap table_results (fault_read f p ((placed x b p f.certain).1 q)));
  has_a_place = λ x b f. let d = dies (x ++ b ∷ []) f.certain.no_more in (d.place, (placed x b d.place f.certain).0 d.there);
  refuses_its_length = λ l g. ap table_results (long_read s l g);
  refuses_its_end = λ l g n. ap table_results (end_read s l g n);
  some_case = cases s;
  one_case = same_case s;
}

-- what is written is read as the table
pub reads_back : (t : Table) → Good t → GivesTable (kernel_of t) t
reads_back t g =
    let a = accepted_to t g.is_accepted in
    let e = table_is g in
    let r = kernel_read (kernel_of t) (entries t) (Written.kernel_is a) (omega (arith, sizes a)) in
    judged_found (table_of (entries t)) r (ap accepted e ∙ g.is_accepted) ∙ ap (λ u. (0, 0, u)) e

pub writes : (t : Table) (buffer : List ℕ) → WritesKernel t buffer
writes t buffer =
    record { where_it_fits = λ a l. rw (a, le-leb (length (kernel_of t)) (length buffer) l) (refl, refl); or_nothing = (writer (kernel_tests t) (kernel_of t) buffer).or_nothing }

pub kernels : Kernels
kernels = record { reads_back = reads_back; reads = reads; writes = writes; sizes = λ t a. sizes (accepted_to t a); drops_the_month = kernel_same }
