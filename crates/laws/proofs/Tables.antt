-- A rule that holds at every entry of a table, by one test that antt computes over the whole of it, so that no entry is repeated in a proof.
-- To use: `rw (at .., tt, h)` or `run_at` at the place where the table is read; `tt` is the test's result.
-- Assumes nothing.
use mathlib.Core.Path.{◌≡◌, ◌∙◌, ap, sym, subst}
use mathlib.Core.Bool.{Bool, true, false}
use mathlib.Core.List.{List, [], ◌∷◌}
use Prim.Native.Nat.{ℕ, zero, suc, ◌+◌, ◌<◌}
use native.Mathlib.Nat.{add-zero, zero-add, add-suc, suc-add, le_of_suc-le-suc, not-suc-le-zero}
use lib.Dec.{T, eqb, eqb→eq}
use lib.ListN.{length, get_or}

-- both tests pass; it is not `&&`, so that the second is not computed before the first
abbrev pub each : Bool → Bool → Bool
each true b = b
each false b = false

pub each_left : (a b : Bool) → T (each a b) → T a
each_left true b t = tt
each_left false b t = t

pub each_right : (a b : Bool) → T (each a b) → T b
each_right true b t = t
each_right false b t = absurd t

-- ---- any test of a place and its entry, over any list

module _ {A : Type 0} (f : ℕ → A → Bool) where
  -- the test passes at each entry, places counted from i
  abbrev pub every : ℕ → List A → Bool
  every i [] = true
  every i (x ∷ xs) = each (f i x) (every (suc i) xs)

  from : (d : A) (xs : List A) (i : ℕ) → T (every i xs) → (k : ℕ) → k < length xs → T (f (i + k) (get_or xs k d))
  from d [] i t k h = absurd (not-suc-le-zero h)
  from d (x ∷ xs) i t zero h = subst (λ (m : ℕ). T (f m x)) (sym (add-zero i)) (each_left (f i x) (every (suc i) xs) t)
  from d (x ∷ xs) i t (suc k) h =
      subst (λ (m : ℕ). T (f m (get_or xs k d))) (suc-add i k ∙ sym (add-suc i k))
      (from d xs (suc i) (each_right (f i x) (every (suc i) xs) t) k (le_of_suc-le-suc h))

  pub at : (d : A) (xs : List A) → T (every 0 xs) → (k : ℕ) → k < length xs → T (f k (get_or xs k d))
  at d xs t k h = subst (λ (m : ℕ). T (f m (get_or xs k d))) (zero-add k) (from d xs 0 t k h)

-- ---- running sums: `sum` of the steps before a place

module _ (step : ℕ → ℕ) where
  -- the list is the running sum from place m on, which starts at s
  abbrev pub runs : ℕ → ℕ → List ℕ → Bool
  runs m s [] = true
  runs m s (x ∷ xs) = each (eqb x s) (runs (suc m) (s + step m) xs)

  -- a test of a place and its sum passes at n places from m on, where the sum is s
  abbrev pub sums_pass : (ℕ → ℕ → Bool) → ℕ → ℕ → ℕ → Bool
  sums_pass f zero m s = true
  sums_pass f (suc n) m s = each (f m s) (sums_pass f n (suc m) (s + step m))

  module _ (sum : ℕ → ℕ) (next : (m : ℕ) → sum (suc m) ≡ sum m + step m) where
    run_from : (xs : List ℕ) (m s : ℕ) → s ≡ sum m → T (runs m s xs) → (k : ℕ) → k < length xs → get_or xs k 0 ≡ sum (m + k)
    run_from [] m s e t k h = absurd (not-suc-le-zero h)
    run_from (x ∷ xs) m s e t zero h =
        eqb→eq x s (each_left (eqb x s) (runs (suc m) (s + step m) xs) t) ∙ e ∙ ap sum (sym (add-zero m))
    run_from (x ∷ xs) m s e t (suc k) h =
        run_from xs (suc m) (s + step m) (ap (λ n. n + step m) e ∙ sym (next m)) (each_right (eqb x s) (runs (suc m) (s + step m) xs) t) k (le_of_suc-le-suc h)
        ∙ ap sum (suc-add m k ∙ sym (add-suc m k))

    -- what the test says of a table: it holds the sums
    pub run_at : 0 ≡ sum 0 → (xs : List ℕ) → T (runs 0 0 xs) → (k : ℕ) → k < length xs → get_or xs k 0 ≡ sum k
    run_at e xs t k h = run_from xs 0 0 e t k h ∙ ap sum (zero-add k)

    sum_from : (f : ℕ → ℕ → Bool) (n m s : ℕ) → s ≡ sum m → T (sums_pass f n m s) → (k : ℕ) → k < n → T (f (m + k) (sum (m + k)))
    sum_from f zero m s e t k h = absurd (not-suc-le-zero h)
    sum_from f (suc n) m s e t zero h =
        subst (λ (j : ℕ). T (f j (sum j))) (sym (add-zero m)) (subst (λ (j : ℕ). T (f m j)) e (each_left (f m s) (sums_pass f n (suc m) (s + step m)) t))
    sum_from f (suc n) m s e t (suc k) h =
        subst (λ (j : ℕ). T (f j (sum j))) (suc-add m k ∙ sym (add-suc m k))
        (sum_from f n (suc m) (s + step m) (ap (λ j. j + step m) e ∙ sym (next m)) (each_right (f m s) (sums_pass f n (suc m) (s + step m)) t) k (le_of_suc-le-suc h))

    -- what the test says of the sums themselves
    pub sum_at : 0 ≡ sum 0 → (f : ℕ → ℕ → Bool) (n : ℕ) → T (sums_pass f n 0 0) → (k : ℕ) → k < n → T (f k (sum k))
    sum_at e f n t k h = subst (λ (j : ℕ). T (f j (sum j))) (zero-add k) (sum_from f n 0 0 e t k h)
