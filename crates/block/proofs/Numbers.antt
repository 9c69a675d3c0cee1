-- The numbers below 128 ^ k and their bytes match one to one: what is written is read back, and only what is written is read.
-- Assumes nothing.
use Prim.Native.Nat.{ℕ, zero, suc, ◌+◌, ◌*◌, ◌/◌, ◌%◌, ◌^◌, ◌<◌, ◌≤◌}
use mathlib.Core.Path.{◌≡◌, refl, sym, ap, ap₂, ◌∙◌}
use mathlib.Core.List.{List, [], ◌∷◌, ◌++◌}
use mathlib.Core.Bool.{Bool, true}
use native.Mathlib.Omega.{arith}
use native.Mathlib.Nat.{pow-suc, one-le-pow}
use native.Mathlib.Numerals.{add-one}
use lib.ListN.{length, drop, get_or, drop_of_length-le}
use lib.Seq.{drop-cons}
use lib.Dec.{eqb, lit<}
use borrow.Author.Tests.{lt-ltb, le-ltb, eqb-false, ne_eqb}
use Rattle.std.specs.Prelude.{Ok, Err}
use Rattle.laws.proofs.Cases.{by_test, by_order, chosen}
use Rattle.answer.specs.declared.Refusal.TheVariants.{Cut as CUT, Groups as GROUPS}
use Rattle.block.specs.Promise.{Bytes}
use Rattle.block.specs.Numbers.{groups_of, number_bytes}
use Rattle.block.specs.Reading.{NumberRead, above, read_groups, tested, read_number}

-- ---- a number of one group, and of more

pub one_group : (k n : ℕ) → n < 128 → groups_of (suc k) n ≡ n ∷ []
unfolding groups_of
one_group k n h = rw (lt-ltb n 128 h)

pub more_groups : (k n : ℕ) → 128 ≤ n → groups_of (suc k) n ≡ (128 + n % 128) ∷ groups_of k (n / 128)
unfolding groups_of
more_groups k n h = rw (le-ltb n 128 h)

pub read_one : (k b : ℕ) (s : List ℕ) → b < 128 → read_groups (suc k) (b ∷ s) ≡ Ok (b, 1)
unfolding read_groups
read_one k b s h = rw (lt-ltb b 128 h)

pub read_more : (k b : ℕ) (s : List ℕ) → 128 ≤ b → read_groups (suc k) (b ∷ s) ≡ above (b % 128) (read_groups k s)
unfolding read_groups
read_more k b s h = rw (le-ltb b 128 h)

pub above_zero : (low high size : ℕ) → high ≡ 0 → above low (Ok (high, size)) ≡ Err GROUPS
above_zero low high size h = rw h

pub above_number : (low high size : ℕ) → (high ≡ 0 → ⊥) → above low (Ok (high, size)) ≡ Ok (high * 128 + low, size + 1)
above_number low high size h = rw (ne_eqb high 0 h)

some_group : (k n : ℕ) → 1 ≤ length (groups_of (suc k) n)
some_group k n = by_order n 128 (λ l. rw (one_group k n l) (omega arith)) (λ l. rw (more_groups k n l) (omega arith))

-- ---- what is written is read back

pub read_written : (k n : ℕ) (rest : List ℕ) → n < 128 ^ suc k → read_groups (suc k) (groups_of (suc k) n ++ rest) ≡ Ok (n, length (groups_of (suc k) n))
read_written zero n rest h = rw (one_group zero n h) (read_one zero n rest h)
read_written (suc k) n rest h =
    by_order n 128
    (λ l. rw (one_group (suc k) n l) (read_one (suc k) n rest l))
    (λ l.
    rw (more_groups (suc k) n l, read_more (suc k) (128 + n % 128) (groups_of (suc k) (n / 128) ++ rest) (omega arith), read_written k (n / 128) rest (omega (arith, pow-suc 128 (suc k))), above_number ((128 + n % 128) % 128) (n / 128) (length (groups_of (suc k) (n / 128))) (omega arith))
    (ap₂ (λ (x y : ℕ). Ok (x, y)) (omega arith) (add-one _)))

-- ---- only what is written is read

-- what was read as one number and as another of its size is the same
pub same_number : {m part n size : ℕ} → ◌≡◌ {A = NumberRead} (Ok (m, part)) (Ok (n, size)) → (m ≡ n) × (part ≡ size)
same_number e = (ap (λ r. (number_in r).0) e, ap (λ r. (number_in r).1) e)
  where
    number_in : NumberRead → ℕ × ℕ
    number_in (Ok x) = x
    number_in (Err why) = (0, 0)

-- how a number that was read begins: its only group, or a group below a number that is not 0
data Begins (k b : ℕ) (s : List ℕ) : ℕ → ℕ → Type 0 where
  only : b < 128 → Begins k b s b 1
  below : {high size : ℕ} → 128 ≤ b → read_groups k s ≡ Ok (high, size) → (high ≡ 0 → ⊥) → Begins k b s (high * 128 + b % 128) (size + 1)

begins : (k b : ℕ) (s : List ℕ) (n size : ℕ) → read_groups (suc k) (b ∷ s) ≡ Ok (n, size) → Begins k b s n size
begins k b s n size e =
    by_order b 128
    (λ l. same (sym (read_one k b s l) ∙ e) (only l))
    (λ l. go l (read_groups k s) refl (sym (read_more k b s l) ∙ e))
  where
    same : {m part : ℕ} → ◌≡◌ {A = NumberRead} (Ok (m, part)) (Ok (n, size)) → Begins k b s m part → Begins k b s n size
    same q h = let f = same_number q in rw (← f.0, ← f.1) h

    go : 128 ≤ b → (r : NumberRead) → read_groups k s ≡ r → above (b % 128) r ≡ Ok (n, size) → Begins k b s n size
    go l (Ok (high, part)) q f =
        by_test (eqb high 0)
        (λ t. let g : ◌≡◌ {A = NumberRead} (Err GROUPS) (Ok (n, size)) = rw t at f in let z : ◌≡◌ {A = ℕ} 0 1 = cc in absurd (omega arith))
        (λ t. let z = eqb-false high 0 t in same (sym (above_number (b % 128) high part z) ∙ f) (below l q z))
    go l (Err why) q f = let z : ◌≡◌ {A = ℕ} 0 1 = cc in absurd (omega arith)

-- the number 0 is the byte 0
pub zero_byte : (k b : ℕ) (s : List ℕ) {n size : ℕ} → read_groups (suc k) (b ∷ s) ≡ Ok (n, size) → n ≡ 0 → b ≡ 0
zero_byte k b s {n} {size} e z = go (begins k b s n size e) z
  where
    go : {n size : ℕ} → Begins k b s n size → n ≡ 0 → b ≡ 0
    go (only l) z = z
    go (below {high} {size} l q some) z = absurd (some (omega arith))

-- a number that is read is of at most k groups, and within the list
pub record Within (k : ℕ) (s : List ℕ) (n size : ℕ) : Type 0 where
  pub small : n < 128 ^ k
  pub some : 1 ≤ size
  pub few : size ≤ k
  pub inside : size ≤ length s

pub read_within : (k : ℕ) (s : List ℕ) (n size : ℕ) → read_groups k s ≡ Ok (n, size) → Within k s n size
unfolding read_groups
read_within zero s n size e = let z : ◌≡◌ {A = ℕ} 0 1 = cc in absurd (omega arith)
read_within (suc k) [] n size e = let z : ◌≡◌ {A = ℕ} 0 1 = cc in absurd (omega arith)
read_within (suc k) (b ∷ s) n size e = go (begins k b s n size e) (read_within k s)
  where
    go : {n size : ℕ} → Begins k b s n size → ((n size : ℕ) → read_groups k s ≡ Ok (n, size) → Within k s n size) → Within (suc k) (b ∷ s) n size
    go (only l) ih = record { small = omega (arith, pow-suc 128 k, one-le-pow k 128 (lit< tt)); some = omega arith; few = omega arith; inside = omega arith }
    go (below l q z) ih = let w = ih _ _ q in record { small = omega (arith, pow-suc 128 k); some = omega arith; few = omega arith; inside = omega arith }

-- ---- a number that is tested

-- what was read of s, as r, by its test
pub tests : (fine : ℕ → Bool) (s : List ℕ) {read r : NumberRead} → read ≡ read_groups 3 s → read ≡ r → tested fine r ≡ read_number fine s
tests fine s e f = ap (tested fine) (sym f ∙ e)

pub was_tested : (fine : ℕ → Bool) (r : NumberRead) {n size : ℕ} → tested fine r ≡ Ok (n, size) → (r ≡ Ok (n, size)) × (fine n ≡ true)
was_tested fine (Ok (m, part)) {n} {size} e =
    let q = chosen (fine m) (λ f. let z : ◌≡◌ {A = ℕ} 0 1 = cc in absurd (omega arith)) e in
    (q.1, rw (← (same_number q.1).0) q.0)
was_tested fine (Err why) e = let z : ◌≡◌ {A = ℕ} 0 1 = cc in absurd (omega arith)

-- what is read is written so, with the size that is given
pub record Reads (k : ℕ) (s : List ℕ) (n size : ℕ) : Type 0 where
  pub written : s ≡ groups_of k n ++ drop size s
  pub sized : size ≡ length (groups_of k n)

pub written_read : (k : ℕ) (s : List ℕ) (n size : ℕ) → Bytes s → read_groups k s ≡ Ok (n, size) → Reads k s n size
unfolding read_groups
written_read zero s n size h e = let z : ◌≡◌ {A = ℕ} 0 1 = cc in absurd (omega arith)
written_read (suc k) [] n size h e = let z : ◌≡◌ {A = ℕ} 0 1 = cc in absurd (omega arith)
written_read (suc k) (b ∷ s) n size h e = go (begins k b s n size e) (λ n size. written_read k s n size (λ i. h (suc i)))
  where
    go : {n size : ℕ} → Begins k b s n size → ((n size : ℕ) → read_groups k s ≡ Ok (n, size) → Reads k s n size) → Reads (suc k) (b ∷ s) n size
    go (only l) ih = record { written = rw (one_group k b l); sized = rw (one_group k b l) }
    go (below {high} {size} l q z) ih =
        let r = ih _ _ q in
        let e : groups_of (suc k) (high * 128 + b % 128) ≡ b ∷ groups_of k high = more_groups k _ (omega arith) ∙ ap₂ (λ x y. x ∷ groups_of k y) (omega (arith, h 0)) (omega arith) in
        record { written = rw (e, add-one size) (ap (λ x. b ∷ x) r.written); sized = rw (e, add-one size) (ap suc r.sized) }

-- ---- a number is written in bytes

pub bytes_append : (a b : List ℕ) → Bytes a → Bytes b → Bytes (a ++ b)
bytes_append [] b p q i = q i
bytes_append (x ∷ a) b p q zero = p 0
bytes_append (x ∷ a) b p q (suc i) = bytes_append a b (λ j. p (suc j)) q i

pub bytes_groups : (k n : ℕ) → Bytes (groups_of k n)
unfolding groups_of
bytes_groups zero n = λ i. lit< tt
bytes_groups (suc k) n = by_order n 128 (λ l. rw (lt-ltb n 128 l) (below n [] (omega arith) (λ i. lit< tt))) (λ l. rw (le-ltb n 128 l) (below (128 + n % 128) (groups_of k (n / 128)) (omega arith) (bytes_groups k (n / 128))))
  where
    below : (x : ℕ) (s : List ℕ) → x < 256 → Bytes s → Bytes (x ∷ s)
    below x s h b zero = h
    below x s h b (suc i) = b i

-- ---- the numbers of a block, as the code splits them

-- more groups than the number needs change nothing
enough : (k n : ℕ) → n < 128 ^ suc k → groups_of (suc (suc k)) n ≡ groups_of (suc k) n
enough zero n h = one_group 1 n h ∙ sym (one_group 0 n h)
enough (suc k) n h =
    by_order n 128
    (λ l. one_group (suc (suc k)) n l ∙ sym (one_group (suc k) n l))
    (λ l. rw (more_groups (suc (suc k)) n l, more_groups (suc k) n l, enough k (n / 128) (omega (arith, pow-suc 128 (suc k)))))

pub number_last : (n : ℕ) → n < 128 → number_bytes n ≡ n ∷ []
number_last = one_group 2

-- the number 0 is the byte 0
pub zero_bytes : number_bytes 0 ≡ 0 ∷ []
zero_bytes = number_last 0 (lit< tt)

pub number_more : (n : ℕ) → 128 ≤ n → n < 128 ^ 3 → number_bytes n ≡ (128 + n % 128) ∷ number_bytes (n / 128)
number_more n l h = more_groups 2 n l ∙ ap (λ (x : List ℕ). (128 + n % 128) ∷ x) (sym (enough 1 (n / 128) (omega arith)))

most : (k n : ℕ) → length (groups_of k n) ≤ k
unfolding groups_of
most zero n = omega arith
most (suc k) n = by_order n 128 (λ l. rw (lt-ltb n 128 l) (omega arith)) (λ l. rw (le-ltb n 128 l) (omega (arith, most k (n / 128))))

pub number_size : (n : ℕ) → (1 ≤ length (number_bytes n)) × (length (number_bytes n) ≤ 3)
number_size n = (some_group 2 n, most 3 n)

-- ---- a number at the front of a list, as the code reads it

pub at_none : (s : List ℕ) → read_groups 0 s ≡ Err GROUPS
unfolding read_groups
at_none s = refl

module _ (s : List ℕ) (k : ℕ) where
  pub at_end : length s ≤ 0 → read_groups (suc k) s ≡ Err CUT
  unfolding read_groups
  at_end h = ap (read_groups (suc k)) (drop_of_length-le s h)

  at_byte : 0 < length s → read_groups (suc k) s ≡ read_groups (suc k) (get_or s 0 0 ∷ drop 1 s)
  at_byte h = ap (read_groups (suc k)) (drop-cons s 0 0 h)

  pub at_last : 0 < length s → get_or s 0 0 < 128 → read_groups (suc k) s ≡ Ok (get_or s 0 0, 1)
  at_last h l = at_byte h ∙ read_one k (get_or s 0 0) (drop 1 s) l

  pub at_more : 0 < length s → 128 ≤ get_or s 0 0 → read_groups (suc k) s ≡ above (get_or s 0 0 % 128) (read_groups k (drop 1 s))
  at_more h l = at_byte h ∙ read_more k (get_or s 0 0) (drop 1 s) l
