-- What `ticks` reads is enough: a good line within reach is cut alike, and a long one is long either way.
-- Assumes nothing.
use mathlib.Core.Path.{◌≡◌, refl, sym, ap, ap₂, ◌∙◌}
use mathlib.Core.Bool.{Bool, true, false, cond}
use mathlib.Core.List.{List, [], ◌∷◌}
use Prim.Native.Nat.{ℕ, zero, suc, ◌+◌, ◌-◌, ◌≤◌, ◌<◌}
use native.Mathlib.Nat.{sub-zero, zero-sub, suc-sub-suc}
use native.Mathlib.Omega.{arith}
use borrow.Author.Tests.{lt-leb}
use lib.Dec.{eqb}
use lib.ListN.{length, take, drop}
use lib.Seq.{take-nil}
use Rattle.laws.proofs.Cases.{by_order}
use Rattle.answer.specs.declared.Refusal.TheVariants.{Shape as SHAPE}
use Rattle.leap.specs.declared.Table.{Table}
use Rattle.labels.specs.declared.Label.{Label}
use Rattle.std.specs.Prelude.{Result, Ok, Err}
use lib.IntN.{ℤ}
use Rattle.answer.specs.declared.Refusal.{Refusal}
use Rattle.stamp.specs.declared.Stamp.{Stamp}
use Rattle.answer.specs.declared.Fault.{Fault}
use Rattle.lines.specs.Words.{before, line_of}
use Rattle.listing.specs.Listing.{block_line, stamp_line, count_line, refusal_text, after_block, after_stamp, from_count, from_stamp, from_block, listed}
use Rattle.listing.specs.Promise.{Listings}
use Rattle.listing.proofs.Row.{tai_column}

-- ---- a line of an input that is cut after n bytes

before_cut : (n : ℕ) (s : List ℕ) → length (before 10 s) < n → before 10 (take n s) ≡ before 10 s
unfolding before
before_cut zero s h = absurd (omega arith)
before_cut (suc n) [] h = refl
before_cut (suc n) (x ∷ s) h = go (eqb x 10) h (before_cut n s)
  where
    go : (t : Bool) → length (cond t [] (x ∷ before 10 s)) < suc n → (length (before 10 s) < n → before 10 (take n s) ≡ before 10 s) → cond t [] (x ∷ before 10 (take n s)) ≡ cond t [] (x ∷ before 10 s)
    go true h f = refl
    go false h f = ap (λ (l : List ℕ). x ∷ l) (f (omega arith))

before_long : (n : ℕ) (s : List ℕ) → n ≤ length (before 10 s) → length (before 10 (take n s)) ≡ n
unfolding before
before_long zero s h = refl
before_long (suc n) [] h = absurd (omega arith)
before_long (suc n) (x ∷ s) h = go (eqb x 10) h (before_long n s)
  where
    go : (t : Bool) → suc n ≤ length (cond t [] (x ∷ before 10 s)) → (n ≤ length (before 10 s) → length (before 10 (take n s)) ≡ n) → length (cond t [] (x ∷ before 10 (take n s))) ≡ suc n
    go true h f = absurd (omega arith)
    go false h f = ap suc (f (omega arith))

drop_take : (k n : ℕ) (s : List ℕ) → drop k (take n s) ≡ take (n - k) (drop k s)
drop_take zero n s = rw sub-zero
drop_take (suc k) zero s = rw zero-sub
drop_take (suc k) (suc n) [] = sym (take-nil (suc n - suc k))
drop_take (suc k) (suc n) (x ∷ s) = rw suc-sub-suc (drop_take k n s)

-- the input after its first line
abbrev rest : List ℕ → List ℕ
rest s = drop (length (before 10 s) + 1) s

-- what a first line and the rest print, where a long line prints the same whatever it is and whatever follows
module _ (print : List ℕ → List ℕ → List ℕ) (long : (line more : List ℕ) → 1024 < length line → print line more ≡ refusal_text SHAPE) where
  cut : (n : ℕ) (s : List ℕ) → 1025 ≤ n → (length (before 10 s) ≤ 1024 → print (before 10 s) (take (n - (length (before 10 s) + 1)) (rest s)) ≡ print (before 10 s) (rest s))
      → print (before 10 (take n s)) (rest (take n s)) ≡ print (before 10 s) (rest s)
  cut n s h good =
      by_order (length (before 10 s)) n
      (λ l. let e = before_cut n s l in
      ap (λ (x : List ℕ). print x (drop (length x + 1) (take n s))) e
      ∙ ap (print (before 10 s)) (drop_take (length (before 10 s) + 1) n s)
      ∙ by_order 1024 (length (before 10 s)) (λ far. long _ _ far ∙ sym (long _ _ far)) good)
      (λ l. let e = before_long n s l in long _ _ (omega arith) ∙ sym (long _ _ (omega arith)))

-- ---- the three lines

long_block : (a b c : List ℕ) → 1024 < length a → from_block a b c ≡ refusal_text SHAPE
unfolding from_block block_line
long_block a b c h = rw (lt-leb (length a) 1024 h)

long_stamp : (t : Table) (b c : List ℕ) → 1024 < length b → from_stamp t b c ≡ refusal_text SHAPE
unfolding from_stamp stamp_line
long_stamp t b c h = rw (lt-leb (length b) 1024 h)

long_count : (t : Table) (l : Label) (c : List ℕ) → 1024 < length c → from_count t l c ≡ refusal_text SHAPE
unfolding from_count count_line
long_count t l c h = rw (lt-leb (length c) 1024 h)

block_same : (f g : Table → List ℕ) (a : Result Table Fault) → ((t : Table) → f t ≡ g t) → after_block f a ≡ after_block g a
block_same f g (Ok t) h = h t
block_same f g (Err fault) h = refl

stamp_same : (f g : Label → List ℕ) (a : Result (ℤ × Stamp) Refusal) → ((l : Label) → f l ≡ g l) → after_stamp f a ≡ after_stamp g a
stamp_same f g (Ok (instant, stamp)) h = h stamp.reading.label
stamp_same f g (Err why) h = refl

third_cut : (t : Table) (l : Label) (n : ℕ) (s : List ℕ) → 1025 ≤ n → from_count t l (before 10 (take n s)) ≡ from_count t l (before 10 s)
third_cut t l n s h = cut (λ line more. from_count t l line) (λ line more far. long_count t l line far) n s h (λ near. refl)

second_cut : (t : Table) (n : ℕ) (s : List ℕ) → 2050 ≤ n → from_stamp t (before 10 (take n s)) (before 10 (rest (take n s))) ≡ from_stamp t (before 10 s) (before 10 (rest s))
unfolding from_stamp
second_cut t n s h =
    cut (λ line more. from_stamp t line (before 10 more)) (λ line more far. long_stamp t line (before 10 more) far) n s (omega arith)
    (λ near. stamp_same _ _ (stamp_line t (before 10 s)) (λ l. third_cut t l (n - (length (before 10 s) + 1)) (rest s) (omega arith)))

first_cut : (n : ℕ) (s : List ℕ) → 3075 ≤ n
    → from_block (before 10 (take n s)) (before 10 (rest (take n s))) (before 10 (rest (rest (take n s)))) ≡ from_block (before 10 s) (before 10 (rest s)) (before 10 (rest (rest s)))
unfolding from_block
first_cut n s h =
    cut (λ line more. from_block line (before 10 more) (before 10 (rest more))) (λ line more far. long_block line (before 10 more) (before 10 (rest more)) far) n s (omega arith)
    (λ near. block_same _ _ (block_line (before 10 s)) (λ t. second_cut t (n - (length (before 10 s) + 1)) (rest s) (omega arith)))

enough_read : (input : List ℕ) → listed (take 3075 input) ≡ listed input
unfolding listed line_of
enough_read input = first_cut 3075 input (omega arith)

three_lines : (r s : List ℕ) → line_of r 0 ≡ line_of s 0 → line_of r 1 ≡ line_of s 1 → line_of r 2 ≡ line_of s 2 → listed r ≡ listed s
unfolding listed
three_lines r s a b c = ap₂ (λ x y. from_block x y (line_of r 2)) a b ∙ ap (from_block (line_of s 0) (line_of s 1)) c

-- ---- all of it

pub listings : Listings
listings = record { tai_column = tai_column; three_lines = three_lines; enough_read = enough_read }
