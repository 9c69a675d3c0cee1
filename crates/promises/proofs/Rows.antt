-- A table in rows: an entry of a row is an entry of the rows put behind each other, so a table's rule is one test over all its entries. The table of `months` stood so;
-- today it is flat, and these laws hold of any table that stands in rows.
-- Assumes nothing.
use mathlib.Core.Path.{◌≡◌, ◌∙◌, ap, sym}
use mathlib.Core.Bool.{Bool, true}
use mathlib.Core.List.{List, [], ◌∷◌, ◌++◌}
use Prim.Native.Nat.{ℕ, zero, suc, ◌+◌, ◌*◌, ◌/◌, ◌%◌, ◌≤◌, ◌<◌}
use native.Mathlib.Nat.{not-suc-le-zero, le_of_suc-le-suc, mul-suc}
use native.Mathlib.Omega.{arith}
use lib.Dec.{T, eqb, eqb→eq}
use lib.ListN.{length, get_or, length-append, get_or-append}
use lib.Seq.{get_or-append-add}
use Rattle.months.specs.Months.{month_length, days_before}
use Rattle.months.proofs.Laws.{table_at}
use Rattle.laws.proofs.Tables.{each, each_left, each_right, runs}

-- entry k of a table of months that stands in groups of four rows, each of four years
unfoldable pub entry_of : List (List (List ℕ)) → ℕ → ℕ
entry_of t k = get_or (get_or (get_or t (k / 192) []) (k / 48 % 4) []) (k % 48) 0

module _ {A : Type 0} where
  abbrev pub joined : List (List A) → List A
  joined [] = []
  joined (xs ∷ xss) = xs ++ joined xss

  -- every row has w entries
  abbrev pub even : ℕ → List (List A) → Bool
  even w [] = true
  even w (xs ∷ xss) = each (eqb (length xs) w) (even w xss)

  pub row_at : (w : ℕ) (d : A) (xss : List (List A)) → T (even w xss) → (b : ℕ) → b < length xss → (j : ℕ) → j < w → get_or (get_or xss b []) j d ≡ get_or (joined xss) (w * b + j) d
  row_at w d [] t b h j g = absurd (not-suc-le-zero h)
  row_at w d (xs ∷ xss) t zero h j g =
      let size : length xs ≡ w = eqb→eq (length xs) w (each_left (eqb (length xs) w) (even w xss) t) in
      let e : w * 0 + j ≡ j = omega arith in
      sym (ap (λ n. get_or (xs ++ joined xss) n d) e ∙ get_or-append xs (joined xss) d j (omega arith))
  row_at w d (xs ∷ xss) t (suc b) h j g =
      let size : length xs ≡ w = eqb→eq (length xs) w (each_left (eqb (length xs) w) (even w xss) t) in
      let e : w * suc b + j ≡ length xs + (w * b + j) = omega (arith, mul-suc w b) in
      row_at w d xss (each_right (eqb (length xs) w) (even w xss) t) b (le_of_suc-le-suc h) j g
      ∙ sym (ap (λ n. get_or (xs ++ joined xss) n d) e ∙ get_or-append-add xs (joined xss) (w * b + j) d)

  pub joined_length : (w : ℕ) (xss : List (List A)) → T (even w xss) → length (joined xss) ≡ w * length xss
  joined_length w [] t = omega arith
  joined_length w (xs ∷ xss) t =
      let size : length xs ≡ w = eqb→eq (length xs) w (each_left (eqb (length xs) w) (even w xss) t) in
      omega (arith, length-append xs (joined xss), joined_length w xss (each_right (eqb (length xs) w) (even w xss) t), mul-suc w (length xss))

-- ---- the table of months: groups of 4 rows of 48 entries

-- its entries are the days before each month, where it has this shape and its entries in a row are the running sum of the months' lengths
pub entry_at : (t : List (List (List ℕ))) → T (even 4 t) → T (even 48 (joined t)) → T (runs month_length 0 0 (joined (joined t))) → (k : ℕ) → k < length (joined (joined t)) → entry_of t k ≡ days_before k
unfolding entry_of
entry_at t fours rows sums k h =
    let n : length (joined t) ≡ 4 * length t = joined_length 4 t fours in
    let all : length (joined (joined t)) ≡ 48 * length (joined t) = joined_length 48 (joined t) rows in
    let row : 4 * (k / 192) + k / 48 % 4 ≡ k / 48 = omega arith in
    let place : 48 * (k / 48) + k % 48 ≡ k = omega arith in
    ap (λ xs. get_or xs (k % 48) 0) (row_at 4 [] t fours (k / 192) (omega arith) (k / 48 % 4) (omega arith) ∙ ap (λ i. get_or (joined t) i []) row)
    ∙ row_at 48 0 (joined t) rows (k / 48) (omega arith) (k % 48) (omega arith)
    ∙ ap (λ i. get_or (joined (joined t)) i 0) place
    ∙ table_at (joined (joined t)) sums k h
