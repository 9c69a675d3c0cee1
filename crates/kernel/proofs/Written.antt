-- What is written for an accepted table is a kernel with the table's entries.
-- Assumes nothing.
use Prim.Native.Nat.{ℕ, zero, suc, ◌+◌, ◌-◌, ◌/◌, ◌%◌, ◌^◌, ◌≤◌, ◌<◌}
use mathlib.Core.Path.{◌≡◌, refl, sym, ap, subst, ◌∙◌}
use mathlib.Core.Bool.{false}
use mathlib.Core.List.{List, [], ◌∷◌, ◌++◌, map, append_assoc}
use native.Mathlib.Omega.{arith}
use lib.Dec.{lit≤, lit<}
use lib.IntN.{ℤ, pos, negsuc, neg_ℤ}
use lib.ListN.{replicate}
use lib.Signed.{mag}
use Rattle.laws.specs.Tests.{All}
use Rattle.laws.proofs.Cases.{join}
use Rattle.leap.specs.declared.Table.{Table}
use Rattle.leap.specs.Leap.{last_entry_month}
use Rattle.leap.specs.Entries.{Entry, first_entry, entries_from, entries}
use Rattle.leap.proofs.Facts.{Accepted}
use Rattle.leap.proofs.Entries.{entries_long, accepted_entries}
use Rattle.digits.specs.Bytes.{ascii}
use Rattle.digits.specs.Decimals.{is_digit, spelled, digits_of, decimal_text, signed_text}
use Rattle.digits.specs.Months.{month_name}
use Rattle.digits.proofs.Decimals.{place_digit, number_back}
use Rattle.kinds.specs.Kinds.{is_between, upper, begin_data, begin_text, ours}
use Rattle.grammar.specs.Grammar.{every, Row, Some, some, one, ◌▸◌, Whole, bare, minus, Year, MonthName, short, Date, Pair, Pairs, last, more, Ours, File, text, data_on, text_ends, data_begins, line_ends, text_begins, our_pairs, Kernel}
use Rattle.grammar.proofs.Months.{twelve}
use Rattle.kernel.specs.Writing.{date_text, pair_text, later_pairs, pairs_text, front, back, kernel_of}
use Rattle.leap.proofs.Offsets.{Fine, all_fine}
use Rattle.digits.proofs.Short.{decimal_form}

-- x, and y behind it
part : {A B : List ℕ → Type 0} (x y : List ℕ) → A x → B y → (A ▸ B) (x ++ y)
part x y a b = record { first = x; rest = y; is_first = a; is_rest = b; split = refl }

-- ---- a number

digits_row : (w n : ℕ) → Row is_digit (digits_of w n)
unfolding every
digits_row zero n = refl
digits_row (suc w) n = join (place_digit (n / 10 ^ w)) (digits_row w n)

-- digits, and the number that they spell
abbrev Spells : ℕ → List ℕ → Type 0
Spells n x = Some is_digit x × (spelled 0 x ≡ n)

decimal_spells : (n : ℕ) → n < 100 → Spells n (decimal_text n)
decimal_spells n h =
    decimal_form n (Spells n) h
    (λ l. (some (place_digit (n / 10 ^ 0)) (digits_row 0 n), number_back 1 (omega arith)))
    (λ l. (some (place_digit (n / 10 ^ 1)) (digits_row 1 n), number_back 2 (omega arith)))

number_is : (z : ℤ) → mag z < 99 → Whole z (signed_text z)
unfolding signed_text
number_is (pos n) h = let d = decimal_spells n (omega arith) in subst (λ k. Whole (pos k) (decimal_text n)) d.1 (bare d.0)
number_is (negsuc n) h = let d = decimal_spells (suc n) (omega arith) in subst (λ k. Whole (neg_ℤ (pos k)) (45 ∷ decimal_text (suc n))) d.1 (minus d.0)

-- ---- a date, and a pair

capitals : (m : ℕ) → 1 ≤ m → m ≤ 12 → map upper (month_name m) ≡ month_name m
capitals = twelve (λ m. map upper (month_name m) ≡ month_name m) refl refl refl refl refl refl refl refl refl refl refl refl

date_is : (m : ℕ) → m ≤ last_entry_month → Date m (date_text m)
date_is m h = record {
  y = 1972 + m / 12;
  m = m % 12 + 1;
  number = omega arith;
  parts =
      let y = digits_of 4 (1972 + m / 12) in
      let n = month_name (m % 12 + 1) in
      part (ascii "@") (y ++ (ascii "-" ++ (n ++ ascii "-1"))) refl
      (part y (ascii "-" ++ (n ++ ascii "-1")) year
      (part (ascii "-") (n ++ ascii "-1") refl
      (part n (ascii "-1") month
      (part (ascii "-") (ascii "1") refl short))));
}
  where
    year : Year (1972 + m / 12) (digits_of 4 (1972 + m / 12))
    year = record { four = refl; digits = digits_row 4 (1972 + m / 12); value = number_back 4 (omega arith); late = omega arith }

    month : MonthName (m % 12 + 1) (month_name (m % 12 + 1))
    month = record { some_month = omega arith; of_year = omega arith; letters = capitals (m % 12 + 1) (omega arith) (omega arith) }

pair_is : (e : Entry) → Fine e → Pair e (pair_text e)
unfolding every
pair_is e f =
    part (signed_text e.1) (ascii ", " ++ date_text e.0) (number_is e.1 f.0)
    (part (ascii ", ") (date_text e.0) (some refl refl) (date_is e.0 f.1))

-- ---- the pairs

blanks : Row is_between (replicate 20 32)
unfolding every
blanks = refl

pairs_are : (w : List ℕ) → Row is_between w → (e : Entry) (es : List Entry) → All Fine (e ∷ es) → Pairs (e ∷ es) (w ++ (pair_text e ++ (later_pairs es ++ ascii " )")))
unfolding later_pairs every
pairs_are w r e [] h = last (part w (pair_text e ++ ascii " )") r (part (pair_text e) (ascii " )") (pair_is e h.0) (part (ascii " ") (ascii ")") refl refl)))
pairs_are w r e (f ∷ es) h =
    subst (Pairs (e ∷ f ∷ es)) same (more (part w (pair_text e ++ 10 ∷ []) r (part (pair_text e) (10 ∷ []) (pair_is e h.0) (one refl))) (pairs_are (replicate 20 32) blanks f es h.1))
  where
    rest : List ℕ
    rest = replicate 20 32 ++ (pair_text f ++ (later_pairs es ++ ascii " )"))

    same : (w ++ (pair_text e ++ 10 ∷ [])) ++ rest ≡ w ++ (pair_text e ++ ((10 ∷ replicate 20 32 ++ (pair_text f ++ later_pairs es)) ++ ascii " )"))
    same =
        append_assoc w (pair_text e ++ 10 ∷ []) rest
        ∙ ap (λ x. w ++ x) (append_assoc (pair_text e) (10 ∷ []) rest)
        ∙ ap (λ x. w ++ (pair_text e ++ (10 ∷ replicate 20 32 ++ x))) (sym (append_assoc (pair_text f) (later_pairs es) (ascii " )")))

-- ---- the file

module _ (e : Entry) (es : List Entry) (h : All Fine (e ∷ es)) where
  ours_are : Ours (e ∷ es) (ours ++ (ascii " = ( " ++ (pair_text e ++ (later_pairs es ++ ascii " )"))))
  unfolding every
  ours_are =
      let p = ascii " " ++ (pair_text e ++ (later_pairs es ++ ascii " )")) in
      part ours (ascii " = (" ++ p) refl
      (part (ascii " ") (ascii "= (" ++ p) refl
      (part (ascii "=") (ascii " (" ++ p) refl
      (part (ascii " ") (ascii "(" ++ p) refl
      (part (ascii "(") p refl (pairs_are (ascii " ") refl e es h)))))

  behind : File (data_on false) [] (10 ∷ begin_text ++ 10 ∷ [])
  unfolding every
  behind = line_ends (text_begins (part begin_text [] refl refl) (text_ends [] refl))

  file_is : File text (e ∷ es) (front ++ (pairs_text (e ∷ es) ++ back))
  unfolding every pairs_text
  file_is =
      let p = pair_text e in
      let l = later_pairs es in
      let end = 10 ∷ begin_text ++ 10 ∷ [] in
      let same : (p ++ (l ++ ascii " )")) ++ end ≡ (p ++ l) ++ back = append_assoc p (l ++ ascii " )") end ∙ ap (λ x. p ++ x) (append_assoc l (ascii " )") end) ∙ sym (append_assoc p l back) in
      subst (λ x. File text (e ∷ es) (front ++ x)) same (data_begins (part [] begin_data refl (part begin_data [] refl refl)) (our_pairs ours_are behind))

pub kernel_is : {t : Table} → Accepted t → Kernel (entries t) (kernel_of t)
unfolding kernel_of
kernel_is {t} a =
    let es = entries_from t 1 (t.count - 1) in
    let fine : All Fine (first_entry ∷ es) = ((lit< tt, lit≤ tt), all_fine a 1 (t.count - 1) (omega (arith, a.some_entry))) in
    record {
      file = subst (λ l. File text l (front ++ (pairs_text l ++ back))) (sym (accepted_entries a).0) (file_is first_entry es fine);
      stands = omega (arith, entries_long t, a.some_entry);
    }
