-- How long a kernel is that is written: 60 bytes for one entry, and never over 2,362.
-- Assumes nothing.
use Prim.Native.Nat.{ℕ, suc, ◌+◌, ◌-◌, ◌*◌, ◌≤◌, ◌<◌}
use mathlib.Core.Path.{◌≡◌, refl, ap, ◌∙◌}
use mathlib.Core.Logic.{◌⊎◌, inl, inr}
use mathlib.Core.List.{List, [], ◌∷◌, ◌++◌}
use native.Mathlib.Omega.{arith}
use lib.Dec.{lit≤}
use lib.IntN.{ℤ, pos, negsuc, suc_ℤ}
use lib.ListN.{length, length-append}
use Rattle.laws.proofs.Cases.{by_order}
use Rattle.laws.proofs.Difference.{up, down, suc_is}
use Rattle.laws.proofs.Machine.{one_side}
use Rattle.leap.specs.declared.Table.{Table}
use Rattle.leap.specs.Entries.{Entry, first_entry, entries_from, entries}
use Rattle.leap.proofs.Facts.{Accepted}
use Rattle.leap.proofs.Entries.{Follow, from_long, accepted_entries}
use Rattle.digits.specs.Bytes.{ascii}
use Rattle.digits.specs.Decimals.{width_of, decimal_text, signed_text}
use Rattle.kernel.specs.Writing.{date_text, pair_text, later_pairs, pairs_text, back, kernel_of}
use Rattle.digits.proofs.Short.{one_digit, decimal_short}

-- z is the offset of entry k, and the numbers so far have `size` bytes: two each, one less for each from 9 down to 0 on the way, and one more for each below -9
record Sized (z : ℤ) (k size : ℕ) : Type 0 where
  low : 10 + down z ≤ up z + k
  high : up z ≤ 10 + k
  near_nought : size + 10 ≤ up z + (2 * (k + 1) + (k + 1 - 20))
  at_most : size ≤ 2 * (k + 1) + (k + 1 - 30)

-- one offset more
module _ {z : ℤ} {k size : ℕ} (h : Sized z k size) (few : k < 63) where
  more : (w : ℤ) → up w + down z ≤ up z + down w + 1 → up z + down w ≤ up w + down z + 1 → Sized w (k + 1) (size + length (signed_text w))
  unfolding signed_text
  more (pos n) a b =
      let low : 10 + 0 ≤ n + (k + 1) = omega (arith, one_side z, h.low) in
      let high : n ≤ 10 + (k + 1) = omega (arith, one_side z, h.high) in
      by_order n 10
      (λ l. let s = ap length (one_digit n l) in record { low = low; high = high; near_nought = omega (arith, one_side z, h.near_nought); at_most = omega (arith, h.at_most) })
      (λ l. let s = decimal_short n (omega arith) in record { low = low; high = high; near_nought = omega (arith, h.at_most); at_most = omega (arith, h.at_most) })
  more (negsuc n) a b =
      let low : 10 + suc n ≤ 0 + (k + 1) = omega (arith, one_side z, h.low) in
      let nought : up z ≡ 0 = omega (arith, one_side z) in
      by_order n 9
      (λ l. let s = ap length (one_digit (suc n) (omega arith)) in record { low = low; high = omega arith; near_nought = omega (arith, h.near_nought); at_most = omega (arith, h.at_most) })
      (λ l. let s = decimal_short (suc n) (omega arith) in record { low = low; high = omega arith; near_nought = omega (arith, h.near_nought); at_most = omega (arith, h.near_nought) })

  next : (w : ℤ) → (w ≡ suc_ℤ z) ⊎ (z ≡ suc_ℤ w) → Sized w (k + 1) (size + length (signed_text w))
  next w (inl e) = let s = suc_is z in let a = ap up e in let b = ap down e in more w (omega arith) (omega arith)
  next w (inr e) = let s = suc_is w in let a = ap up e in let b = ap down e in more w (omega arith) (omega arith)

pair_size : (e : Entry) → length (pair_text e) ≡ length (signed_text e.1) + 13
pair_size e = length-append (signed_text e.1) (ascii ", " ++ date_text e.0)

later_sizes : (e : Entry) (es : List Entry) → Follow e es → (k size : ℕ) → Sized e.1 k size → k + length es < 64
    → size + length (later_pairs es) ≤ 34 * length es + (2 * (k + 1 + length es) + (k + 1 + length es - 30))
unfolding later_pairs
later_sizes e [] f k size h l = omega (arith, h.at_most)
later_sizes e (g ∷ es) f k size h l =
    let n = later_sizes g es f.1 (k + 1) (size + length (signed_text g.1)) (next h (omega arith) g.1 f.0.step) (omega arith) in
    omega (arith, pair_size g, length-append (pair_text g) (later_pairs es))

first_sized : Sized first_entry.1 0 2
first_sized = record { low = lit≤ tt; high = lit≤ tt; near_nought = lit≤ tt; at_most = lit≤ tt }

first_size : length (pair_text first_entry) ≡ 15
unfolding signed_text decimal_text width_of
first_size = refl

pub sizes : {t : Table} → Accepted t → (60 ≤ length (kernel_of t)) × (length (kernel_of t) ≤ 2362)
unfolding kernel_of pairs_text
sizes {t} a =
    let n = t.count - 1 in
    let es = entries_from t 1 n in
    let all = accepted_entries a in
    let long = from_long t 1 n in
    let few = a.few in
    let later = later_sizes first_entry es all.1 0 2 first_sized (omega arith) in
    let p : length (pairs_text (first_entry ∷ es)) ≡ 15 + length (later_pairs es) = length-append (pair_text first_entry) (later_pairs es) ∙ ap (λ k. k + length (later_pairs es)) first_size in
    let q : length (pairs_text (entries t) ++ back) ≡ length (pairs_text (first_entry ∷ es)) + 14 = length-append (pairs_text (entries t)) back ∙ ap (λ l. length (pairs_text l) + 14) all.0 in
    (omega arith, omega arith)
