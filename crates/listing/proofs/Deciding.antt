-- What the three lines ask for, and what is bad_block: the first bad one decides.
-- Assumes nothing.
use mathlib.Core.Path.{◌≡◌, refl, sym, ap}
use mathlib.Core.List.{List, ◌++◌}
use Prim.Native.Nat.{ℕ}
use native.Mathlib.Omega.{arith}
use lib.IntN.{ℤ}
use Rattle.std.specs.Prelude.{Result, Ok, Err}
use Rattle.answer.specs.declared.Fault.{Fault}
use Rattle.answer.specs.declared.Refusal.{Refusal}
use Rattle.leap.specs.declared.Table.{Table}
use Rattle.stamp.specs.declared.Stamp.{Stamp}
use Rattle.lines.specs.Words.{line_of}
use Rattle.listing.specs.Listing.{block_line, stamp_line, count_line, refusal_text, header, rows_from, after_block, from_count, from_stamp, from_block, listed}

-- a reader's refusal alone, without its place
abbrev pub without_place : Result Table Fault → Result Table Refusal
without_place (Ok t) = Ok t
without_place (Err fault) = Err fault.why

pub block_good : (a : Result Table Fault) {t : Table} → without_place a ≡ Ok t → a ≡ Ok t
block_good (Ok t) e = ap Ok (cc e)
block_good (Err fault) e = let z : ◌≡◌ {A = ℕ} 0 1 = cc in absurd (omega arith)

module _ (s : List ℕ) where
  pub bad_block : {why : Refusal} → without_place (block_line (line_of s 0)) ≡ Err why → refusal_text why ≡ listed s
  unfolding listed from_block
  bad_block {why} e = go (block_line (line_of s 0)) e
    where
      go : (a : Result Table Fault) → without_place a ≡ Err why → refusal_text why ≡ after_block (λ t. from_stamp t (line_of s 1) (line_of s 2)) a
      go (Err fault) q = ap refusal_text (sym (cc q))
      go (Ok t) q = let z : ◌≡◌ {A = ℕ} 0 1 = cc in absurd (omega arith)

  module _ {t : Table} (a : block_line (line_of s 0) ≡ Ok t) where
    pub bad_stamp : {why : Refusal} → stamp_line t (line_of s 1) ≡ Err why → refusal_text why ≡ listed s
    unfolding listed from_block from_stamp
    bad_stamp e = rw (a, e) refl

    module _ {x : ℤ} {z : Stamp} (b : stamp_line t (line_of s 1) ≡ Ok (x, z)) where
      pub bad_count : {why : Refusal} → count_line (line_of s 2) ≡ Err why → refusal_text why ≡ listed s
      unfolding listed from_block from_stamp from_count
      bad_count e = rw (a, b, e) refl

      pub all_good : {n : ℕ} → count_line (line_of s 2) ≡ Ok n → header ++ rows_from t n z.reading.label ≡ listed s
      unfolding listed from_block from_stamp from_count
      all_good e = rw (a, b, e) refl
