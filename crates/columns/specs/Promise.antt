-- What is promised of lines and of plain decimals, which every reader of records stands on.
-- Assumes nothing.
use Rattle.std.specs.Prelude.{◌≡◌, ◌↔◌, ◌⊎◌, Bool, true, List, [], ◌∷◌, ◌++◌, ℕ, ◌*◌, ◌^◌, ◌≤◌, ◌<◌, length, drop, Some, None}
use Rattle.lines.specs.Words.{without}
use Rattle.columns.specs.Lines.{lines_of, fed, place_behind}
use Rattle.columns.specs.Decimals.{Plain, found, decimal_in, whole_of}

-- s begins with this line, and there the line ends: at a line feed, or with s
pub record BeginsWith (line s : List ℕ) : Type 0 where
  pub rest : List ℕ
  pub split : s ≡ line ++ rest
  pub no_feed : without 10 line ≡ true
  pub ends : (rest ≡ []) ⊎ ((next : List ℕ) × (rest ≡ 10 ∷ next))

-- s has a last byte, and it is no line feed
abbrev pub EndsOtherwise : List ℕ → Type 0
EndsOtherwise s = (front : List ℕ) × (b : ℕ) × (s ≡ front ++ b ∷ []) × (b ≡ 10 → ⊥)

pub record Lines (s : List ℕ) : Type 0 where
  -- each line stands where the lines before it end
  pub stands : (before after : List (List ℕ)) (line : List ℕ) → lines_of s ≡ before ++ (line ∷ after) → BeginsWith line (drop (place_behind before) s)
  -- and the lines, each with its line feed, are the file: where that ends with another byte, the last lacks its own
  pub all_of_it : (fed (lines_of s) ≡ s) ⊎ ((fed (lines_of s) ≡ s ++ 10 ∷ []) × EndsOtherwise s)

pub record Decimals : Type 0 where
  -- in a field of up to 18 columns a plain decimal is found exactly where one stands, and in a longer one none
  pub found_exactly : (s : List ℕ) (negative : Bool) (number places : ℕ) → length s ≤ 18 → (decimal_in s ≡ found negative number places) ↔ Plain s negative number places
  pub none_in_more : (s : List ℕ) → 18 < length s → decimal_in s ≡ None
  -- a whole number by value
  pub whole_exactly : (number places k : ℕ) → (whole_of number places ≡ Some k) ↔ (number ≡ k * 10 ^ places)

pub record Columns : Type 0 where
  pub lines : (s : List ℕ) → Lines s
  pub decimals : Decimals
