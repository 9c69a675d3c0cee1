-- A table as the list of its entries, and the table of a list of entries.
-- Assumes nothing.
use Rattle.std.specs.Prelude.{◌≡◌, true, List, [], ◌∷◌, map, ℕ, zero, suc, ◌+◌, ℤ, pos, length}
use Rattle.leap.specs.declared.Table.{Table}
use Rattle.leap.specs.Leap.{tabled, entry_month, entry_offset, padded, accepted}

-- a month number, and TAI-UTC from the first day of that month
abbrev pub Entry : Type 0
Entry = ℕ × ℤ

-- the first of every accepted table
abbrev pub first_entry : Entry
first_entry = (0, pos 10)

-- what an unused place has
abbrev pub no_entry : Entry
no_entry = (0, pos 0)

abbrev pub entry : Table → ℕ → Entry
entry t k = (entry_month t k, entry_offset t k)

-- n entries of a table, from entry k on
unfoldable pub entries_from : Table → ℕ → ℕ → List Entry
entries_from t k zero = []
entries_from t k (suc n) = entry t k ∷ entries_from t (k + 1) n

abbrev pub entries : Table → List Entry
entries t = entries_from t 0 t.count

-- the table of these entries, its unused places zero
unfoldable pub table_of : List Entry → Table
table_of es = tabled (length es) (padded 0 (map (λ e. e.0) es)) (padded (pos 0) (map (λ e. e.1) es))

-- 64 places for months and for offsets, as every table of a program has them
abbrev pub FullLength : Table → Type 0
FullLength t = (length t.months ≡ 64) × (length t.offsets ≡ 64)

-- an accepted table of full length for which no month is given
pub record Good (t : Table) : Type 0 where
  pub is_accepted : accepted t ≡ true
  pub no_month : t.vouched ≡ 0
  pub months_long : length t.months ≡ 64
  pub offsets_long : length t.offsets ≡ 64
