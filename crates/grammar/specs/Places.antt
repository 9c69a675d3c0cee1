-- Where a fault is placed: at the first byte at which no kernel goes on so, but for a bad date and for our name a second time. A kernel has no limit of length.
-- Assumes nothing.
use Rattle.std.specs.Prelude.{◌≡◌, true, false, ◌⊎◌, List, [], ◌∷◌, ◌++◌, ℕ, length}
use Rattle.digits.specs.Bytes.{ascii}
use Rattle.leap.specs.Entries.{Entry}
use Rattle.kinds.specs.Kinds.{is_run, is_name, ours}
use Rattle.grammar.specs.Grammar.{Row, Date, Kernel}

-- how many bytes of a file are read
abbrev pub limit : ℕ
limit = 65536

abbrev pub IsKernel : List ℕ → Type 0
IsKernel s = (es : List Entry) × Kernel es s

-- some kernel begins with these bytes
abbrev pub GoesOn : List ℕ → Type 0
GoesOn s = (rest : List ℕ) × IsKernel (s ++ rest)

-- a fault is certain at the byte b behind x, and not before
pub record FirstFault (x : List ℕ) (b : ℕ) : Type 0 where
  pub goes_on : GoesOn x
  pub no_more : GoesOn (x ++ b ∷ []) → ⊥

-- behind these bytes a date must stand: an @ may follow, and an @ with an x may not
abbrev pub DateMust : List ℕ → Type 0
DateMust x = GoesOn (x ++ ascii "@") × (GoesOn (x ++ ascii "@x") → ⊥)

-- behind these bytes, which have our assignment, a name may stand: they are a kernel, and still are with A=1 (so too in text, where nothing is a fault)
abbrev pub NameMay : List ℕ → Type 0
NameMay x = IsKernel x × IsKernel (x ++ ascii "A=1")

-- a bad date, from its @ at place p on: item bytes, and b is one more or ends them too soon
pub record BadDate (x : List ℕ) (b p : ℕ) : Type 0 where
  pub before : List ℕ
  pub date : List ℕ
  pub split : x ≡ before ++ 64 ∷ date
  pub placed : length before ≡ p
  pub must : DateMust before
  pub item_bytes : Row is_run date
  pub bad : (is_run b ≡ true) ⊎ ((month : ℕ) → Date month (64 ∷ date) → ⊥)

-- our name a second time, from place p on; b, which is no name byte, ends it
pub record SecondName (x : List ℕ) (b p : ℕ) : Type 0 where
  pub before : List ℕ
  pub split : x ≡ before ++ ours
  pub placed : length before ≡ p
  pub may : NameMay before
  pub ends : is_name b ≡ false

-- the place of the fault that b behind x makes certain
pub data Place (x : List ℕ) (b : ℕ) : ℕ → Type 0 where
  at_the_date : {p : ℕ} → BadDate x b p → Place x b p
  at_the_name : {p : ℕ} → SecondName x b p → Place x b p
  at_the_byte : ((p : ℕ) → BadDate x b p → ⊥) → ((p : ℕ) → SecondName x b p → ⊥) → Place x b (length x)
