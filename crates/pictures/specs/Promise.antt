-- What is promised of pictures: a text is the picture of one set of fields at most, and texts of picture 0 and of picture 1 with six digits are in order as their numbers are.
-- Which texts are read, and as what, is promised by `text`.
-- Assumes nothing.
use Rattle.std.specs.Prelude.{◌≡◌, List, [], ◌∷◌, ◌++◌, ℕ, ◌≤◌}
use Rattle.laws.specs.Order.{Less}
use Rattle.pictures.specs.declared.Date.{Date}
use Rattle.pictures.specs.declared.Date.TheVariants.{Numbered, OfYear, Named}
use Rattle.pictures.specs.declared.Fields.{Fields}
use Rattle.pictures.specs.Pictures.{picture_text, WellFormed}

-- the text of a picture determines its fields
abbrev pub Determined : Type 0
Determined = (f g : Fields) → WellFormed f → WellFormed g → picture_text f ≡ picture_text g → f ≡ g

-- ---- their order

-- the same fields with another number of digits
abbrev pub showing : ℕ → Fields → Fields
showing k f = record { year = f.year; date = f.date; hour = f.hour; minute = f.minute; second = f.second; digits = k; micro = f.micro }

-- the numbers of a text from left to right
abbrev pub date_numbers : Date → List ℕ
date_numbers (Numbered m d) = m ∷ d ∷ []
date_numbers (OfYear d) = d ∷ []
date_numbers (Named m d) = m ∷ d ∷ []

abbrev pub numbers_of : Fields → List ℕ
numbers_of f = f.year ∷ date_numbers f.date ++ f.hour ∷ f.minute ∷ f.second ∷ f.micro ∷ []

-- the picture that writes a date so
abbrev pub picture_of : Date → ℕ
picture_of (Numbered m d) = 0
picture_of (OfYear d) = 1
picture_of (Named m d) = 2

-- two texts, with the fields f and g
pub record Sorted (f g : Fields) : Type 0 where
  -- with six digits the first number that differs decides
  pub six : Less (numbers_of f) (numbers_of g) → Less (picture_text (showing 6 f)) (picture_text (showing 6 g))
  -- with any number of digits the lesser text has the lesser numbers
  pub any : (k : ℕ) → k ≤ 6 → Less (picture_text (showing k f)) (picture_text (showing k g)) → Less (numbers_of f) (numbers_of g)

-- both in picture 0 or both in picture 1, which write every number in digits
abbrev pub TextsSorted : Type 0
TextsSorted = (f g : Fields) → WellFormed (showing 6 f) → WellFormed (showing 6 g) → picture_of f.date ≡ picture_of g.date → picture_of f.date ≤ 1 → Sorted f g
