-- The three pictures: the bytes of a text, from the fields that it shows.
-- Assumes nothing.
use Rattle.std.specs.Prelude.{◌≡◌, List, [], ◌∷◌, ◌++◌, ℕ, zero, suc, ◌-◌, ◌%◌, ◌^◌, ◌≤◌, ◌<◌, take}
use Prim.Native.Char.{code}
use Rattle.digits.specs.Decimals.{digits_of}
use Rattle.digits.specs.Months.{month_name}
use Rattle.pictures.specs.declared.Date.{Date}
use Rattle.pictures.specs.declared.Date.TheVariants.{Numbered, OfYear, Named}
use Rattle.pictures.specs.declared.Fields.{Fields}

-- yyyy-mm-ddT, yyyy-dddT, yyyy MON dd and a blank
abbrev pub date_text : ℕ → Date → List ℕ
date_text y (Numbered m d) = digits_of 4 y ++ code "-" ∷ digits_of 2 m ++ code "-" ∷ digits_of 2 d ++ code "T" ∷ []
date_text y (OfYear d) = digits_of 4 y ++ code "-" ∷ digits_of 3 d ++ code "T" ∷ []
date_text y (Named m d) = digits_of 4 y ++ code " " ∷ month_name m ++ code " " ∷ digits_of 2 d ++ code " " ∷ []

-- hh:mm:ss
abbrev pub clock_text : ℕ → ℕ → ℕ → List ℕ
clock_text h m s = digits_of 2 h ++ code ":" ∷ digits_of 2 m ++ code ":" ∷ digits_of 2 s

-- nothing, or the point and the first k of the six digits: the rest is cut
abbrev pub fraction_text : ℕ → ℕ → List ℕ
fraction_text zero u = []
fraction_text (suc k) u = code "." ∷ take (suc k) (digits_of 6 u)

unfoldable pub picture_text : Fields → List ℕ
picture_text f =
    date_text f.year f.date ++ (clock_text f.hour f.minute f.second ++ fraction_text f.digits f.micro)

abbrev pub DateFits : Date → Type 0
DateFits (Numbered m d) = (m < 100) × (d < 100)
DateFits (OfYear d) = d < 1000
DateFits (Named m d) = (1 ≤ m) × (m ≤ 12) × (d < 100)

-- each number fits its width, and the microsecond has no digit that is not shown
pub record WellFormed (f : Fields) : Type 0 where
  pub year : f.year < 10000
  pub date : DateFits f.date
  pub hour : f.hour < 100
  pub minute : f.minute < 100
  pub second : f.second < 100
  pub digits : f.digits ≤ 6
  pub micro : f.micro < 1000000
  pub shown : f.micro % 10 ^ (6 - f.digits) ≡ 0
