-- What C hands over as numbers in a row.
-- Assumes nothing.
use Rattle.std.specs.Prelude.{List, ℕ, ◌+◌, Float, get_or}
use Rattle.labels.specs.declared.Label.{Label}
use Rattle.labels.specs.declared.Reading.{Reading}
use Rattle.labels.specs.Labels.{label}
use Rattle.julian.specs.declared.JulianDate.{JulianDate}

-- ---- what is handed over

-- the label whose six numbers stand from place k on
abbrev pub label_from : ℕ → List ℕ → Label
label_from k s = label (get_or s k 0) (get_or s (k + 1) 0) (get_or s (k + 2) 0) (get_or s (k + 3) 0) (get_or s (k + 4) 0) (get_or s (k + 5) 0)

-- a stamp's numbers are its scale, its label and its microsecond
abbrev pub scale_from : List ℕ → ℕ
scale_from s = get_or s 0 0

abbrev pub reading_from : List ℕ → Reading
reading_from s = record { label = label_from 1 s; micro = get_or s 7 0 }

abbrev pub pair : Float → Float → JulianDate
pair m f = record { midnight = m; fraction = f }
