-- Demand 2, of text, from the theorems of the crates `pictures` and `text`.
-- Assumes nothing.
use Rattle.pictures.proofs.Promise.{determined}
use Rattle.text.proofs.Exactly.{sized}
use Rattle.text.proofs.Promise.{promised}
use Rattle.promises.specs.Text.{Demand2Text}

pub demand2_text : Demand2Text
demand2_text = record { picture_fixes_its_fields = determined; picture_fixes_its_length = sized; on_every_scale = promised }
