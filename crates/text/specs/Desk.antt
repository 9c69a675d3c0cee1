-- Texts that have no picture, our own examples.
-- Assumes nothing.
use Rattle.std.specs.Prelude.{◌≡◌, List, [], ◌∷◌, pos}
use Prim.Native.String.{String}
use Rattle.digits.specs.Bytes.{ascii}
use Rattle.leap.specs.Leap.{bulletin_c}
use Rattle.stamp.specs.Stamps.{no_stamp}
use Rattle.text.specs.Text.{read_text, text_results}

abbrev pub shapeless : List String
shapeless =
    ""
    ∷ "."
    ∷ "1972-01-01T00:00:00."
    ∷ "1972-01-01T00:00:00.1234567"
    ∷ "1972-01-01T00:00:00 "
    ∷ "1972-01-01T00:00:00\n"
    ∷ " 1972-01-01T00:00:00"
    ∷ "1972-01-01t00:00:00"
    ∷ "1972-001T00:00:0"
    ∷ "1972 jan 01 00:00:00"
    ∷ "1972 XXX 01 00:00:00"
    ∷ "1972 ??? 01 00:00:00"
    ∷ "1972 JAN  1 00:00:00"
    ∷ []

-- it is refused with SHAPE, 2, and zero in the rest
abbrev pub Shapeless : String → Type 0
Shapeless text = text_results (read_text bulletin_c 0 (ascii text)) ≡ (2, pos 0, no_stamp)
