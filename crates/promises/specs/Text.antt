-- Demand 2, of text. "Text is accepted exactly when it has one of the three pictures and names a moment that exists on its clock between 1972 and 9999;
-- it gives the TAI microsecond that calendar, UTC rule and table fix. What is written with six digits reads back."
-- The promises themselves stand in specs/Promise of `pictures` and of `text`. `Promised t k` is that of table t and scale number k: when a text is accepted, and as what, and
-- what it is refused for (`read`); when an instant is written, as which bytes, and what it is refused for (`written`); and that what is written reads back (`back`).
-- Assumes nothing.
use Rattle.std.specs.Prelude.{ℕ}
use Rattle.leap.specs.declared.Table.{Table}
use Rattle.pictures.specs.Promise.{Determined}
use Rattle.text.specs.Promise.{Sized, Promised}

pub record Demand2Text : Type 0 where
  pub picture_fixes_its_fields : Determined
  pub picture_fixes_its_length : Sized
  pub on_every_scale : (t : Table) (k : ℕ) → Promised t k
