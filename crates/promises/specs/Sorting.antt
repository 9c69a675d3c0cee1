-- Request A5. "May I sort the sheet as text? .. Show that under one table and on one scale, two instants both written in picture 0 with six digits compare as bytes exactly
-- as they compare in time, added seconds included; the same for picture 1. With fewer digits, the earlier instant's text is never the greater. For picture 2, give
-- users a pair that breaks it."
-- The promise is `SortsAsText` of crates/text/specs/Promise.antt; that a text is written for every instant with a reading, `WrittenExactly` beside it says. What it rests
-- on, of texts alone, is `TextsSorted` of crates/pictures/specs/Promise.antt. The order of bytes is `Less` of crates/laws/specs/Order.antt: that of `sort` with LC_ALL=C,
-- and of memcmp where both have one length.
-- Assumes nothing.
use Rattle.std.specs.Prelude.{ℕ, ℤ, neg_ℤ, ◌<ℤ◌}
use Prim.Native.String.{String}
use Rattle.laws.specs.Order.{Less}
use Rattle.digits.specs.Bytes.{ascii}
use Rattle.leap.specs.declared.Table.{Table}
use Rattle.leap.specs.Leap.{bulletin_c}
use Rattle.pictures.specs.Promise.{TextsSorted}
use Rattle.text.specs.Promise.{WritesText, SortsAsText}
use Rattle.promises.specs.Worked.{seconds, milliseconds}

-- on UTC under Bulletin C the instant x has the text a in picture p with d digits, and y has b in picture q with e digits: x is earlier, and its text the greater
pub record BreaksIt (x : ℤ) (p d : ℕ) (a : String) (y : ℤ) (q e : ℕ) (b : String) : Type 0 where
  pub first_written : WritesText bulletin_c x p 0 d (ascii a)
  pub second_written : WritesText bulletin_c y q 0 e (ascii b)
  pub first_earlier : x <ℤ y
  pub first_greater : Less (ascii b) (ascii a)

pub record RequestA5 : Type 0 where
  pub texts_sorted : TextsSorted
  pub sorts_as_text : (t : Table) (k : ℕ) → SortsAsText t k
  -- picture 2 breaks it; of our own: so do two numbers of digits, and two pictures
  pub names_break_it : BreaksIt (neg_ℤ (seconds 435698908)) 2 6 "1986 MAR 12 16:31:09.000000" (neg_ℤ (seconds 433020508)) 2 6 "1986 APR 12 16:31:09.000000"
  pub digits_break_it : BreaksIt (neg_ℤ (milliseconds 433020507500)) 0 6 "1986-04-12T16:31:09.500000" (neg_ℤ (milliseconds 433020507100)) 0 0 "1986-04-12T16:31:09"
  pub pictures_break_it : BreaksIt (neg_ℤ (seconds 433020508)) 1 6 "1986-102T16:31:09.000000" (neg_ℤ (seconds 432934108)) 0 6 "1986-04-13T16:31:09.000000"
