-- What is promised of the listing that `ticks` prints. What it prints is `listed`, a definition to be believed.
-- Assumes nothing.
use Rattle.std.specs.Prelude.{◌≡◌, List, ℕ, pos, ◌*ℤ◌, take}
use Rattle.leap.specs.declared.Table.{Table}
use Rattle.labels.specs.declared.Label.{Label}
use Rattle.labels.specs.Labels.{whole}
use Rattle.stamp.specs.declared.Scale.TheVariants.{Utc}
use Rattle.stamp.specs.Scales.{instant_for}
use Rattle.lines.specs.Words.{line_of}
use Rattle.listing.specs.Listing.{tai_second, listed}

pub record Listings : Type 0 where
  -- the second column is the instant of the first, in seconds
  pub tai_column : (t : Table) (l : Label) → pos 1000000 *ℤ tai_second t l ≡ instant_for t Utc (whole l)
  -- nothing past the third line is read
  pub three_lines : (r s : List ℕ) → line_of r 0 ≡ line_of s 0 → line_of r 1 ≡ line_of s 1 → line_of r 2 ≡ line_of s 2 → listed r ≡ listed s
  -- the first 3,075 bytes decide what is printed: three lines of 1,024 characters and their ends
  pub enough_read : (input : List ℕ) → listed (take 3075 input) ≡ listed input
