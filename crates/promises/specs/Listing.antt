-- The listing that `ticks` prints. The statement stands in crates/listing/specs/Promise.antt.
-- Assumes nothing.
use Rattle.listing.specs.Promise.{Listings}

abbrev pub TicksListing : Type 0
TicksListing = Listings
