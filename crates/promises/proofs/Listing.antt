-- The listing, as the crate `listing` proves it.
-- Assumes nothing.
use Rattle.listing.proofs.Promise.{listings}
use Rattle.promises.specs.Listing.{TicksListing}

pub ticks_listing : TicksListing
ticks_listing = listings
