use lib.ListN.{length}
use Rattle.listings.proofs.list_each.Given as goal

abbrev pub decreases-loop-rest : goal.decreases-loop-rest
decreases-loop-rest l = length l.rest
