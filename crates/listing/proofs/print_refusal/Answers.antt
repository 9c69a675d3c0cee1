-- Three texts, one behind another.
use Rattle.listing.proofs.Printing.{refusal_placed}
use Rattle.listing.proofs.print_refusal.Goals as goal

pub returns : goal.returns
returns c = refusal_placed c.args.out.now c.args.why c.requires c.from.ensures c.append-a.ensures c.append_unsigned-b.ensures c.append.ensures
