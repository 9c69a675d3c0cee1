-- The bytes compared are those in front.
use mathlib.Core.Path.{◌∙◌}
use lib.ListN.{length, take}
use Rattle.phrases.specs.Parts.{begins_with}
use Rattle.phrases.proofs.Parts.{same_points}
use Rattle.phrases.proofs.begins_with.Goals as goal

pub returns : goal.returns
unfolding begins_with
returns c = c.starts_with.ensures.value ∙ same_points (take (length c.args.word.now) c.args.s.now) c.args.word.now
