-- The field is what its word gives, at the word's end.
use Rattle.std.specs.Prelude.{pos}
use Rattle.fields.specs.Words.{integer_of}
use Rattle.fields.specs.Fields.{field_of, integer_at}
use Rattle.fields.proofs.Fields.{field_is}
use Rattle.fields.proofs.integer_field.Goals as goal

pub returns : goal.returns
unfolding integer_at
returns c =
    let n = c.next_word-end.ensures in
    field_is (integer_of c.args.most) (field_of (pos 0)) c.args.line.now c.args.c c.filled.ensures c.whole.ensures n.0 n.1
