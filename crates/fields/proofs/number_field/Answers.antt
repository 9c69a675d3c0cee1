-- The field is what its word gives, at the word's end.
use Rattle.fields.specs.Words.{natural_of}
use Rattle.fields.specs.Fields.{field_of, natural_at}
use Rattle.fields.proofs.Fields.{field_is}
use Rattle.fields.proofs.number_field.Goals as goal

pub returns : goal.returns
unfolding natural_at
returns c =
    let n = c.next_word-end.ensures in
    field_is (natural_of c.args.most) (field_of 0) c.args.line.now c.args.c c.filled.ensures c.natural.ensures n.0 n.1
