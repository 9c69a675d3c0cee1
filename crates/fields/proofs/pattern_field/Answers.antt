-- The field is what its word gives, at the word's end.
use Rattle.fields.specs.Words.{pattern_of}
use Rattle.fields.specs.Fields.{field_of, pattern_at}
use Rattle.fields.proofs.Fields.{field_is}
use Rattle.fields.proofs.pattern_field.Goals as goal

pub returns : goal.returns
unfolding pattern_at
returns c =
    let n = c.next_word-end.ensures in
    field_is pattern_of (field_of 0) c.args.line.now c.args.c c.filled.ensures c.bits_of-bits.ensures n.0 n.1
