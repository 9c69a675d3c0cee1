-- The field is what its word gives, at the word's end, and the buffer what that word stores.
use Rattle.std.proofs.Common.{ap, ◌∙◌, length}
use Rattle.lines.specs.Pairs.{hex_into}
use Rattle.fields.specs.Words.{hex_word}
use Rattle.fields.specs.Fields.{field_of, hex_at}
use Rattle.fields.proofs.Fields.{field_is}
use Rattle.fields.proofs.hex_field.Goals as goal

pub returns : goal.returns
unfolding hex_at
returns c =
    let h = c.hex_word-count.ensures in
    let a = c.args in
    let n = c.next_word-end.ensures in
    (field_is (hex_word (length a.out.now)) (field_of 0) a.line.now a.c c.filled.ensures h.0 n.0 n.1, h.1 ∙ ap (hex_into a.out.now) n.0)
