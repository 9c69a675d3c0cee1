-- The count, the months, the words of the offsets and the number of the month, one after the other.
use mathlib.Core.Path.{◌∙◌}
use mathlib.Core.List.{map}
use Prim.Native.Nat.{◌%◌}
use borrow.Author.Rules.{rules}
use lib.ListN.{length-map}
use Rattle.words.specs.Words.{offset_word, table_words}
use Rattle.words.proofs.Laid.{table_laid}
use Rattle.words.proofs.store_table.Goals as goal

pub returns : goal.returns
unfolding table_words
returns c =
    let t = c.args.t.now in
    table_laid c.args.out.now (t.count % 4294967296) t.vouched t.months (map offset_word t.offsets) (search rules) (search rules) (length-map t.offsets offset_word ∙ search rules) c.store_months.ensures c.store_offsets.ensures
