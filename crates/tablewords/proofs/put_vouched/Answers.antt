-- None is given, or four texts one behind another.
use mathlib.Core.Path.{refl}
use native.Mathlib.Omega.{arith}
use Rattle.laws.proofs.Branches.{if_less, if_not_less}
use Rattle.phrases.proofs.Puts.{puts_as, then}
use Rattle.tablewords.specs.Words.{vouched_words}
use Rattle.tablewords.proofs.put_vouched.Goals as goal

pub returns-then-v-lt1 : goal.returns-then-v-lt1
unfolding vouched_words
returns-then-v-lt1 c = puts_as (if_not_less {m = 0} {n = c.args.v} _ (omega arith) refl) c.put.ensures

pub returns : goal.returns
unfolding vouched_words
returns c =
    puts_as (if_less {m = 0} {n = c.args.v} _ (omega arith) refl) (then c.put-a.ensures (then c.put_month-b.ensures (then c.put-c.ensures c.put_unsigned.ensures)))
