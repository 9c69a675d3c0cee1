-- Four texts, one behind another.
use Rattle.digits.proofs.Bytes.{digits_from}
use Rattle.phrases.proofs.Puts.{puts_as, then}
use Rattle.tablewords.specs.Words.{date_text}
use Rattle.tablewords.proofs.put_date.Goals as goal

pub returns : goal.returns
unfolding date_text
returns c =
    then (puts_as (digits_from 5 c.digits-year.ensures) c.put-a.ensures) (then c.put-b.ensures
    (then (puts_as (digits_from 7 c.digits-month.ensures) c.put-c.ensures) c.put.ensures))
