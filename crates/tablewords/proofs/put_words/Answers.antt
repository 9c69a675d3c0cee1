-- Seven texts, one behind another.
use borrow.Author.Rules.{rules}
use mathlib.Core.Path.{◌≡◌, ap, ◌∙◌}
use Prim.Native.Nat.{ℕ}
use native.Mathlib.Omega.{arith}
use lib.IntN.{pos}
use lib.ListN.{get_or}
use mir.Syntax.{w32, w64}
use mir.Val.{SFits}
use mir.Facts.{to_z-of_z, sfits_widen}
use Rattle.laws.proofs.Machine.{widened}
use Rattle.leap.specs.Leap.{top}
use Rattle.digits.specs.Decimals.{signed_text}
use Rattle.phrases.proofs.Puts.{puts_as, then}
use Rattle.tablewords.specs.Words.{date_text, table_words}
use Rattle.tablewords.proofs.put_words.Goals as goal

pub overflow_cast-t : goal.overflow_cast-t
overflow_cast-t c =
    let f : SFits w32 (get_or c.args.t.now.offsets c.saturating_sub-k.result (pos 0)) = search rules in
    rw (to_z-of_z f) (sfits_widen tt f)

pub returns : goal.returns
unfolding table_words
returns c =
    let t = c.args.t.now in
    let k : c.saturating_sub-k.result ≡ top t.count = omega (arith, c.saturating_sub-k.ensures, c.min.ensures) in
    let f : SFits w32 (get_or t.offsets c.saturating_sub-k.result (pos 0)) = search rules in
    then c.put_count-a.ensures (then c.put-b.ensures
    (then (puts_as (ap (λ (n : ℕ). date_text (get_or t.months n 0)) k) c.put_date-c.ensures) (then c.put-d.ensures
    (then (puts_as (ap signed_text (widened w64 tt f ∙ ap (λ (n : ℕ). get_or t.offsets n (pos 0)) k)) c.put_signed-e.ensures)
    (then c.put-f.ensures c.put_vouched.ensures)))))
