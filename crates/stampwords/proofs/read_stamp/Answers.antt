-- The clock is asked by its name, and the text is what stands behind it.
use mathlib.Core.Path.{ap, ap₂, ◌∙◌}
use Prim.Native.Nat.{ℕ}
use lib.ListN.{drop}
use Rattle.text.specs.Marks.{read_text_marked}
use Rattle.lines.proofs.Lines.{past_drops}
use Rattle.phrases.proofs.Parts.{rest_is}
use Rattle.stampwords.specs.Stamps.{stamp_read}
use Rattle.stampwords.proofs.read_stamp.Goals as goal

pub returns : goal.returns
unfolding stamp_read
returns c =
    let a = c.args in
    let s = a.given.now in
    let text = rest_is s c.past-from.result ∙ ap (λ (n : ℕ). drop n s) c.past-from.ensures.0 ∙ past_drops 32 s 0 in
    c.read_text.ensures ∙ ap₂ (read_text_marked a.t.now) c.clock_of.ensures text
