-- The line holds the text.
use mathlib.Core.Path.{◌≡◌, ap, subst, ◌∙◌}
use mathlib.Core.List.{List, [], ◌++◌}
use Prim.Native.Nat.{ℕ}
use Rattle.answer.specs.Buffers.{written, buffer_after}
use Rattle.pictures.specs.Pictures.{date_text}
use Rattle.pictures.proofs.Filled.{shown}
use Rattle.pictures.proofs.write_fields.Goals as goal

pub returns : goal.returns
returns c =
    let f = c.args.f in
    let date = c.put_date.ensures ∙ ap (λ (l : List ℕ). l ++ date_text f.year f.date) c.new-line.ensures in
    subst (λ (t : List ℕ). (c.write.result ≡ written [] t c.args.out.now) × (c.write.new.out ≡ buffer_after [] t c.args.out.now))
    (shown f date c.put_clock.ensures (c.text.ensures ∙ c.cut.ensures) c.hidden.ensures)
    c.write.ensures
