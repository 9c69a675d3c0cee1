-- Nine places at once, each in front of what is below it.
use Rattle.std.proofs.Common.{ℕ, ◌/◌, ◌%◌, ap, ◌∙◌}
use Rattle.digits.specs.Decimals.{digits_of}
use Rattle.digits.proofs.Taking.{by_nines}
use Rattle.digits.proofs.all_places.Goals as goal

pub returns : goal.returns
returns c =
    let s = c.split-above.ensures in
    let t = c.split-top.ensures in
    by_nines c.args.size
    (c.digits-a.ensures ∙ ap (digits_of 9) (t.0 ∙ ap (λ (x : ℕ). x / 1000000000) s.0))
    (c.digits-b.ensures ∙ ap (digits_of 9) (t.1 ∙ ap (λ (x : ℕ). x % 1000000000) s.0))
    (c.digits-c-2.ensures ∙ ap (digits_of 9) s.1)
    c.put-2.ensures c.put-3.ensures c.put-4.ensures
