-- One digit more at each turn.
use mathlib.Core.Path.{◌≡◌, refl, ap, ◌∙◌}
use mathlib.Core.List.{List}
use Prim.Native.Nat.{ℕ, ◌+◌, ◌-◌, ◌%◌, ◌<◌, ◌≤◌}
use native.Mathlib.Omega.{arith}
use lib.ListN.{length, take, drop, get_or, length-take, length-drop}
use Rattle.std.proofs.lemmas.List.{get_or-take, get_or-drop}
use Rattle.digits.specs.Decimals.{spelled, number_at}
use Rattle.pictures.proofs.Spelling.{one_more, number_few}
use Rattle.pictures.proofs.number_at.Goals as goal

-- how many digits are looked at
looked_at : (t : List ℕ) (i w : ℕ) → i + w ≤ length t → length (take (i + w - i) (drop i t)) ≡ w
looked_at t i w h = simp (length-take, length-drop) (omega arith)

pub loop-b-init : goal.loop-b-init
unfolding spelled
loop-b-init g c = refl

pub overflow_mul-n : goal.overflow_mul-n
overflow_mul-n g c =
    omega (arith, number_few c.args.t.now c.args.i c.loop-b.b-index (omega (arith, looked_at c.args.t.now c.args.i g.row.W c.requires.all.inside)), c.loop-b.invariant)

pub overflow_add-n : goal.overflow_add-n
overflow_add-n g c =
    omega (arith, number_few c.args.t.now c.args.i c.loop-b.b-index (omega (arith, looked_at c.args.t.now c.args.i g.row.W c.requires.all.inside)), c.loop-b.invariant)

pub loop-b-preserved : goal.loop-b-preserved
loop-b-preserved g c =
    let t = c.args.t.now in
    let i = c.args.i in
    let k = c.loop-b.b-index in
    let w = g.row.W in
    let h : k < w = omega (arith, looked_at t i w c.requires.all.inside) in
    let e : get_or (take (i + w - i) (drop i t)) k 0 ≡ get_or t (i + k) 0 = get_or-take (i + w - i) (drop i t) k 0 (omega arith) ∙ get_or-drop i t k 0 in
    omega (arith, one_more c.requires.all k h, ap (λ (b : ℕ). b % 16) e, c.loop-b.invariant)

pub returns : goal.returns
returns g c =
    c.loop-b.invariant ∙ ap (number_at c.args.t.now c.args.i) (omega (arith, looked_at c.args.t.now c.args.i g.row.W c.requires.all.inside))
