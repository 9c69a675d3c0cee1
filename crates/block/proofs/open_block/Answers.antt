-- `block::open_block` meets its contract: nothing, or the number 0 and that of the month.
use Prim.Native.Nat.{ℕ, ◌+◌}
use mathlib.Core.Path.{◌≡◌, refl, ap, ap₂, ◌∙◌}
use mathlib.Core.List.{List}
use native.Mathlib.Omega.{arith}
use lib.ListN.{length, length-append}
use lib.Seq.{sets, length-sets}
use Rattle.block.specs.declared.Form.TheVariants.{New}
use Rattle.block.specs.Blocks.{opening}
use Rattle.block.specs.Numbers.{number_bytes}
use Rattle.block.proofs.Numbers.{number_size, zero_bytes}
use Rattle.block.proofs.open_block.Goals as goal

-- the number 0 is one byte
zero_size : length (number_bytes 0) ≡ 1
zero_size = ap length zero_bytes

-- two numbers, one behind the other
both_stored : (v : ℕ) (l : List ℕ) {first second : List ℕ} {at : ℕ} → at ≡ 0 + length (number_bytes 0) → first ≡ sets l 0 (number_bytes 0) → second ≡ sets first at (number_bytes v) → second ≡ sets l 0 (opening New v)
both_stored v l {first} {second} {at} ea ef es =
    let one : at ≡ 1 = omega (arith, zero_size) in
    es ∙ ap₂ (λ x k. sets x k (number_bytes v)) ef one ∙ rw zero_bytes refl

pub write_number-at-requires-clause-n_in_bounds : goal.write_number-at-requires-clause-n_in_bounds
write_number-at-requires-clause-n_in_bounds c = omega (arith, zero_size, c.requires)

pub write_number-requires-clause-n_in_bounds : goal.write_number-requires-clause-n_in_bounds
write_number-requires-clause-n_in_bounds c =
    let e = c.write_number-at.ensures in
    omega (arith, zero_size, e.value, ap length e.out_after, length-sets c.args.out.now 0 (number_bytes 0), number_size c.args.vouched, c.requires)

pub returns-in-New : goal.returns-in-New
returns-in-New c =
    let v = c.args.vouched in
    let e = c.write_number-at.ensures in
    let f = c.write_number.ensures in
    rw c.in-New.is (
      omega (arith, zero_size, e.value, f.value, length-append (number_bytes 0) (number_bytes v)),
      both_stored v c.args.out.now e.value e.out_after f.out_after,
    )
