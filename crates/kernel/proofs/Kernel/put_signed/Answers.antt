-- Its text stands behind what was put before, and has three bytes at most.
use mathlib.Core.Path.{◌≡◌, ap, ◌∙◌}
use mathlib.Core.List.{List, ◌++◌}
use Prim.Native.Nat.{ℕ}
use native.Mathlib.Omega.{arith}
use lib.ListN.{length, take, length-append}
use mir.Syntax.{w32, w64}
use mir.Facts.{to_z-of_z}
use Rattle.digits.specs.Decimals.{signed_text}
use Rattle.digits.proofs.Bytes.{same_text}
use Rattle.digits.proofs.Short.{signed_short}
use Rattle.kernel.proofs.Storing.{put_more}
use Rattle.kernel.proofs.Kernel.put_signed.Goals as goal

pub returns : goal.returns
returns c =
    let b = c.self.inside in
    let same = to_z-of_z {w = w64} (record { sfits = c.from.type_inv }) ∙ c.from.ensures ∙ to_z-of_z {w = w32} c.ranges.n in
    let n = signed_short c.args.n c.requires.small in
    let e : take c.append_signed-self-inside.result c.append_signed-self-inside.new.out ≡ c.args.self.now ++ signed_text c.args.n =
    put_more b.bytes b.len (signed_text c.args.n) (omega arith) (omega (arith, ap length c.self.view_is, n)) (same_text b.bytes b.len c.append_signed-self-inside.result (ap signed_text same) c.append_signed-self-inside.ensures)
    ∙ ap (λ (l : List ℕ). l ++ signed_text c.args.n) c.self.view_is in
    record { value = e; short = omega (arith, ap length e ∙ length-append c.args.self.now (signed_text c.args.n), n) }
