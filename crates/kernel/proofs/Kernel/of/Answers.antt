-- What is put, with what is still to come, is the kernel.
use mathlib.Core.Path.{◌≡◌, ap, ◌∙◌}
use mathlib.Core.List.{◌++◌, append_assoc}
use Prim.Native.Nat.{◌<◌}
use native.Mathlib.Omega.{arith}
use lib.IntN.{ℤ}
use lib.ListN.{length, length-append}
use lib.Signed.{mag}
use mir.Syntax.{w32}
use mir.Val.{to_z, of_z}
use mir.Facts.{to_z-of_z}
use borrow.Author.Rules.{sfits_of}
use Rattle.leap.specs.Entries.{entry}
use Rattle.leap.proofs.Facts.{accepted_to}
use Rattle.leap.proofs.Offsets.{small}
use Rattle.kernel.specs.Writing.{pair_text, next_line, front}
use Rattle.kernel.proofs.Storing.{stored_first, stored_more, stored_last}
use Rattle.kernel.proofs.Kernel.of.Goals as goal

-- an offset is read from its bits as it was stored
back : (z : ℤ) → mag z < 99 → to_z w32 (of_z w32 z) ≡ z
back z h = to_z-of_z {w = w32} (sfits_of {w = w32} (omega arith))

pub put_pair-requires : goal.put_pair-requires
put_pair-requires c =
    let right = accepted_to c.args.t.now c.requires in
    let s = small right 0 right.some_entry in
    let f : c.put.new.self ≡ front = c.put.ensures ∙ ap (λ l. l ++ front) c.new-kernel.ensures in
    record { small = rw (back _ s) s; room = omega (arith, ap length f) }

pub loop-k-init : goal.loop-k-init
loop-k-init c =
    let right = accepted_to c.args.t.now c.requires in
    let f : c.put.new.self ≡ front = c.put.ensures ∙ ap (λ l. l ++ front) c.new-kernel.ensures in
    stored_first right (rw (back _ (small right 0 right.some_entry)) at c.put_pair.ensures ∙ ap (λ l. l ++ pair_text (entry c.args.t.now 0)) f)

pub put_pair-requires-in-loop-k : goal.put_pair-requires-in-loop-k
put_pair-requires-in-loop-k c =
    let i = c.loop-k.invariant in
    let s = small i.right c.loop-k.k c.loop-k-test.true in
    record { small = rw (back _ s) s; room = omega (arith, ap length c.put-in-loop-k.ensures ∙ length-append c.loop-k.kernel next_line, i.short, i.right.few) }

pub loop-k-preserved : goal.loop-k-preserved
loop-k-preserved c =
    let i = c.loop-k.invariant in
    let e = pair_text (entry c.args.t.now c.loop-k.k) in
    let s = small i.right c.loop-k.k c.loop-k-test.true in
    stored_more i c.loop-k-test.true (rw (back _ s) at c.put_pair-in-loop-k.ensures ∙ ap (λ l. l ++ e) c.put-in-loop-k.ensures ∙ append_assoc c.loop-k.kernel next_line e)

pub returns : goal.returns
returns c = c.put-2.ensures ∙ stored_last c.loop-k.invariant c.loop-k-test.false
