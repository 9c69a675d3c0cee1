-- The text that ends the array, with a sign stored before it or not, appended.
use Prim.Native.Nat.{◌-◌}
use mathlib.Core.Path.{◌≡◌, ap, ◌∙◌}
use native.Mathlib.Omega.{arith}
use lib.IntN.{nat_abs}
use lib.ListN.{length, drop, set, length-set}
use mir.Facts.{to_z-of_z}
use Rattle.digits.specs.Decimals.{decimal_text, signed_text}
use Rattle.digits.proofs.Bytes.{same_text, rest_is}
use Rattle.digits.proofs.Decimals.{sign_is, text_low, text_high, put_before}
use Rattle.digits.proofs.append_signed.Goals as goal
use Rattle.digits.proofs.append_signed.Goals.{After-unsigned_text-from}

-- the size of the number, whose text stands at the end
size : (c : goal.After-unsigned_text-from) → drop c.unsigned_text-from.result.from c.unsigned_text-from.result.bytes ≡ decimal_text (nat_abs c.args.z)
size c =
    c.unsigned_text-from.ensures.behind ∙ ap decimal_text (c.magnitude.ensures ∙ ap nat_abs (to_z-of_z c.ranges.z))

pub returns-then-z-lt0 : goal.returns-then-z-lt0
returns-then-z-lt0 c =
    let t = c in
    let k = t in
    let u = k.unsigned_text-from in
    let s = k in
    let from = u.result.from in
    let bytes = set u.result.bytes (from - 1) 45 in
    let n : length bytes ≡ 21 = length-set u.result.bytes (from - 1) 45 ∙ u.ensures.whole in
    let e : drop (from - 1) bytes ≡ signed_text s.args.z =
    put_before u.result.bytes from 45 (omega arith) (omega (arith, u.ensures.whole)) (size (goal.at.returns-then-z-lt0 c).After-unsigned_text-from) ∙ text_low s.args.z (sign_is s.ranges.z t.if-z-lt0.true) in
    same_text s.args.out.now s.args.at c.append.result (rest_is bytes (from - 1) n ∙ e) c.append.ensures

pub returns : goal.returns
returns c =
    let t = c in
    let k = t in
    let u = k.unsigned_text-from in
    let s = k in
    same_text s.args.out.now s.args.at c.append-2.result
    (rest_is u.result.bytes u.result.from u.ensures.whole ∙ size (goal.at.returns c).After-unsigned_text-from ∙ text_high s.args.z (sign_is s.ranges.z t.if-z-lt0.false)) c.append-2.ensures
