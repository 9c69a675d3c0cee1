-- The digits of the bytes passed are stored.
use Rattle.std.proofs.Common.{◌+◌, ◌*◌, refl, sym, ◌∙◌, arith}
use Rattle.laws.proofs.Placed.{place_none}
use Rattle.digits.proofs.Bytes.{placed}
use Rattle.lines.specs.Pairs.{hex_text}
use Rattle.lines.proofs.Pairs.{pair_size, hex_more}
use Rattle.lines.proofs.put_hex.Goals as goal

pub loop-i-init : goal.loop-i-init
unfolding hex_text
loop-i-init c = (refl, sym (place_none c.args.out.now c.args.at))

pub loop-i-preserved : goal.loop-i-preserved
loop-i-preserved c =
    let a = c.args in
    let l = c.loop-i in
    let g = c.glyphs in
    let h = pair_size _ g.ensures in
    let k = placed l.out (a.at + l.i * 2) g.result (omega arith) c.append.ensures in
    (omega arith, k.text ∙ hex_more a.out.now a.at l.i a.bytes.now (omega arith) c.requires l.invariant.1 g.ensures)
