-- Room first, then nothing but pairs, and only then are they stored.
use Rattle.std.proofs.Common.{◌≡◌, true, refl, arith}
use Rattle.lines.proofs.Pairs.{no_room, not_pairs, pairs_digits, all_pairs_lem}
use Rattle.lines.proofs.hex.Goals as goal
use Rattle.lines.proofs.hex.Goals.{then-out-size-via-then-out-size, then-out-size-via-else-out-size+then-word-ne0, then-out-size-via-else-out-size+else-word-ne0+then-not-all_hex}

pub returns-then-out-size : goal.returns-then-out-size
returns-then-out-size c =
    let out = c.args.out.now in
    let word = c.args.word.now in
    elim c.then-out-size.branch [
      | then-out-size-via-then-out-size w ↦ no_room out word (omega (arith, w.if-out-size))
      | then-out-size-via-else-out-size+then-word-ne0 w ↦ not_pairs out word (omega (arith, w.if-out-size)) refl (λ e. omega (arith, e, w.if-word-ne0))
      | then-out-size-via-else-out-size+else-word-ne0+then-not-all_hex w ↦ not_pairs out word (omega (arith, w.if-out-size)) refl (λ e. let t : w.all_hex.result ≡ true = w.all_hex.ensures.1 (pairs_digits word e) in cc)
    ]

pub returns : goal.returns
returns c =
    let u = c.unhex.ensures in
    all_pairs_lem c.args.out.now c.args.word.now (omega arith) refl (omega (arith, u.0)) u
