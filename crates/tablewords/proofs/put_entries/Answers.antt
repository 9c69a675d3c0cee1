-- The entries so far are put.
use borrow.Author.Rules.{rules}
use lib.IntN.{pos}
use mir.Syntax.{w32}
use mir.Val.{SFits}
use mathlib.Core.Path.{◌≡◌, sym, ap}
use Prim.Native.Nat.{min}
use native.Mathlib.Omega.{arith}
use lib.ListN.{get_or}
use mir.Facts.{to_z-of_z}
use Rattle.phrases.proofs.Puts.{puts_none, puts_as, then}
use Rattle.tablewords.specs.Words.{first_entries}
use Rattle.tablewords.proofs.Words.{entries_more}
use Rattle.tablewords.proofs.put_entries.Goals as goal

pub loop-k-init : goal.loop-k-init
unfolding first_entries
loop-k-init c = puts_none _ _ c.put-next.ensures.counts.0

pub loop-k-preserved : goal.loop-k-preserved
loop-k-preserved c =
    let f : SFits w32 (get_or c.args.t.now.offsets c.loop-k.k (pos 0)) = search rules in
    let p = rw (to_z-of_z f) at c.put_entry-next.ensures in
    puts_as (sym (entries_more c.args.t.now c.loop-k.k)) (then c.loop-k.invariant (then c.put_feed-next.ensures p))

pub returns : goal.returns
returns c =
    let all : c.loop-k.k ≡ min c.args.t.now.count 64 = omega (arith, c.min-k-end.ensures) in
    puts_as (ap (first_entries c.args.t.now) all) (then c.put-next.ensures c.loop-k.invariant)
