-- What is stored and what is still to come are all the lines, right after the header.
use mathlib.Core.Path.{◌≡◌, sym, ap, subst, ◌∙◌}
use mathlib.Core.List.{List, ◌++◌}
use Prim.Native.Nat.{ℕ, ◌+◌, ◌-◌, ◌*◌, ◌≤◌, ◌<◌}
use native.Mathlib.Nat.{sub-zero}
use native.Mathlib.Omega.{arith}
use lib.ListN.{length}
use Rattle.leap.specs.declared.Table.{Table}
use Rattle.labels.specs.declared.Label.{Label}
use Rattle.digits.specs.Bytes.{Placed}
use Rattle.listing.specs.Listing.{header, rows_from}
use Rattle.listing.proofs.Printing.{room_left, after_header}
use Rattle.listing.proofs.Rows.{Rowed, rowed_none, rowed_more, rowed_last, rowed_end}
use Rattle.listing.proofs.Asked.print.Goals as goal
use Rattle.listing.proofs.Asked.print.Goals.{After-append-at}

-- the header and the lines fit
room : (c : After-append-at) → 8 + 42 * c.self.inside.count ≤ length c.args.out.now
room c = omega (arith, c.self.invariant.2, c.requires)

-- the lines behind the header
whole : (c : After-append-at) {r : ℕ} {o : List ℕ}
    → Placed c.append-at.new.out c.append-at.result (rows_from c.self.inside.table c.self.inside.count c.self.inside.first) r o
    → Placed c.args.out.now 0 (header ++ rows_from c.args.self.now.0 c.args.self.now.2 c.args.self.now.1) r o
whole c {r} {o} p =
    let a = c.self.inside in
    subst (λ (v : Table × Label × ℕ). Placed c.args.out.now 0 (header ++ rows_from v.0 v.2 v.1) r o) c.self.view_is
    (after_header c.args.out.now a.count (room c) c.append-at.ensures (rows_from a.table a.count a.first) p)

pub loop-init : goal.loop-init
loop-init c =
    let a = c.self.inside in
    rw sub-zero
    (rowed_none a.table a.first a.count c.append-at.result c.append-at.new.out c.self.invariant.0 c.self.invariant.1
    (room_left c.args.out.now a.count (room (goal.at.loop-init c).After-append-at) c.append-at.ensures))

pub returns-in_default : goal.returns-in_default
returns-in_default c =
    let a = c.self.inside in
    let l = c.loop in
    let left : 0 < a.count - l.counter = omega (arith, c.loop-test.true) in
    whole (goal.at.returns-in_default c).After-append-at
    (rowed_last a.table a.first a.count c.append-at.result c.append-at.new.out l.out l.l l.at _ l.invariant left c.put_row-at.ensures.0 c.put_row-at.ensures.1 (sym (ap (λ v. v.answer) c.tick.ensures) ∙ c.in_default.is))

pub loop-preserved : goal.loop-preserved
loop-preserved c =
    let a = c.self.inside in
    let l = c.loop in
    let left : 0 < a.count - l.counter = omega (arith, c.loop-test.true) in
    let one : (a.count - l.counter) - 1 ≡ a.count - (l.counter + 1) = omega arith in
    let r = rowed_more a.table a.first a.count c.append-at.result c.append-at.new.out l.out l.l l.at _ l.invariant left c.put_row-at.ensures.0 c.put_row-at.ensures.1 (sym (ap (λ v. v.answer) c.tick.ensures) ∙ c.in-Ok.is) in
    subst (λ (n : ℕ). Rowed a.table a.first a.count c.append-at.result c.append-at.new.out c.put_row-at.new.out c.in-Ok.next c.put_row-at.result n) one r

pub returns : goal.returns
returns c =
    let a = c.self.inside in
    let l = c.loop in
    let none : a.count - l.counter ≡ 0 = omega (arith, c.loop-test.false) in
    whole (goal.at.returns c).After-append-at (rowed_end a.table a.first a.count c.append-at.result c.append-at.new.out l.out l.l l.at _ l.invariant none)
