-- In the order of the definition.
use mathlib.Core.Path.{◌≡◌, refl, sym, ap, ◌∙◌}
use mathlib.Core.Bool.{Bool, true, false, not}
use Prim.Native.Nat.{ℕ}
use native.Mathlib.Omega.{arith}
use borrow.Author.Tests.{le-leb, lt-leb, lt-ltb}
use lib.Dec.{eqb}
use lib.ListN.{length}
use Rattle.answer.proofs.Orders.{refused, passed}
use Rattle.lines.specs.Words.{before, without}
use Rattle.listing.specs.Listing.{stamp_line}
use Rattle.listing.proofs.stamp_line.Goals as goal
use Rattle.listing.proofs.stamp_line.Goals.{then-line-gt1024, else-line-gt1024}

turned : (b : Bool) {a : Bool} → a ≡ not b → b ≡ not a
turned true e = rw e refl
turned false e = rw e refl

pub returns-then-until-line : goal.returns-then-until-line
unfolding stamp_line
returns-then-until-line c =
    let s = c.args.line.now in
    elim c.if-line-gt1024.branch [
      | then-line-gt1024 w ↦ refused _ _ (lt-leb _ _ w.if-line-gt1024.true)
      | else-line-gt1024 w ↦
          let point : w.until.result ≡ length (before 46 s) = omega (arith, w.until.ensures.value) in
          let e : without 46 s ≡ false = ap (λ n. eqb n (length s)) (sym point) ∙ turned (eqb w.until.result (length s)) (sym c.if-until-line.true ∙ w.value-is) in
          passed _ (le-leb _ _ w.if-line-gt1024.false) (refused _ _ e)
    ]

pub returns-else-until-line : goal.returns-else-until-line
unfolding stamp_line
returns-else-until-line c =
    let s = c.args.line.now in
    elim c.if-line-gt1024.branch [
      | then-line-gt1024 w ↦
          let e : false ≡ true = sym c.if-until-line.false ∙ w.value-is ∙ lt-ltb _ _ w.if-line-gt1024.true in
          let z : ◌≡◌ {A = ℕ} 0 1 = cc in absurd (omega arith)
      | else-line-gt1024 w ↦
          let point : w.until.result ≡ length (before 46 s) = omega (arith, w.until.ensures.value) in
          let e : without 46 s ≡ true = ap (λ n. eqb n (length s)) (sym point) ∙ turned (eqb w.until.result (length s)) (sym c.if-until-line.false ∙ w.value-is) in
          passed _ (le-leb _ _ w.if-line-gt1024.false) (passed _ e (ap (λ v. v.answer) c.read_text.ensures))
    ]
