-- In the order of the definition: a line of 1,024 characters has no more than 512 pairs.
use mathlib.Core.Path.{◌≡◌, refl, sym, ap, ◌∙◌}
use Prim.Native.Nat.{ℕ}
use native.Mathlib.Omega.{arith}
use borrow.Author.Rules.{rules}
use borrow.Author.Tests.{le-leb, lt-leb}
use lib.ListN.{length, take}
use Rattle.std.specs.Prelude.{Option, Some, None, Ok, Err, ok_or}
use Rattle.answer.specs.declared.Refusal.{Refusal}
use Rattle.answer.specs.Faults.{unplaced}
use Rattle.answer.proofs.Orders.{refused, passed}
use Rattle.block.specs.Reading.{read_block}
use Rattle.lines.specs.Pairs.{paired}
use Rattle.lines.proofs.Pairs.{hex_bad, hex_good, into_front, paired_few}
use Rattle.listing.specs.Listing.{block_line}
use Rattle.listing.proofs.block_line.Goals as goal

none_there : (a : Option ℕ) {why other : Refusal} → ok_or a why ≡ Err other → (a ≡ None) × (other ≡ why)
none_there None e = (refl, cc)
none_there (Some n) e = let z : ◌≡◌ {A = ℕ} 0 1 = cc in absurd (omega arith)

is_there : (a : Option ℕ) (why : Refusal) {n : ℕ} → ok_or a why ≡ Ok n → a ≡ Some n
is_there (Some n) why e = cc
is_there None why e = let z : ◌≡◌ {A = ℕ} 0 1 = cc in absurd (omega arith)

pub returns-then-line-gt1024 : goal.returns-then-line-gt1024
unfolding block_line
returns-then-line-gt1024 c = ap Err c.from.ensures ∙ refused _ _ (lt-leb _ _ c.if-line-gt1024.true)

pub returns-in_err-n : goal.returns-in_err-n
unfolding block_line
returns-in_err-n c =
    let e : c.from_residual.result ≡ Err (unplaced c.in_err-n.field-0.0) = search rules in
    let g = none_there c.hex.result (sym c.ok_or.ensures.value ∙ c.in_err-n.was) in
    let q = hex_bad c.args.line.now {room = 512} (omega arith) (sym c.hex.ensures.0 ∙ g.0) in
    e ∙ ap (λ x. Err (unplaced x)) g.1 ∙ passed _ (le-leb _ _ c.if-line-gt1024.false) (refused _ _ q)

pub returns : goal.returns
unfolding block_line
returns c =
    let s = c.args.line.now in
    let g = hex_good s {room = 512} (omega arith) (sym c.hex.ensures.0 ∙ is_there c.hex.result _ (sym c.ok_or.ensures.value ∙ c.in_ok-n.was)) in
    let few = paired_few s in
    let n : c.front-k.result ≡ length (paired s) = c.front-k.ensures.value ∙ omega (arith, g.1) in
    let v : take c.front-k.result c.hex.new.out ≡ paired s = rw (n, c.hex.ensures.1) (into_front _ s (omega arith) g.0) in
    c.read_block.ensures ∙ ap read_block v ∙ passed _ (le-leb _ _ c.if-line-gt1024.false) (passed _ g.0 refl)
