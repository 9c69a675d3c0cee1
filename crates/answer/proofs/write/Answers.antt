-- `answer::write` meets its contract.
use mathlib.Core.Path.{refl, ap}
use mathlib.Core.List.{List, ◌++◌}
use Prim.Native.Nat.{ℕ}
use borrow.Author.Tests.{le-leb, lt-leb}
use lib.ListN.{length, drop}
use Rattle.laws.proofs.Branches.{cond_yes, cond_rest}
use Rattle.answer.proofs.write.Goals as goal

pub returns-then-out-bytes : goal.returns-then-out-bytes
returns-then-out-bytes c = (cond_rest _ (lt-leb _ _ c.if-out-bytes.true) refl, cond_rest _ (lt-leb _ _ c.if-out-bytes.true) refl)

pub returns : goal.returns
returns c =
    let fits = le-leb _ _ c.if-out-bytes.false in
    (cond_yes _ fits refl, cond_yes _ fits (ap (λ (l : List ℕ). l ++ drop (length c.args.bytes.now) c.args.out.now) c.copy_from_slice.ensures.after))
