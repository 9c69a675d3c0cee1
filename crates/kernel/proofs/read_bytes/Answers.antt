-- `kernel::read_bytes` meets its contract: what is left to read, after what is read, is the whole.
use mir.Syntax.{w32}
use mathlib.Core.Path.{refl, ◌∙◌}
use mathlib.Core.Logic.{inl, inr}
use mir.Facts.{to_z-of_z}
use Rattle.kernel.proofs.Going.{on_quiet, on_pair, on_dead}
use Rattle.kernel.proofs.read_bytes.Goals as goal

pub loop-i-preserved-then-table-lt64 : goal.loop-i-preserved-then-table-lt64
loop-i-preserved-then-table-lt64 c =
    on_pair c.loop-i.invariant c.loop-i-test.true c.step-mode.ensures c.in-Done.is (to_z-of_z {w = w32} (record { sfits = c.with_sign.type_inv }) ∙ c.with_sign.ensures) c.if-table-lt64.true

pub returns-in-Dead : goal.returns-in-Dead
returns-in-Dead c = on_dead c.loop-i.invariant c.loop-i-test.true c.step-mode.ensures c.args.whole c.in-Dead.is

pub loop-i-preserved : goal.loop-i-preserved
loop-i-preserved c =
    elim c.in-Inside.is [
      | inl w ↦ on_quiet c.loop-i.invariant c.loop-i-test.true c.step-mode.ensures w.1 refl
      | inr r ↦ elim r [
        | inl w ↦ on_quiet c.loop-i.invariant c.loop-i-test.true c.step-mode.ensures w.2 refl
        | inr r ↦ elim r [
          | inl w ↦ on_quiet c.loop-i.invariant c.loop-i-test.true c.step-mode.ensures w.3 refl
          | inr w ↦ on_quiet c.loop-i.invariant c.loop-i-test.true c.step-mode.ensures w.4 refl
        ]
      ]
    ]
