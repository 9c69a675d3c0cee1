-- The offset is higher in the next month exactly where that has a +1 entry, and lower where it has a -1 entry: so the days are those of the entries.
-- Assumes nothing.
use mathlib.Core.Logic.{◌↔◌}
use Prim.Native.Nat.{ℕ, ◌+◌}
use native.Mathlib.Omega.{arith}
use lib.IntN.{suc_ℤ}
use Rattle.laws.proofs.Difference.{eq_to, eq_from, lt_to, lt_from, suc_is}
use Rattle.leap.specs.declared.Table.{Table}
use Rattle.leap.specs.Leap.{offset_at}
use Rattle.leap.specs.Steps.{StepUp, StepDown}
use Rattle.leap.proofs.Facts.{Accepted}
use Rattle.leap.proofs.Moves.{near}
use Rattle.leap.proofs.Steps.{entry_within, moves}
use Rattle.labels.specs.Promise.{Higher, Lower}
use Rattle.labels.proofs.Promise.{days_by_offsets, days_said}
use Rattle.clock.specs.Promise.{DaysByEntries}

module _ (t : Table) (acc : Accepted t) where
  higher_is : (m : ℕ) → Higher (offset_at t) m ↔ StepUp t (m + 1)
  higher_is m =
      let x = offset_at t m in
      let z = offset_at t (m + 1) in (
        λ w. ((moves t acc).goes_up m).0 (eq_from z (suc_ℤ x) (omega (arith, lt_to w.1.1, near t acc m, suc_is x))),
        λ w.
            let e = eq_to (((moves t acc).goes_up m).1 w) in
            let r = entry_within t acc (m + 1) w.0 w.1.0 in
            (omega arith, (omega arith, lt_from x z (omega (arith, suc_is x)))),
      )

  lower_is : (m : ℕ) → Lower (offset_at t) m ↔ StepDown t (m + 1)
  lower_is m =
      let x = offset_at t m in
      let z = offset_at t (m + 1) in (
        λ w. ((moves t acc).goes_down m).0 (eq_from x (suc_ℤ z) (omega (arith, lt_to w.1.1, near t acc m, suc_is z))),
        λ w.
            let e = eq_to (((moves t acc).goes_down m).1 w) in
            let r = entry_within t acc (m + 1) w.0 w.1.0 in
            (omega arith, (omega arith, lt_from z x (omega (arith, suc_is z)))),
      )

  pub days_by_entries : DaysByEntries t
  days_by_entries = days_said higher_is lower_is (days_by_offsets (offset_at t))
