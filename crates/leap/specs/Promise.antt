-- What is promised of the month that a table is vouched for: which tables are accepted with it, and which months lie beyond it.
-- A month is given as its number, one more; month numbers are a table's, January 1972 being 0.
-- Assumes nothing.
use Rattle.std.specs.Prelude.{◌≡◌, ◌↔◌, true, ℕ, ◌+◌, ◌-◌, ◌≤◌, ◌<◌}
use Rattle.leap.specs.declared.Table.{Table}
use Rattle.leap.specs.Leap.{vouched_to, without_month, entry_month, accepted, epoch, beyond, bulletin_c}

-- "any month from its last entry's to 96,335"
abbrev pub MayVouch : Table → ℕ → Type 0
MayVouch t month = (entry_month t (t.count - 1) ≤ month) × (month ≤ 96335)

-- a month is given, number v, and the calendar's month m is later
abbrev pub LiesBeyond : ℕ → ℕ → Type 0
LiesBeyond v m = (month : ℕ) × ((v ≡ month + 1) × (epoch + month < m))

pub record Vouched : Type 0 where
  -- with a month a table is accepted exactly when it is without one, and may be vouched for up to that month
  pub accepted_exactly : (t : Table) (month : ℕ) → (accepted (vouched_to (month + 1) t) ≡ true) ↔ ((accepted (without_month t) ≡ true) × MayVouch t month)
  pub beyond_exactly : (v m : ℕ) → (beyond v m ≡ true) ↔ LiesBeyond v m
  -- Bulletin C's own table has none
  pub bulletin_c_lem : bulletin_c.vouched ≡ 0
