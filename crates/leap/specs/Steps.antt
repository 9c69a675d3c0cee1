-- The entries that step TAI-UTC up and those that step it down, and that it moves with them alone.
-- Assumes nothing.
use Rattle.std.specs.Prelude.{◌≡◌, ◌↔◌, true, ℕ, ◌+◌, ◌<◌}
use Rattle.std.proofs.Math.IntN.{suc_ℤ}
use Rattle.leap.specs.declared.Table.{Table}
use Rattle.leap.specs.Leap.{entry_month, entry_offset, accepted, epoch, offset_at}

-- entry k + 1, which comes after entry k, is of the calendar's month m
abbrev pub EntryAfter : Table → ℕ → ℕ → Type 0
EntryAfter t k m = (k + 1 < t.count) × (epoch + entry_month t (k + 1) ≡ m)

-- month m has a +1 entry
abbrev pub StepUp : Table → ℕ → Type 0
StepUp t m = (k : ℕ) × (EntryAfter t k m × (entry_offset t (k + 1) ≡ suc_ℤ (entry_offset t k)))

-- month m has a -1 entry
abbrev pub StepDown : Table → ℕ → Type 0
StepDown t m = (k : ℕ) × (EntryAfter t k m × (entry_offset t k ≡ suc_ℤ (entry_offset t (k + 1))))

-- from a month to the next TAI-UTC goes up by one exactly where that has a +1 entry, down by one exactly where it has a -1 entry, and else rests
pub record MovesWithEntries (t : Table) : Type 0 where
  pub goes_up : (m : ℕ) → (offset_at t (m + 1) ≡ suc_ℤ (offset_at t m)) ↔ StepUp t (m + 1)
  pub goes_down : (m : ℕ) → (offset_at t m ≡ suc_ℤ (offset_at t (m + 1))) ↔ StepDown t (m + 1)
  pub else_rests : (m : ℕ) → (StepUp t (m + 1) → ⊥) → (StepDown t (m + 1) → ⊥) → offset_at t (m + 1) ≡ offset_at t m

abbrev pub AllMove : Type 0
AllMove = (t : Table) → accepted t ≡ true → MovesWithEntries t
