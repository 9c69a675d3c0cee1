-- Facts that the contracts of private functions cite. A reader may skip this file.
-- Assumes nothing.
use Rattle.std.specs.Prelude.{◌≤◌}
use Rattle.labels.specs.declared.Label.{Label}

-- a label whose date is in the calendar's reach
pub record Plain (l : Label) : Type 0 where
  pub year : l.year ≤ 9999
  pub month_low : 1 ≤ l.month
  pub month_high : l.month ≤ 12
  pub day : l.day ≤ 31
