use mathlib.Core.Path.{◌≡◌}
use Prim.Native.Nat.{ℕ, ◌%◌, ◌<◌}
use native.Mathlib.Omega.{arith}
use lib.ListN.{get_or}
use Rattle.months.specs.Months.{month_length, leap_year, days_before}
use Rattle.months.specs.declared.table.TheConstants.{DAYS_BEFORE}
use Rattle.months.proofs.Laws.{days_split, table_at}
use Rattle.months.proofs.days_before.Goals as goal

-- an entry is the days before the month's place in its cycle: here the table's rule is tested
table_holds : (k : ℕ) → k < 4800 → get_or DAYS_BEFORE k 0 ≡ days_before k
unfolding month_length leap_year
table_holds k h = table_at DAYS_BEFORE tt k h

pub returns : goal.returns
returns c = omega (arith, table_holds (c.args.m % 4800) (omega arith), days_split c.args.m)
