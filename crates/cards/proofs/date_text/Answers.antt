-- The digits of the year and of the day, picked one by one.
use Prim.Native.Nat.{◌+◌}
use native.Mathlib.Omega.{arith}
use Rattle.months.proofs.Laws.{days_most}
use Rattle.leap.specs.Leap.{epoch}
use Rattle.cards.proofs.date_text.Goals as goal

pub overflow_cast-day_of_year : goal.overflow_cast-day_of_year
overflow_cast-day_of_year c = record { fits = omega (arith, c.day_of_year.ensures, days_most (epoch + c.args.month)) }

pub returns : goal.returns
returns c = rw (c.digits-y.ensures, c.digits-d.ensures, c.day_of_year.ensures)
