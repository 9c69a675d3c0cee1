-- The rows are right.
-- Assumes nothing.
use mathlib.Core.Path.{refl}
use Rattle.laws.specs.Tests.{eq_z, all_below}
use Rattle.leap.specs.Leap.{one_apart, place_right, vouched_right, accepted}
use Rattle.leap.specs.Entries.{entries_from, table_of}
use Rattle.digits.specs.Decimals.{digit_value, width_of, decimal_text, signed_text}
use Rattle.kinds.specs.Parts.{matched, month_on}
use Rattle.automaton.specs.Step.{step}
use Rattle.automaton.specs.Run.{run}
use Rattle.kernel.specs.Reading.{read_kernel}
use Rattle.kernel.specs.Writing.{later_pairs, pairs_text, kernel_of}
use Rattle.kernel.specs.Desk.{Desk}

pub desk : Desk
unfolding eq_z all_below one_apart place_right vouched_right accepted entries_from table_of digit_value width_of decimal_text signed_text matched month_on step run read_kernel later_pairs pairs_text kernel_of
desk = record { refused_so = refl; good_so = refl; sized_so = refl; written_so = refl }
