-- The rows are right.
-- Assumes nothing.
use mathlib.Core.Path.{refl}
use Rattle.laws.specs.Tests.{eq_z, all_below}
use Rattle.months.specs.Months.{leap_year, month_length, days_before}
use Rattle.leap.specs.Leap.{one_apart, place_right, vouched_right, accepted}
use Rattle.leap.specs.Entries.{entries_from, table_of}
use Rattle.digits.specs.Decimals.{digit_value, spelled, width_of, decimal_text, signed_text}
use Rattle.lines.specs.Words.{leading}
use Rattle.columns.specs.Lines.{lines_of}
use Rattle.columns.specs.Columns.{all_blank, passed_over}
use Rattle.columns.specs.Decimals.{decimal_in, whole_of}
use Rattle.cards.specs.Card.{rises}
use Rattle.cards.specs.Reading.{date_in, rest_right, card_in, read_lines, read_cards}
use Rattle.cards.specs.Writing.{in_card_years, card_text, cards_text, cards_of}
use Rattle.promises.specs.CardRows.{CardRows}

pub card_rows : CardRows
unfolding in_card_years eq_z all_below leap_year month_length days_before one_apart place_right vouched_right accepted entries_from table_of digit_value spelled width_of decimal_text signed_text leading lines_of all_blank passed_over decimal_in whole_of rises date_in rest_right card_in read_lines read_cards card_text cards_text cards_of
card_rows = record { read_so = refl; late_so = refl; written_so = refl; sized_so = refl }
