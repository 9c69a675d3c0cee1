-- The texts without a picture are refused.
-- Assumes nothing.
use mathlib.Core.Path.{refl}
use Rattle.laws.specs.Tests.{eq_z, all_below, All}
use Rattle.digits.specs.Decimals.{digit_value, spelled}
use Rattle.digits.specs.Months.{among_months, month_named}
use Rattle.leap.specs.Leap.{one_apart, place_right, vouched_right, accepted}
use Rattle.pictures.specs.Reading.{like, read_numbered, read_of_year, read_named}
use Rattle.text.specs.Text.{read_text}
use Rattle.text.specs.Desk.{shapeless, Shapeless}

pub without_shape : All Shapeless shapeless
unfolding eq_z all_below one_apart place_right vouched_right accepted like read_numbered read_of_year read_named digit_value spelled month_named among_months read_text
without_shape = (refl, (refl, (refl, (refl, (refl, (refl, (refl, (refl, (refl, (refl, (refl, (refl, (refl, tt)))))))))))))
