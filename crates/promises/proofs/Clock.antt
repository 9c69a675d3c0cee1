-- Demand 3: the clock's own theorem, joined with the conversions.
-- Assumes nothing.
use mathlib.Core.Path.{◌≡◌, refl, ap, ◌∙◌}
use mathlib.Core.Bool.{true}
use Prim.Native.Nat.{ℕ, ◌*◌}
use native.Mathlib.Omega.{arith}
use lib.IntN.{ℤ, pos, neg_ℤ, ◌+ℤ◌}
use Rattle.std.specs.Prelude.{Ok, Err}
use Rattle.laws.proofs.Cases.{join}
use Rattle.laws.proofs.Difference.{up, down, sum_is, eq_from}
use Rattle.answer.proofs.Orders.{none_refused}
use Rattle.leap.specs.declared.Table.{Table}
use Rattle.leap.specs.Leap.{accepted, offset_at, epoch}
use Rattle.leap.proofs.Facts.{accepted_to}
use Rattle.leap.proofs.Moves.{at_first}
use Rattle.labels.specs.declared.Label.{Label}
use Rattle.labels.specs.Labels.{whole, label_tests}
use Rattle.labels.specs.Seconds.{micro_of, axis_of, first_reading}
use Rattle.labels.proofs.Years.{axis_is, first_micro}
use Rattle.stamp.specs.declared.Scale.TheVariants.{Utc}
use Rattle.stamp.specs.Scales.{scale_tests, to_instant, instant_for}
use Rattle.stamp.specs.Stamps.{instant_of, instant_results, stamp_results}
use Rattle.stamp.specs.Promise.{GivesInstant}
use Rattle.stamp.proofs.Scales.{to_instant_is}
use Rattle.stamp.proofs.Promise.{at_instant, stamp_back}
use Rattle.clock.specs.Promise.{Shows}
use Rattle.clock.proofs.Promise.{all_tick}
use Rattle.promises.specs.Clock.{seconds_on, Demand3}

module _ (t : Table) (ok : accepted t ≡ true) (n : ℕ) (l : Label) (e : Shows t n l) where
  -- the label's instant
  instant_is : instant_for t Utc (whole l) ≡ seconds_on n
  instant_is =
      let a : ℤ = axis_of (offset_at t) first_reading +ℤ pos (1000000 * n) in
      let ten = at_first t (accepted_to t ok) in
      ap (to_instant Utc) ((all_tick t ok).keeps_the_seconds n l e)
      ∙ eq_from (to_instant Utc a) (seconds_on n)
      (omega (arith, to_instant_is Utc a, sum_is (axis_of (offset_at t) first_reading) (pos (1000000 * n)), axis_is (micro_of first_reading) (offset_at t epoch), first_micro, ap up ten, ap down ten, sum_is (neg_ℤ (pos 883655990000000)) (pos (1000000 * n))))

  back : GivesInstant t 0 (whole l) (seconds_on n)
  unfolding instant_of
  back =
      ap instant_results
      (none_refused Err (scale_tests t 0) _ (join refl (join ok refl))
      ∙ none_refused Err (label_tests (offset_at t) 60 (whole l)) _ ((all_tick t ok).shows_no_other n l e)
      ∙ ap Ok instant_is)

pub demand3 : Demand3
demand3 t ok =
    record { ticking = all_tick t ok; is_converted = λ n l e. ap stamp_results (stamp_back t 0 (whole l) (seconds_on n) (at_instant _ (seconds_on n) (back t ok n l e))); converts_back = back t ok }
