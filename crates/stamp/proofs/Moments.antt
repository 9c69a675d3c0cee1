-- What is answered where an instant falls: its stamp, and the day that its scale shows there.
-- Assumes nothing.
use mathlib.Core.Path.{◌≡◌, refl, sym, ap, ap₂, subst, ◌∙◌}
use mathlib.Core.Bool.{Bool, true, false}
use mathlib.Core.List.{List, [], ◌∷◌, ◌++◌}
use Prim.Native.Nat.{ℕ, ◌+◌, ◌*◌, ◌/◌, ◌%◌, ◌≤◌}
use native.Mathlib.Omega.{arith}
use lib.IntN.{ℤ}
use Rattle.std.specs.Prelude.{Result, Ok, Err}
use Rattle.laws.proofs.Cases.{and_l, and_r}
use Rattle.answer.specs.declared.Refusal.{Refusal}
use Rattle.answer.specs.declared.Refusal.TheVariants.{Range as RANGE}
use Rattle.answer.specs.Refusals.{refusing, all_pass}
use Rattle.answer.proofs.Orders.{refusing_map}
use Rattle.leap.specs.declared.Table.{Table}
use Rattle.leap.proofs.Facts.{Accepted, accepted_to}
use Rattle.labels.specs.Labels.{Offsets}
use Rattle.labels.specs.Seconds.{day_count}
use Rattle.labels.specs.Lengths.{day_seconds}
use Rattle.labels.specs.Back.{place_at, label_at}
use Rattle.labels.proofs.Facts.{place_month}
use Rattle.labels.proofs.Falls.{Covered}
use Rattle.labels.proofs.Labelled.{place_few}
use Rattle.labels.proofs.Lengths.{place_day}
use Rattle.labels.proofs.Years.{covered_to}
use Rattle.answer.specs.declared.Marked.{Marked}
use Rattle.answer.specs.Marks.{marked}
use Rattle.stamp.specs.declared.Scale.{Scale}
use Rattle.stamp.specs.declared.Moment.{Moment}
use Rattle.stamp.specs.declared.DayTime.{DayTime}
use Rattle.stamp.specs.Scales.{scale_of, scale_tests, offsets_of}
use Rattle.stamp.specs.Back.{in_range, axis_count, stamp_at}
use Rattle.stamp.specs.Days.{day_time, shown_of}
use Rattle.stamp.specs.Stamps.{stamp_of}
use Rattle.stamp.specs.Marks.{beyond_on, beyond_at, stamp_of_marked, shown_of_marked}
use Rattle.stamp.specs.Parts.{moment_at, moment_of, moment_stamp, moment_day}
use Rattle.stamp.proofs.First.{was_given, same_given}
use Rattle.stamp.proofs.Scales.{steps}
use Rattle.stamp.proofs.Ranges.{count_in_years}

-- what is answered by a moment, with the mark of its month; v is the table's vouched number
abbrev pub beside : {A : Type 0} → (Moment → A) → ℕ → Result Moment Refusal → Marked A
beside f v (Ok m) = marked (Ok (f m)) (beyond_on v m.scale m.spot.place.month)
beside f v (Err why) = marked (Err why) false

module _ (t : Table) (x : ℤ) (k : ℕ) where
  abbrev sc : Scale
  sc = scale_of k

  abbrev o : Offsets
  o = offsets_of t (scale_of k)

  abbrev tests : List (Bool × Refusal)
  tests = scale_tests t k ++ (in_range t (scale_of k) x, RANGE) ∷ []

  -- the place's month is the label's
  mark_is : beyond_on t.vouched sc (place_at o (axis_count sc x / 1000000)).month ≡ beyond_at t sc x
  unfolding label_at
  mark_is = ap (beyond_on t.vouched sc) (sym (place_month (place_at o (axis_count sc x / 1000000))))

  pub stamp_of_moment : beside moment_stamp t.vouched (moment_of t x k) ≡ stamp_of_marked t x k
  unfolding moment_of stamp_of label_at
  stamp_of_moment =
      refusing_map (beside moment_stamp t.vouched) Err tests (Ok (moment_at t sc x))
      ∙ ap (λ (b : Bool). refusing (λ why. record { answer = Err why; beyond = false }) tests (marked (Ok (stamp_at t sc x)) b)) mark_is
      ∙ sym (refusing_map (λ a. marked a (beyond_at t sc x)) Err tests (Ok (stamp_at t sc x)))

  -- the label of the moment is on that day
  day_is : moment_day (moment_at t sc x) ≡ day_time o (stamp_at t sc x).reading
  unfolding label_at
  day_is =
      let q = place_day (place_at o (axis_count sc x / 1000000)) refl in
      ap₂ (λ (d n : ℕ). record { day = d; micro = 1000000 * n + axis_count sc x % 1000000; seconds = day_seconds o (day_count (label_at o (axis_count sc x / 1000000))) }) (sym q.0) (sym q.1)

  pub shown_of_moment : beside moment_day t.vouched (moment_of t x k) ≡ shown_of_marked t x k
  unfolding moment_of shown_of
  shown_of_moment =
      refusing_map (beside moment_day t.vouched) Err tests (Ok (moment_at t sc x))
      ∙ ap₂ (λ (d : DayTime) (b : Bool). refusing (λ why. record { answer = Err why; beyond = false }) tests (marked (Ok d) b)) day_is mark_is
      ∙ sym (refusing_map (λ a. marked a (beyond_at t sc x)) Err tests (Ok (day_time o (stamp_at t sc x).reading)))

  -- past all tests the second is in the years that have labels
  module _ (all : all_pass tests ≡ true) where
    acc : Accepted t
    acc = accepted_to t (search (and_l, and_r))

    covered : Covered o (axis_count sc x / 1000000)
    covered = covered_to o (steps t acc sc) (axis_count sc x) (count_in_years t acc sc x (search (and_l, and_r)))

  -- a moment's numbers are small
  pub moment_few : (m : Moment) → moment_of t x k ≡ Ok m → (m.spot.place.start ≤ 4000000) × ((m.spot.place.second ≤ 3000000) × (m.micro ≤ 999999))
  unfolding moment_of
  moment_few m e =
      let w = was_given tests m e in
      let f = place_few o (steps t (acc w.0) sc) (axis_count sc x / 1000000) (covered w.0) in
      subst (λ (v : Moment). (v.spot.place.start ≤ 4000000) × ((v.spot.place.second ≤ 3000000) × (v.micro ≤ 999999))) (same_given w.1) (omega arith)
