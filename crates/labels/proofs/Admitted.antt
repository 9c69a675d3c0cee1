-- What it means for a reading to be admitted, as facts about its numbers, both ways.
-- Assumes nothing.
use mathlib.Core.Path.{◌≡◌, refl}
use mathlib.Core.Bool.{true}
use Prim.Native.Nat.{ℕ, ◌≤◌}
use borrow.Author.Tests.{le-leb, lt-ltb}
use Rattle.laws.proofs.Cases.{and_l, and_r, join}
use Rattle.labels.specs.declared.Reading.{Reading}
use Rattle.labels.specs.Labels.{Offsets, real_year, real_month, real_day, real_clock, has_second, admitted}
use Rattle.labels.proofs.Facts.{year_to, month_to, day_to, OnClock, clock_to, second_to}
use Rattle.labels.proofs.Exists.{Exists}

pub record Admitted (o : Offsets) (most : ℕ) (r : Reading) : Type 0 where
  pub since_1972 : 1972 ≤ r.label.year
  pub until_9999 : r.label.year ≤ 9999
  pub exists : Exists o r.label
  pub on_clock : OnClock most r

pub admitted_to : (o : Offsets) (most : ℕ) (r : Reading) → admitted o most r ≡ true → Admitted o most r
admitted_to o most r e =
    let y : real_year r.label ≡ true = search (and_l) in
    let m : real_month r.label ≡ true = search (and_l, and_r) in
    let d : real_day r.label ≡ true = search (and_l, and_r) in
    let k : real_clock most r ≡ true = search (and_l, and_r) in
    let h : has_second o r.label ≡ true = search (and_l, and_r) in
    let y' = year_to _ y in
    let m' = month_to _ m in
    let d' = day_to _ d in
    let k' = clock_to _ _ k in
    record {
      since_1972 = y'.0;
      until_9999 = y'.1;
      exists = record { month_low = m'.0; month_high = m'.1; day_low = d'.0; day_high = d'.1; hour_high = k'.hour_high; minute_high = k'.minute_high; second_high = second_to _ _ h };
      on_clock = k';
    }

pub admitted_from : (o : Offsets) (most : ℕ) (r : Reading) → Admitted o most r → admitted o most r ≡ true
unfolding real_year real_month real_day real_clock has_second
admitted_from o most r a =
    join (join (le-leb _ _ a.since_1972) (le-leb _ _ a.until_9999))
    (join (join (le-leb _ _ a.exists.month_low) (le-leb _ _ a.exists.month_high))
    (join (join (le-leb _ _ a.exists.day_low) (le-leb _ _ a.exists.day_high))
    (join (join (le-leb _ _ a.exists.hour_high) (join (le-leb _ _ a.exists.minute_high) (join (le-leb _ _ a.on_clock.second_most) (le-leb _ _ a.on_clock.micro_high))))
    (join (lt-ltb _ _ a.exists.second_high) refl))))

-- the same label with another microsecond, where its second may be no higher than another one
pub admitted_again : (o : Offsets) (most : ℕ) (r : Reading) → Admitted o most r → (next micro : ℕ) → r.label.second ≤ next → micro ≤ 999999 → Admitted o next (record { label = r.label; micro = micro })
admitted_again o most r a next micro s u =
    let k = a.on_clock in
    record { since_1972 = a.since_1972; until_9999 = a.until_9999; exists = a.exists; on_clock = record { hour_high = k.hour_high; minute_high = k.minute_high; second_most = s; micro_high = u } }
