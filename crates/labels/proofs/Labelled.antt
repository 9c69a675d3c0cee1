-- Labels and seconds of the axis undo each other, in the years that have labels.
-- Assumes nothing.
use mathlib.Core.Path.{◌≡◌, sym, ap, ◌∙◌}
use Prim.Native.Nat.{ℕ, ◌+◌, ◌-◌, ◌*◌, ◌≤◌}
use native.Mathlib.Omega.{arith}
use Rattle.laws.proofs.Cases.{by_order}
use Rattle.laws.proofs.Difference.{up, down}
use Rattle.laws.proofs.Offsets.{Steps}
use Rattle.months.specs.Months.{days_before}
use Rattle.months.proofs.Laws.{days_1972, days_mono, days_next, days_most, length_most}
use Rattle.labels.specs.declared.Label.{Label}
use Rattle.labels.specs.declared.Reading.{Reading}
use Rattle.labels.specs.Labels.{Offsets, month_of}
use Rattle.labels.specs.Seconds.{first_month, last_month, end_month, second_of}
use Rattle.labels.specs.Back.{place_in, place_at, label_of, label_at, month_at}
use Rattle.labels.proofs.Falls.{In, Covered, since_is, before_later, month_at_lem}
use Rattle.labels.proofs.Exists.{Exists, label_exists, label_second, label_month, second_falls, label_back}
use Rattle.labels.proofs.Order.{Stands}
use Rattle.labels.proofs.Admitted.{Admitted}
use Rattle.labels.proofs.Guess.{falls, month_is_lem, not_past, not_early}

-- the label exists, in the years that have labels, and stands for second s of the axis
pub record At (o : Offsets) (l : Label) (s : ℕ) : Type 0 where
  pub since_1972 : 1972 ≤ l.year
  pub until_9999 : l.year ≤ 9999
  pub exists : Exists o l
  pub stands : Stands o l s

module _ (o : Offsets) (st : Steps o) where
  -- ---- from a label to its second and back

  module _ (l : Label) (s : ℕ) (a : At o l s) where
    month_low : first_month ≤ month_of l
    month_low = omega (arith, a.since_1972)

    pub month_high : month_of l ≤ last_month
    month_high = omega (arith, a.until_9999, a.exists.month_high)

    pub in_its_month : In o (month_of l) s
    in_its_month = second_falls o st l a.exists s a.stands

    pub at_covered : Covered o s
    at_covered =
        record {
          begun = by_order (s + down (o first_month)) (86400 * days_before first_month + up (o first_month)) (λ h. absurd (omega (arith, in_its_month.begun, before_later o st s first_month (month_of l) month_low h))) (λ h. h);
          ends = before_later o st s (month_of l + 1) end_month (omega (arith, month_high)) in_its_month.ends;
        }

    pub at_label : label_at o s ≡ l
    unfolding label_at
    at_label =
        ap (λ (k : ℕ). label_of (place_in o s k)) (month_at_lem o st s (month_of l) in_its_month last_month month_high)
        ∙ label_back o st l a.exists s a.stands

  -- a second has one label
  pub one : (l l' : Label) (s : ℕ) → At o l s → At o l' s → l ≡ l'
  one l l' s a a' = sym (at_label l s a) ∙ at_label l' s a'

  pub found : (l : Label) → 1972 ≤ l.year → l.year ≤ 9999 → Exists o l → (s : ℕ) × At o l s
  unfolding second_of
  found l low high e =
      let m = month_of l in (
        second_of l + up (o m) - down (o m),
        record { since_1972 = low; until_9999 = high; exists = e; stands = omega (arith, days_1972, days_mono first_month m (omega arith), st.low m) },
      )

  -- of an admitted reading
  pub standing : (most : ℕ) (r : Reading) → Admitted o most r → (s : ℕ) × At o r.label s
  standing most r a = found r.label a.since_1972 a.until_9999 a.exists

  -- ---- from a second to its label and back

  module _ (s : ℕ) (v : Covered o s) where
    pub month : ℕ
    month = (falls o st s v).0

    pub in_month : In o month s
    unfolding month
    in_month = (falls o st s v).1

    pub label_at_lem : At o (label_at o s) s
    unfolding label_at month
    label_at_lem =
        let e : month_at o s last_month ≡ month = month_is_lem o st s v month in_month in
        rw e
        (record {
          since_1972 = omega (arith, label_month o st month s in_month, not_early o st s v month in_month, (label_exists o st month s in_month).month_high);
          until_9999 = omega (arith, label_month o st month s in_month, not_past o st s v month in_month.begun);
          exists = label_exists o st month s in_month;
          stands = omega (arith, label_second o st month s in_month, ap up (ap o (label_month o st month s in_month)), ap down (ap o (label_month o st month s in_month)));
        })

    -- the numbers of a place are small
    pub place_few : ((place_at o s).start ≤ 4000000) × ((place_at o s).second ≤ 3000000)
    unfolding month
    place_few =
        let e : month_at o s last_month ≡ month = month_is_lem o st s v month in_month in
        let i = in_month in
        rw e
        (omega (arith, days_most month, not_past o st s v month i.begun), omega (arith, since_is o month s i.begun, i.ends, days_next month, length_most month, st.low month, st.low (month + 1)))
