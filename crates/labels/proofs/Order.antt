-- The order of labels is the order of their seconds.
-- Assumes nothing.
use mathlib.Core.Path.{◌≡◌, ap}
use mathlib.Core.Logic.{inl, inr}
use mathlib.Core.List.{List}
use Prim.Native.Nat.{ℕ, ◌+◌, ◌*◌, ◌<◌}
use native.Mathlib.Omega.{arith}
use lib.ListN.{get_or}
use Rattle.laws.specs.Order.{Less}
use Rattle.laws.proofs.Cases.{by_order}
use Rattle.laws.proofs.Difference.{up, down}
use Rattle.laws.proofs.Order.{by_less}
use Rattle.months.specs.Months.{days_before, month_length}
use Rattle.labels.specs.declared.Label.{Label}
use Rattle.labels.specs.Labels.{Offsets, label, month_of, fields, Before}
use Rattle.labels.specs.Seconds.{second_of}
use Rattle.laws.proofs.Offsets.{Steps}
use Rattle.labels.proofs.Falls.{before_later}
use Rattle.labels.proofs.Exists.{Exists, second_falls, at_end}

-- second s of TAI, or of the uniform scale, is the label's
abbrev pub Stands : Offsets → Label → ℕ → Type 0
Stands o l s = s + down (o (month_of l)) ≡ second_of l + up (o (month_of l))

module _ (o : Offsets) (st : Steps o) (l l' : Label) (e : Exists o l) (e' : Exists o l') (s s' : ℕ) (h : Stands o l s) (h' : Stands o l' s') where
  by_month : month_of l < month_of l' → s < s'
  by_month p =
      omega (arith, before_later o st s (month_of l + 1) (month_of l') (omega arith) (second_falls o st l e s h).ends, (second_falls o st l' e' s' h').begun)

  in_month : month_of l ≡ month_of l' → 86400 * l.day + (3600 * l.hour + (60 * l.minute + l.second)) < 86400 * l'.day + (3600 * l'.hour + (60 * l'.minute + l'.second)) → s < s'
  unfolding second_of
  in_month q p = omega (arith, ap days_before q, ap up (ap o q), ap down (ap o q), e.day_low, e'.day_low)

  by_minute : month_of l ≡ month_of l' → 1440 * l.day + (60 * l.hour + l.minute) < 1440 * l'.day + (60 * l'.hour + l'.minute) → s < s'
  by_minute q p =
      by_order l.second 60
      (λ c. in_month q (omega arith))
      (λ c. absurd (omega (arith, at_end o st l e s h c, ap month_length q, e'.day_high, e'.hour_high, e'.minute_high)))

  pub order : Before l l' → s < s'
  unfolding Less
  order (inl y) = by_month (omega (arith, e.month_low, e.month_high, e'.month_low))
  order (inr (y, inl mo)) = by_month (omega (arith, e.month_low))
  order (inr (y, inr (mo, inl d))) = by_minute (omega arith) (omega (arith, e.hour_high, e.minute_high))
  order (inr (y, inr (mo, inr (d, inl hr)))) = by_minute (omega arith) (omega (arith, e.minute_high))
  order (inr (y, inr (mo, inr (d, inr (hr, inl mi))))) = by_minute (omega arith) (omega arith)
  order (inr (y, inr (mo, inr (d, inr (hr, inr (mi, inl c)))))) = in_month (omega arith) (omega arith)
  order (inr (y, inr (mo, inr (d, inr (hr, inr (mi, inr (c, n))))))) = absurd n

-- ---- and back

of_fields : List ℕ → Label
of_fields f = label (get_or f 0 0) (get_or f 1 0) (get_or f 2 0) (get_or f 3 0) (get_or f 4 0) (get_or f 5 0)

-- a label is all that it shows
pub from_fields : (l l' : Label) → fields l ≡ fields l' → l ≡ l'
unfolding of_fields
from_fields l l' e = ap of_fields e

-- and stands for one second
pub same_second : (o : Offsets) (l l' : Label) (s s' : ℕ) → Stands o l s → Stands o l' s' → l ≡ l' → s ≡ s'
same_second o l l' s s' h h' e = let m = ap month_of e in omega (arith, ap second_of e, ap up (ap o m), ap down (ap o m))

pub order_back : (o : Offsets) → Steps o → (l l' : Label) → Exists o l → Exists o l' → (s s' : ℕ) → Stands o l s → Stands o l' s' → s < s' → Before l l'
order_back o st l l' e e' s s' h h' p =
    by_less (fields l) (fields l') (λ b. b)
    (λ q. absurd (omega (arith, same_second o l l' s s' h h' (from_fields l l' q))))
    (λ b. absurd (omega (arith, order o st l' l e' e s' s h' h b)))
