-- Readings compare as their microseconds on the axis, number by number.
-- Assumes nothing.
use mathlib.Core.Path.{◌≡◌, refl, ap, ap₂}
use mathlib.Core.Logic.{◌⊎◌, inl, inr}
use mathlib.Core.List.{List, [], ◌∷◌, ◌++◌}
use Prim.Native.Nat.{ℕ, ◌+◌, ◌*◌, ◌<◌}
use native.Mathlib.Omega.{arith}
use lib.ListN.{take, get_or}
use lib.Signed.{◌<ℤ◌}
use Rattle.laws.specs.Order.{Less, Compare}
use Rattle.laws.proofs.Difference.{lt_from}
use Rattle.laws.proofs.Offsets.{Steps}
use Rattle.laws.proofs.Order.{less_last, compare}
use Rattle.labels.specs.declared.Label.{Label}
use Rattle.labels.specs.declared.Reading.{Reading}
use Rattle.labels.specs.Labels.{Offsets, fields, Before}
use Rattle.labels.specs.Seconds.{axis_of}
use Rattle.labels.proofs.Order.{order, from_fields, same_second}
use Rattle.labels.proofs.Admitted.{Admitted}
use Rattle.labels.proofs.Years.{axis_second}
use Rattle.labels.proofs.Labelled.{At, standing}

-- what a reading shows, from the year to the microsecond
abbrev pub numbers : Reading → List ℕ
numbers r = fields r.label ++ r.micro ∷ []

-- which is all of it
pub same_reading : (r q : Reading) → numbers r ≡ numbers q → r ≡ q
same_reading r q e =
    ap₂ (λ (l : Label) (u : ℕ). record { label = l; micro = u }) (from_fields r.label q.label (ap (take 6) e)) (ap (λ (n : List ℕ). get_or n 6 0) e)

module _ (o : Offsets) (st : Steps o) (most : ℕ) where
  lesser : (r q : Reading) → Admitted o most r → Admitted o most q → Less (numbers r) (numbers q) → axis_of o r <ℤ axis_of o q
  lesser r q a b h =
      let s = standing o st most r a in
      let z = standing o st most q b in
      rw (axis_second o r s.0 s.1.stands, axis_second o q z.0 z.1.stands) (lt_from _ _ (go s.0 z.0 s.1 z.1 (less_last (fields r.label) (fields q.label) r.micro q.micro refl h)))
    where
      go : (s z : ℕ) → At o r.label s → At o q.label z → Before r.label q.label ⊎ ((fields r.label ≡ fields q.label) × (r.micro < q.micro))
          → 1000000 * s + r.micro + 0 < 1000000 * z + q.micro + 0
      go s z c d (inl w) = omega (arith, order o st r.label q.label c.exists d.exists s z c.stands d.stands w, a.on_clock.micro_high)
      go s z c d (inr w) = omega (arith, same_second o r.label q.label s z c.stands d.stands (from_fields r.label q.label w.0), w.1)

  pub readings_compare : (r q : Reading) → Admitted o most r → Admitted o most q → Compare (numbers r) (numbers q) (axis_of o r) (axis_of o q)
  readings_compare r q a b = compare (lesser r q a b) (λ e. ap (axis_of o) (same_reading r q e)) (lesser q r b a)
