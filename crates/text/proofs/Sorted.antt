-- Texts of picture 0 and of picture 1 sort as the instants that they are written for.
-- Assumes nothing.
use mathlib.Core.Path.{◌≡◌, refl, sym, ap, ap₂, ◌∙◌}
use mathlib.Core.Logic.{inl, inr}
use mathlib.Core.List.{List}
use Prim.Native.Nat.{ℕ, zero, suc, ◌/◌, ◌≤◌}
use native.Mathlib.Omega.{arith}
use lib.IntN.{ℤ}
use lib.Signed.{◌≤ℤ◌}
use Rattle.laws.specs.Order.{Less, Compare, NotGreater}
use Rattle.laws.proofs.Offsets.{Steps}
use Rattle.laws.proofs.Order.{reflects, onto, NeverFalls, Injective, never_greater, over_map}
use Rattle.calendar.specs.Days.{day_of_year}
use Rattle.calendar.proofs.Years.{day_rises}
use Rattle.leap.specs.declared.Table.{Table}
use Rattle.leap.proofs.Facts.{accepted_to}
use Rattle.labels.specs.declared.Reading.{Reading}
use Rattle.labels.specs.Labels.{Offsets, month_of}
use Rattle.labels.specs.Seconds.{axis_of}
use Rattle.labels.proofs.Admitted.{Admitted, admitted_to}
use Rattle.labels.proofs.Compared.{numbers, same_reading, readings_compare}
use Rattle.pictures.specs.Promise.{picture_of, numbers_of, Sorted}
use Rattle.pictures.proofs.Sorted.{texts_sorted}
use Rattle.stamp.specs.declared.Scale.{Scale}
use Rattle.stamp.specs.Scales.{scale_of, offsets_of, most_second, to_axis}
use Rattle.stamp.specs.Promise.{Reads}
use Rattle.stamp.proofs.Scales.{steps, most_sixty, axis_rises, axis_one_to_one}
use Rattle.stamp.proofs.Promise.{on_axis}
use Rattle.text.specs.Text.{date_as, fields_of, text_of}
use Rattle.text.specs.Promise.{SortsAsText}
use Rattle.text.proofs.Exactly.{well_formed, is_picture}
use Rattle.text.proofs.Writing.{Written, written_is}

-- ---- texts compare as readings

-- in picture 1 the day of the year stands for month and day, and rises with them
by_day : (o : Offsets) (most : ℕ) (r q : Reading) → Admitted o most r → Admitted o most q → Less (numbers r) (numbers q) → Less (numbers_of (fields_of 1 6 r)) (numbers_of (fields_of 1 6 q))
unfolding Less
by_day o most r q a b (inl y) = inl y
by_day o most r q a b (inr (y, inl m)) =
    let year : month_of r.label / 12 ≡ month_of q.label / 12 = omega (arith, a.exists.month_low, a.exists.month_high, b.exists.month_low, b.exists.month_high) in
    inr (y, inl (day_rises (month_of r.label) (month_of q.label) r.label.day q.label.day year (omega (arith, a.exists.month_low)) a.exists.day_high b.exists.day_low))
by_day o most r q a b (inr (y, inr (m, inl d))) =
    let month : month_of r.label ≡ month_of q.label = omega arith in
    inr (y, inl (rw month (omega arith)))
by_day o most r q a b (inr (y, inr (m, inr (d, h)))) =
    let month : month_of r.label ≡ month_of q.label = omega arith in
    inr (y, inr (ap₂ day_of_year month d, h))

in_order : (o : Offsets) (most p : ℕ) → p ≤ 1 → (r q : Reading) → Admitted o most r → Admitted o most q → Less (numbers r) (numbers q) → Less (numbers_of (fields_of p 6 r)) (numbers_of (fields_of p 6 q))
in_order o most zero l r q a b h = h
in_order o most (suc zero) l r q a b h = by_day o most r q a b h
in_order o most (suc (suc p)) l r q a b h = absurd (omega arith)

module _ (o : Offsets) (most : ℕ) (few : most ≤ 60) (p : ℕ) (l : p ≤ 1) (r q : Reading) (a : Admitted o most r) (b : Admitted o most q) where
  sorted : Sorted (fields_of p 6 r) (fields_of p 6 q)
  sorted =
      let e : picture_of (date_as p r.label) ≡ p = is_picture p r.label (omega arith) in
      texts_sorted (fields_of p 6 r) (fields_of p 6 q)
      (well_formed o most r a few p 6 (omega arith) (omega arith) (omega arith)) (well_formed o most q b few p 6 (omega arith) (omega arith) (omega arith))
      (e ∙ sym (is_picture p q.label (omega arith))) (omega arith)

  text_six : Less (numbers r) (numbers q) → Less (text_of p 6 r) (text_of p 6 q)
  text_six h = sorted.six (in_order o most p l r q a b h)

  text_any : (d : ℕ) → d ≤ 6 → Less (text_of p d r) (text_of p d q) → Less (numbers r) (numbers q)
  text_any d g h = reflects (λ e. ap (λ (r : Reading). numbers_of (fields_of p 6 r)) (same_reading r q e)) (in_order o most p l q r b a) (sorted.any d g h)

-- ---- and as instants, over any map from these to the axis that never falls

module _ (o : Offsets) (st : Steps o) (most : ℕ) (few : most ≤ 60) (f : ℤ → ℤ) (rises : NeverFalls f) (p : ℕ) (l : p ≤ 1) (x y : ℤ) (r q : Reading) (a : Admitted o most r) (b : Admitted o most q) (at_x : f x ≡ axis_of o r) (at_y : f y ≡ axis_of o q) where
  compared : Compare (numbers r) (numbers q) (f x) (f y)
  compared = rw (at_x, at_y) (readings_compare o st most r q a b)

  never : (d : ℕ) → d ≤ 6 → x ≤ℤ y → NotGreater (text_of p d r) (text_of p d q)
  never d g = never_greater f rises (text_of p d r) (text_of p d q) x y (λ h. compared.greater.0 (text_any o most few p l q r b a d g h))

  exactly : Injective f → Compare (text_of p 6 r) (text_of p 6 q) x y
  exactly one =
      over_map f rises (text_of p 6 r) (text_of p 6 q) x y one
      (onto (λ e. ap (text_of p 6) (same_reading r q e)) (text_six o most few p l r q a b) (text_six o most few p l q r b a) compared)

-- ---- what is written on a scale

module _ (t : Table) (k p d : ℕ) (l : p ≤ 1) (x y : ℤ) (a b : List ℕ) (w : Written t x p k d a) (v : Written t y p k d b) where
  abbrev s : Scale
  s = scale_of k

  abbrev o : Offsets
  o = offsets_of t (scale_of k)

  st : Steps o
  st = steps t (accepted_to t w.known.a_table) s

  real : {z : ℤ} {r : Reading} → Reads t s r z → Admitted o (most_second s) r
  real {z} {r} h = admitted_to o (most_second s) r h.is_admitted

  not_greater : x ≤ℤ y → NotGreater a b
  not_greater h =
      rw (w.text_is, v.text_is)
      (never o st (most_second s) (most_sixty s).1 (to_axis s) (axis_rises s) p l x y w.reading v.reading (real w.reads) (real v.reads) (on_axis t s w.reading x w.reads) (on_axis t s v.reading y v.reads) d w.known.a_number h)

  as_instants : d ≡ 6 → Compare a b x y
  as_instants e =
      rw (w.text_is, v.text_is, e)
      (exactly o st (most_second s) (most_sixty s).1 (to_axis s) (axis_rises s) p l x y w.reading v.reading (real w.reads) (real v.reads) (on_axis t s w.reading x w.reads) (on_axis t s v.reading y v.reads) (axis_one_to_one s))

pub sorts_as_text : (t : Table) (k : ℕ) → SortsAsText t k
sorts_as_text t k =
    record {
      six = λ p l x y a b w v. as_instants t k p 6 l x y a b (written_is t x p k 6 a w) (written_is t y p k 6 b v) refl;
      any = λ p d l x y a b w v. not_greater t k p d l x y a b (written_is t x p k d a w) (written_is t y p k d b v);
    }
