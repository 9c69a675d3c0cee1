-- The promises on a text's length and on reading are kept.
-- Assumes nothing.
use mathlib.Core.Path.{◌≡◌, refl, sym, ap, ap₂, subst, ◌∙◌}
use mathlib.Core.Bool.{Bool, true, false, cond}
use mathlib.Core.List.{List, [], ◌∷◌}
use Prim.Native.Nat.{ℕ, zero, suc, ◌+◌, ◌*◌, ◌/◌, ◌-◌, ◌%◌, ◌^◌, ◌≤◌}
use native.Mathlib.Omega.{arith}
use borrow.Author.Tests.{le-leb, leb-true, ne_eqb}
use lib.Dec.{eqb, leb}
use lib.IntN.{ℤ}
use lib.ListN.{length, length-take}
use Rattle.std.specs.Prelude.{Option, Some, None, Result, Ok, Err}
use Rattle.calendar.specs.declared.MonthDay.{MonthDay}
use Rattle.laws.proofs.Cases.{and_l, and_r, join}
use Rattle.answer.specs.declared.Refusal.{Refusal}
use Rattle.answer.specs.declared.Refusal.TheVariants.{Year as YEAR, Date as DATE, Clock as CLOCK, NoSecond as NOSECOND, Ask as ASK, Table as TABLE}
use Rattle.answer.specs.Refusals.{refusing}
use Rattle.answer.proofs.Orders.{none_refused, number_some}
use Rattle.months.specs.Months.{days_before}
use Rattle.calendar.specs.Days.{day_of_year}
use Rattle.calendar.specs.Dates.{date_in_year}
use Rattle.months.proofs.Laws.{length_most, rise}
use Rattle.calendar.proofs.Years.{date_back, day_back}
use Rattle.leap.specs.declared.Table.{Table}
use Rattle.leap.specs.Leap.{accepted}
use Rattle.pictures.specs.declared.Date.{Date}
use Rattle.pictures.specs.declared.Date.TheVariants.{Numbered, OfYear, Named}
use Rattle.pictures.specs.declared.Fields.{Fields}
use Rattle.pictures.specs.Pictures.{fraction_text, picture_text, DateFits, WellFormed}
use Rattle.pictures.specs.Promise.{picture_of}
use Rattle.pictures.specs.Reading.{read_fields}
use Rattle.pictures.proofs.Promise.{shown, back}
use Rattle.labels.specs.declared.Label.{Label}
use Rattle.labels.specs.declared.Reading.{Reading}
use Rattle.stamp.specs.declared.Scale.{Scale}
use Rattle.stamp.specs.declared.Stamp.{Stamp}
use Rattle.labels.specs.Labels.{Offsets, month_of, real_year, real_month, real_day, real_clock, has_second, label_tests}
use Rattle.stamp.specs.Scales.{scale_of, scale_tests, offsets_of, most_second, instant_for}
use Rattle.stamp.specs.Promise.{stamp}
use Rattle.stamp.proofs.First.{was_given, same_given}
use Rattle.stamp.proofs.Scales.{most_sixty}
use Rattle.text.specs.Text.{on, date_or, month_day_of, reading_of, read_answer, fields_read, read_text, text_results, date_as, fields_of}
use Rattle.text.specs.Promise.{Sized, Names, ReadExactly}
use Rattle.labels.proofs.Admitted.{Admitted, admitted_to}

-- ---- length

fraction_size : (k u : ℕ) → k ≤ 6 → length (fraction_text k u) ≡ cond (eqb k 0) 0 (1 + k)
fraction_size zero u h = refl
fraction_size (suc k) u h = rw (ne_eqb (suc k) 0 (λ e. omega arith)) (simp length-take (omega arith))

pub sized : Sized
unfolding picture_text
sized zero digits r h g = omega (arith, fraction_size digits (fields_of 0 digits r).micro g)
sized (suc zero) digits r h g = omega (arith, fraction_size digits (fields_of 1 digits r).micro g)
sized (suc (suc zero)) digits r h g = omega (arith, fraction_size digits (fields_of 2 digits r).micro g)
sized (suc (suc (suc p))) digits r h g = absurd (omega arith)

-- ---- the fields of an admitted reading

module _ (o : Offsets) (most : ℕ) (r : Reading) (a : Admitted o most r) (few : most ≤ 60) where
  reading_back : (p digits : ℕ) → p ≤ 2 → reading_of (fields_of p digits r) ≡ r
  reading_back zero digits h = refl
  reading_back (suc zero) digits h =
      rw (date_back r.label.year (on r.label.month r.label.day) (record { month_low = a.exists.month_low; month_high = a.exists.month_high; day_low = a.exists.day_low; day_high = a.exists.day_high }))
  reading_back (suc (suc zero)) digits h = refl
  reading_back (suc (suc (suc p))) digits h = absurd (omega arith)

  date_fits : (p : ℕ) → p ≤ 2 → DateFits (date_as p r.label)
  date_fits zero h = omega (arith, a.exists.month_high, a.exists.day_high, length_most (month_of r.label))
  date_fits (suc zero) h =
      let m = month_of r.label in
      let parts : 12 * (m / 12) + m % 12 ≡ m = omega arith in
      omega (arith, ap days_before parts, rise (m % 12) (12 * (m / 12)), a.exists.day_high, length_most m)
  date_fits (suc (suc zero)) h = omega (arith, a.exists.month_low, a.exists.month_high, a.exists.day_high, length_most (month_of r.label))
  date_fits (suc (suc (suc p))) h = absurd (omega arith)

  pub well_formed : (p digits : ℕ) → p ≤ 2 → digits ≤ 6 → r.micro % 10 ^ (6 - digits) ≡ 0 → WellFormed (fields_of p digits r)
  well_formed p digits h g e =
      let c = a.on_clock in
      record { year = omega (arith, a.until_9999); date = date_fits p h; hour = omega (arith, c.hour_high); minute = omega (arith, c.minute_high); second = omega (arith, c.second_most); digits = g; micro = omega (arith, c.micro_high); shown = e }

pub is_picture : (p : ℕ) (l : Label) → p ≤ 2 → picture_of (date_as p l) ≡ p
is_picture zero l h = refl
is_picture (suc zero) l h = refl
is_picture (suc (suc zero)) l h = refl
is_picture (suc (suc (suc p))) l h = absurd (omega arith)

-- and back: an admitted reading of fields has these fields, in the picture of their date
a_picture : (d : Date) → picture_of d ≤ 2
a_picture (Numbered m d) = omega arith
a_picture (OfYear d) = omega arith
a_picture (Named m d) = omega arith

day_again : (y d : ℕ) → 1 ≤ (date_or (date_in_year y d)).month → day_of_year (12 * y + ((date_or (date_in_year y d)).month - 1)) (date_or (date_in_year y d)).day ≡ d
day_again y d = go (date_in_year y d) refl
  where
    go : (v : Option MonthDay) → date_in_year y d ≡ v → 1 ≤ (date_or v).month → day_of_year (12 * y + ((date_or v).month - 1)) (date_or v).day ≡ d
    go (Some r) e h = (day_back y d r e).1
    go None e h = absurd (omega arith)

fields_back : (y h mi s k u : ℕ) (d : Date) → 1 ≤ (month_day_of y d).month → let f : Fields = record { year = y; date = d; hour = h; minute = mi; second = s; digits = k; micro = u } in fields_of (picture_of d) k (reading_of f) ≡ f
fields_back y h mi s k u (Numbered m d) e = refl
fields_back y h mi s k u (OfYear d) e = rw (day_again y d e)
fields_back y h mi s k u (Named m d) e = refl

-- ---- reading

-- SHAPE is given neither for scale and table nor for fields
past_scale : (a b : Bool) (v : (Result (ℤ × Stamp) Refusal)) → (text_results (refusing Err ((a, ASK) ∷ (b, TABLE) ∷ []) v)).0 ≡ 2 → (a ≡ true) × (b ≡ true) × ((text_results v).0 ≡ 2)
past_scale true true v e = (refl, refl, e)
past_scale true false v e = absurd (omega arith)
past_scale false b v e = absurd (omega arith)

not_shape : (a b c d f : Bool) (x : ℤ) (z : Stamp) → (text_results (refusing Err ((a, YEAR) ∷ (b, DATE) ∷ (c, DATE) ∷ (d, CLOCK) ∷ (f, NOSECOND) ∷ []) (Ok (x, z)))).0 ≡ 2 → ⊥
not_shape true true true true true x z e = omega arith
not_shape true true true true false x z e = omega arith
not_shape true true true false f x z e = omega arith
not_shape true true false d f x z e = omega arith
not_shape true false c d f x z e = omega arith
not_shape false b c d f x z e = omega arith

module _ (t : Table) (k : ℕ) (text : List ℕ) where
  pub reads_as : (x : ℤ) (r : Reading) → Names t k text x r → read_text t k text ≡ Ok (x, stamp (scale_of k) r)
  unfolding read_text
  reads_as x r n =
      let o = offsets_of t (scale_of k) in
      let most = most_second (scale_of k) in
      let a = admitted_to o most r n.reads.is_admitted in
      let g = n.known in
      let w = well_formed o most r a (most_sixty (scale_of k)).1 n.picture n.digits g.a_picture g.a_number n.enough in
      none_refused Err (scale_tests t k) _ (join (le-leb k 3 g.a_scale) (join g.a_table refl))
      ∙ ap (fields_read t (scale_of k)) (ap read_fields n.text_is ∙ back (fields_of n.picture n.digits r) w)
      ∙ ap (read_answer t (scale_of k)) (reading_back o most r a (most_sixty (scale_of k)).1 n.picture n.digits g.a_picture)
      ∙ none_refused Err (label_tests o most r) _ n.reads.is_admitted
      ∙ ap (λ (y : ℤ). Ok (y, stamp (scale_of k) r)) n.reads.instant_is

  -- number 0 is no refusal's
  given : (a : Result (ℤ × Stamp) Refusal) (x : ℤ) (z : Stamp) → text_results a ≡ (0, x, z) → a ≡ Ok (x, z)
  given (Ok (y, u)) x z e = ap₂ (λ (v : ℤ) (w : Stamp). Ok (v, w)) (ap (λ v. v.1) e) (ap (λ v. v.2) e)
  given (Err why) x z e = absurd (number_some why (ap (λ v. v.0) e))

  -- fields that are accepted
  judged : (f : Fields) (x : ℤ) (z : Stamp) → k ≤ 3 → accepted t ≡ true → WellFormed f × (text ≡ picture_text f) → read_answer t (scale_of k) (reading_of f) ≡ Ok (x, z)
      → (z.scale ≡ scale_of k) × Names t k text x z.reading
  judged f x z known good w e =
      let r = reading_of f in
      let o = offsets_of t (scale_of k) in
      let most = most_second (scale_of k) in
      let q = was_given (label_tests o most r) (x, z) e in
      let same : stamp (scale_of k) r ≡ z = is_stamp q.1 in
      let a = admitted_to o most r q.0 in
      let names : Names t k text x r =
      record {
        picture = picture_of f.date;
        digits = f.digits;
        known = record { a_scale = known; a_picture = a_picture f.date; a_number = w.0.digits; a_table = good };
        reads = record { is_admitted = q.0; instant_is = is_instant q.1 };
        enough = w.0.shown;
        text_is = w.1 ∙ ap picture_text (sym (fields_back f.year f.hour f.minute f.second f.digits f.micro f.date a.exists.month_low));
      } in
      (ap (λ (y : Stamp). y.scale) (sym same), subst (λ (y : Stamp). Names t k text x y.reading) same names)
    where
      is_stamp : {y : ℤ} {u : Stamp} → ◌≡◌ {A = Result (ℤ × Stamp) Refusal} (Ok (y, u)) (Ok (x, z)) → u ≡ z
      is_stamp q = ap (λ (v : ℤ × Stamp). v.1) (same_given q)

      is_instant : {y : ℤ} {u : Stamp} → ◌≡◌ {A = Result (ℤ × Stamp) Refusal} (Ok (y, u)) (Ok (x, z)) → y ≡ x
      is_instant q = ap (λ (v : ℤ × Stamp). v.0) (same_given q)

  only : (x : ℤ) (z : Stamp) → read_text t k text ≡ Ok (x, z) → (z.scale ≡ scale_of k) × Names t k text x z.reading
  unfolding read_text
  only x z e =
      let p = was_given (scale_tests t k) (x, z) e in
      go (leb-true k 3 (and_l (leb k 3) _ p.0)) (search (and_l, and_r)) (read_fields text) refl p.1
    where
      go : k ≤ 3 → accepted t ≡ true → (a : Option Fields) → read_fields text ≡ a → fields_read t (scale_of k) a ≡ Ok (x, z) → (z.scale ≡ scale_of k) × Names t k text x z.reading
      go known good (Some f) q e = judged f x z known good (shown text f q) e
      go known good None q e = cc

  -- the picture of fields
  judged_as : (f : Fields) → WellFormed f → text ≡ picture_text f → read_text t k text ≡ refusing Err (scale_tests t k) (read_answer t (scale_of k) (reading_of f))
  unfolding read_text
  judged_as f w e = ap (λ (a : Option Fields). refusing Err (scale_tests t k) (fields_read t (scale_of k) a)) (ap read_fields e ∙ back f w)

  -- no picture
  is_shape : (k ≤ 3) × (accepted t ≡ true) × ((f : Fields) → WellFormed f → text ≡ picture_text f → ⊥) → (text_results (read_text t k text)).0 ≡ 2
  unfolding read_text
  is_shape h = ap (λ (a : Result (ℤ × Stamp) Refusal). (text_results a).0) (none_refused Err (scale_tests t k) _ (join (le-leb k 3 h.0) (join h.1 refl))) ∙ go (read_fields text) refl
    where
      go : (a : Option Fields) → read_fields text ≡ a → (text_results (fields_read t (scale_of k) a)).0 ≡ 2
      go (Some f) q = let s = shown text f q in absurd (h.2 f s.0 s.1)
      go None q = refl

  was_shape : (text_results (read_text t k text)).0 ≡ 2 → (k ≤ 3) × (accepted t ≡ true) × ((f : Fields) → WellFormed f → text ≡ picture_text f → ⊥)
  unfolding read_text
  was_shape e =
      let q = past_scale (leb k 3) (accepted t) (fields_read t (scale_of k) (read_fields text)) e in (
        leb-true k 3 q.0,
        q.1,
        λ f w p.
            let r = reading_of f in
            not_shape (real_year r.label) (real_month r.label) (real_day r.label) (real_clock (most_second (scale_of k)) r) (has_second (offsets_of t (scale_of k)) r.label) (instant_for t (scale_of k) r) (stamp (scale_of k) r)
            (ap (λ (a : Option Fields). (text_results (fields_read t (scale_of k) a)).0) (sym (ap read_fields p ∙ back f w)) ∙ q.2),
      )

  pub read_exactly : ReadExactly t k text
  read_exactly =
      record {
        success = λ x z. (λ e. only x z (given (read_text t k text) x z e), λ n. ap text_results (reads_as x z.reading n.1) ∙ ap (λ (s : Scale). (0, x, stamp s z.reading)) (sym n.0));
        shape = (was_shape, is_shape);
        fields = λ f w e. ap text_results (judged_as f w e);
      }
