-- What a good line says: the table is accepted, the label admitted, the count at most 3600.
-- Assumes nothing.
use mathlib.Core.Path.{◌≡◌, ap, subst}
use mathlib.Core.Bool.{Bool, true, false, ◌&&◌, and-false}
use mathlib.Core.List.{List, [], ◌∷◌}
use Prim.Native.Nat.{ℕ, ◌≤◌}
use native.Mathlib.Omega.{arith}
use lib.Dec.{leb}
use lib.IntN.{ℤ}
use Rattle.std.specs.Prelude.{Option, Some, None, Result, Ok, Err, ok_or}
use Rattle.pictures.specs.declared.Fields.{Fields}
use Rattle.laws.proofs.Cases.{by_test, both}
use Rattle.answer.specs.declared.Refusal.{Refusal}
use Rattle.answer.specs.declared.Refusal.TheVariants.{Shape as SHAPE, Ask as ASK, Table as TABLE}
use Rattle.answer.proofs.Orders.{was_passed}
use Rattle.leap.specs.declared.Table.{Table}
use Rattle.leap.specs.Leap.{accepted, offset_at}
use Rattle.labels.specs.declared.Reading.{Reading}
use Rattle.stamp.specs.declared.Stamp.{Stamp}
use Rattle.stamp.specs.declared.Scale.TheVariants.{Utc}
use Rattle.labels.specs.Labels.{Offsets, real_year, real_month, real_day, real_clock, has_second, label_tests, admitted, whole}
use Rattle.stamp.specs.Scales.{instant_for}
use Rattle.stamp.specs.Promise.{stamp}
use Rattle.clock.specs.Promise.{admits}
use Rattle.pictures.specs.Reading.{read_fields}
use Rattle.text.specs.Text.{reading_of, fields_read, read_text}
use Rattle.digits.specs.Decimals.{Within, decimal_of}
use Rattle.digits.proofs.Decimals.{decimal_within}
use Rattle.lines.specs.Words.{without}
use Rattle.listing.specs.Listing.{short, stamp_line, count_line}

-- ---- the count

pub count_most : (line : List ℕ) {n : ℕ} → count_line line ≡ Ok n → n ≤ 3600
unfolding count_line
count_most line {n} e =
    few (decimal_of 3600 line) (decimal_within 3600 line) (was_passed Err ((short line, SHAPE) ∷ []) (ok_or (decimal_of 3600 line) ASK) (Ok n) (λ why q. let z : ◌≡◌ {A = ℕ} 0 1 = cc in omega arith) e).1
  where
    few : (a : Option ℕ) → Within 3600 a → ok_or a ASK ≡ Ok n → n ≤ 3600
    few (Some k) h q = let w : k ≡ n = cc in omega arith
    few None h q = let z : ◌≡◌ {A = ℕ} 0 1 = cc in absurd (omega arith)

-- ---- the stamp

-- the whole second of an admitted reading is admitted
without_last : (year month day hour minute second micro exists : Bool)
    → (year && (month && (day && ((hour && (minute && (second && micro))) && (exists && true))))) ≡ true → (year && (month && (day && ((hour && (minute && (second && true))) && (exists && true))))) ≡ true
without_last year month day hour minute second micro exists e =
    by_test micro (λ q. rw q at e) (λ q. let z : false ≡ true = simp (q, and-false) at e in cc)

whole_admitted : (o : Offsets) (r : Reading) → admitted o 60 r ≡ true → admitted o 60 (whole r.label) ≡ true
unfolding real_clock
whole_admitted o r e =
    let l = r.label in
    without_last (real_year l) (real_month l) (real_day l) (leb l.hour 23) (leb l.minute 59) (leb l.second 60) (leb r.micro 999999) (has_second o l) e

module _ (t : Table) (line : List ℕ) {x : ℤ} {z : Stamp} where
  not_refused : (why : Refusal) → ◌≡◌ {A = Result (ℤ × Stamp) Refusal} (Err why) (Ok (x, z)) → ⊥
  not_refused why e = let z : ◌≡◌ {A = ℕ} 0 1 = cc in omega arith

  -- fields that are accepted are those of an admitted label
  fields_good : (a : Option Fields) → fields_read t Utc a ≡ Ok (x, z) → admits t z.reading.label ≡ true
  fields_good (Some f) e =
      let r = reading_of f in
      let b = was_passed Err (label_tests (offset_at t) 60 r) (Ok (instant_for t Utc r, stamp Utc r)) (Ok (x, z)) not_refused e in
      let w : ◌≡◌ {A = ℤ × Stamp} (instant_for t Utc r, stamp Utc r) (x, z) = cc b.1 in
      let q : stamp Utc r ≡ z = ap (λ v. v.1) w in
      subst (λ (y : Stamp). admits t y.reading.label ≡ true) q (whole_admitted (offset_at t) r b.0)
  fields_good None e = absurd (not_refused SHAPE e)

  text_good : read_text t 0 line ≡ Ok (x, z) → (accepted t ≡ true) × (admits t z.reading.label ≡ true)
  unfolding read_text
  text_good e =
      let a = was_passed Err ((true, ASK) ∷ (accepted t, TABLE) ∷ []) (fields_read t Utc (read_fields line)) (Ok (x, z)) not_refused e in
      ((both (accepted t) true a.0).0, fields_good (read_fields line) a.1)

  pub stamp_good : stamp_line t line ≡ Ok (x, z) → (accepted t ≡ true) × (admits t z.reading.label ≡ true)
  unfolding stamp_line
  stamp_good e = text_good (was_passed Err ((short line, SHAPE) ∷ (without 46 line, SHAPE) ∷ []) (read_text t 0 line) (Ok (x, z)) not_refused e).1
