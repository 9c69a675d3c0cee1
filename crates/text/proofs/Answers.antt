-- The calls' answers from those of `stamp`.
-- Assumes nothing.
use mathlib.Core.Path.{◌≡◌, refl, ap, ◌∙◌}
use mathlib.Core.Bool.{true}
use mathlib.Core.List.{[], ◌∷◌}
use Prim.Native.Nat.{ℕ}
use native.Mathlib.Omega.{arith}
use lib.Dec.{leb}
use lib.IntN.{ℤ}
use Rattle.std.specs.Prelude.{Option, Some, None, Result, Ok, Err}
use Rattle.answer.specs.declared.Refusal.{Refusal}
use Rattle.answer.specs.declared.Refusal.TheVariants.{Range as RANGE, Ask as ASK, Table as TABLE}
use Rattle.answer.specs.Refusals.{refusing}
use Rattle.answer.proofs.Orders.{refusing_map}
use Rattle.months.proofs.Laws.{length_most}
use Rattle.leap.specs.declared.Table.{Table}
use Rattle.leap.specs.Leap.{vouched_to, accepted}
use Rattle.pictures.specs.declared.Fields.{Fields}
use Rattle.stamp.specs.declared.Scale.{Scale}
use Rattle.labels.specs.declared.Reading.{Reading}
use Rattle.stamp.specs.declared.Stamp.{Stamp}
use Rattle.labels.specs.Labels.{month_of, label_tests}
use Rattle.stamp.specs.Scales.{scale_of, offsets_of, most_second, instant_for}
use Rattle.stamp.specs.Stamps.{instant_in, stamp_of}
use Rattle.stamp.specs.Back.{in_range, stamp_at}
use Rattle.stamp.specs.Promise.{stamp}
use Rattle.labels.proofs.Admitted.{admitted_to}
use Rattle.stamp.proofs.Promise.{stamp_reads}
use Rattle.text.specs.Parts.{Plain}
use Rattle.text.specs.Text.{read_answer, fields_read, write_tests}

-- ---- reading

-- an answer on fields, as one on a text that shows them
abbrev pub as_text : Stamp → Result ℤ Refusal → Result (ℤ × Stamp) Refusal
as_text z (Ok x) = Ok (x, z)
as_text z (Err why) = Err why

pub read_as : (t : Table) (s : Scale) (r : Reading) {a : Result ℤ Refusal} → a ≡ instant_in t s r → as_text (stamp s r) a ≡ read_answer t s r
read_as t s r e = ap (as_text (stamp s r)) e ∙ refusing_map (as_text (stamp s r)) Err (label_tests (offsets_of t s) (most_second s) r) (Ok (instant_for t s r))

-- the month that a table is vouched for does not count
pub same_without_month : (t : Table) (s : Scale) (a : Option Fields) → fields_read (vouched_to 0 t) s a ≡ fields_read t s a
same_without_month t s (Some f) = refl
same_without_month t s None = refl

-- ---- writing

module _ {A : Type 0} (refuse : Refusal → A) (a : A) where
  -- an answer on a stamp, as one of a writer that has `a` for each
  abbrev pub as_written : Result Stamp Refusal → A
  as_written (Ok z) = a
  as_written (Err why) = refuse why

  pub write_as : (t : Table) (x : ℤ) (p k d : ℕ) → leb p 2 ≡ true → leb d 6 ≡ true → {v : Result Stamp Refusal} → v ≡ stamp_of t x k → as_written v ≡ refusing refuse (write_tests t x p k d) a
  unfolding stamp_of
  write_as t x p k d ep ed e =
      rw (ep, ed)
      (ap as_written e ∙ refusing_map as_written Err ((leb k 3, ASK) ∷ (accepted t, TABLE) ∷ (in_range t (scale_of k) x, RANGE) ∷ []) (Ok (stamp_at t (scale_of k) x)))

-- ---- the reading of a stamp

pub stamp_plain : (t : Table) (k : ℕ) (x : ℤ) {z : Stamp} → stamp_of t x k ≡ Ok z → Plain z.reading.label
stamp_plain t k x {z} e =
    let a = admitted_to (offsets_of t (scale_of k)) (most_second (scale_of k)) z.reading (stamp_reads t k x z e).1.is_admitted in
    let r = a.exists in
    record { year = a.until_9999; month_low = r.month_low; month_high = r.month_high; day = omega (arith, length_most (month_of z.reading.label), r.day_high) }
