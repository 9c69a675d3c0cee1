-- The writer gives the text of the instant's reading wherever it has room, and refuses exactly when it should.
-- Assumes nothing.
use mathlib.Core.Path.{◌≡◌, refl, ap, sym, subst, ◌∙◌}
use mathlib.Core.Bool.{Bool, true, false, ◌&&◌}
use mathlib.Core.List.{List, [], ◌∷◌}
use Prim.Native.Nat.{ℕ, ◌≤◌, ◌<◌}
use native.Mathlib.Omega.{arith}
use borrow.Author.Tests.{le-leb, lt-leb, leb-true, leb-false}
use lib.Dec.{leb}
use lib.IntN.{ℤ}
use lib.ListN.{length, take}
use Rattle.std.specs.Prelude.{Ok, Err}
use Rattle.laws.specs.Placed.{over}
use Rattle.laws.proofs.Cases.{by_test, and_l, and_r, join}
use Rattle.laws.proofs.Placed.{over_front}
use Rattle.answer.specs.declared.Refusal.TheVariants.{Room as ROOM, Range as RANGE, Ask as ASK, Table as TABLE}
use Rattle.answer.specs.Refusals.{refusing, all_pass}
use Rattle.answer.specs.Buffers.{room_last, written_results}
use Rattle.answer.proofs.Orders.{none_refused}
use Rattle.answer.proofs.Promise.{writer}
use Rattle.leap.specs.declared.Table.{Table}
use Rattle.leap.specs.Leap.{accepted}
use Rattle.leap.proofs.Facts.{accepted_to}
use Rattle.labels.specs.declared.Reading.{Reading}
use Rattle.stamp.specs.declared.Stamp.{Stamp}
use Rattle.stamp.specs.Scales.{scale_of}
use Rattle.stamp.specs.Back.{in_range, stamp_at}
use Rattle.stamp.specs.Promise.{Reads}
use Rattle.stamp.proofs.Promise.{back_reads, in_range_reads, reads_stamp}
use Rattle.text.specs.Text.{text_of, write_tests, text_at, write_text, write_text_after}
use Rattle.text.specs.Promise.{Known, WrittenExactly, WritesText}

-- ---- which of a call's four tests decides

abbrev number_of : Bool → Bool → Bool → Bool → ℕ → ℕ
number_of a b c d n = (written_results (refusing Err ((a, ASK) ∷ (b, TABLE) ∷ (c, RANGE) ∷ (d, ROOM) ∷ []) (Ok n))).0

passed : (a b c d : Bool) (n : ℕ) → number_of a b c d n ≡ 0 → (a ≡ true) × (b ≡ true) × (c ≡ true) × (d ≡ true)
passed true true true true n e = (refl, refl, refl, refl)
passed true true true false n e = absurd (omega arith)
passed true true false d n e = absurd (omega arith)
passed true false c d n e = absurd (omega arith)
passed false b c d n e = absurd (omega arith)

too_long : (a b c d : Bool) (n : ℕ) → number_of a b c d n ≡ 1 → (a ≡ true) × (b ≡ true) × (c ≡ true) × (d ≡ false)
too_long true true true true n e = absurd (omega arith)
too_long true true true false n e = (refl, refl, refl, refl)
too_long true true false d n e = absurd (omega arith)
too_long true false c d n e = absurd (omega arith)
too_long false b c d n e = absurd (omega arith)

outside : (a b c d : Bool) (n : ℕ) → number_of a b c d n ≡ 7 → (a ≡ true) × (b ≡ true) × (c ≡ false)
outside true true true true n e = absurd (omega arith)
outside true true true false n e = absurd (omega arith)
outside true true false d n e = (refl, refl, refl)
outside true false c d n e = absurd (omega arith)
outside false b c d n e = absurd (omega arith)

is_too_long : {a b c d : Bool} (n : ℕ) → a ≡ true → b ≡ true → c ≡ true → d ≡ false → number_of a b c d n ≡ 1
is_too_long n p q r s = rw (p, q, r, s) refl

is_outside : {a b c : Bool} (d : Bool) (n : ℕ) → a ≡ true → b ≡ true → c ≡ false → number_of a b c d n ≡ 7
is_outside d n p q r = rw (p, q, r) refl

-- ---- the call

module _ (t : Table) (k : ℕ) (x : ℤ) (p d : ℕ) (buffer : List ℕ) where
  abbrev ask : Bool
  ask = leb p 2 && (leb d 6 && leb k 3)

  abbrev range : Bool
  range = in_range t (scale_of k) x

  abbrev text : List ℕ
  text = text_at t x p k d

  abbrev room : Bool
  room = leb (length text) (length buffer)

  asks : Known t k p d → ask ≡ true
  asks a = join (le-leb p 2 a.a_picture) (join (le-leb d 6 a.a_number) (le-leb k 3 a.a_scale))

  known : ask ≡ true → accepted t ≡ true → Known t k p d
  known e g = record { a_scale = leb-true k 3 (search (and_l, and_r)); a_picture = leb-true p 2 (search (and_l, and_r)); a_number = leb-true d 6 (search (and_l, and_r)); a_table = g }

  -- in range the stamp's reading has the instant
  has_reading : Known t k p d → range ≡ true → Reads t (scale_of k) (stamp_at t (scale_of k) x).reading x
  has_reading a e = back_reads t (accepted_to t a.a_table) (scale_of k) x e

  module _ (a : Known t k p d) (r : Reading) (h : Reads t (scale_of k) r x) where
    in_range_lem : range ≡ true
    in_range_lem = (in_range_reads t a.a_table (scale_of k) x).1 (r, h)

    its_text : text ≡ text_of p d r
    its_text = ap (λ (z : Stamp). text_of p d z.reading) (reads_stamp t a.a_table (scale_of k) r x h)

    fits : length (text_of p d r) ≤ length buffer → all_pass (room_last (write_tests t x p k d) text buffer) ≡ true
    fits l = join (asks a) (join a.a_table (join in_range_lem (join (le-leb (length text) (length buffer) (omega (arith, ap length its_text))) refl)))

    its_bytes : length (text_of p d r) ≤ length buffer → (written_results (write_text t x p k d buffer) ≡ (0, length (text_of p d r))) × (write_text_after t x p k d buffer ≡ over (text_of p d r) buffer)
    its_bytes l = (
      ap written_results (none_refused Err (room_last (write_tests t x p k d) text buffer) (Ok (length text)) (fits l)) ∙ ap (λ (b : List ℕ). (0, length b)) its_text,
      none_refused (λ why. buffer) (room_last (write_tests t x p k d) text buffer) (over text buffer) (fits l) ∙ ap (λ (b : List ℕ). over b buffer) its_text,
    )

  abbrev number : ℕ
  number = (written_results (write_text t x p k d buffer)).0

  was_written : number ≡ 0 → Known t k p d × ((r : Reading) × Reads t (scale_of k) r x × (length (text_of p d r) ≤ length buffer))
  was_written e =
      let q = passed ask (accepted t) range room (length text) e in
      let a = known q.0 q.1 in
      (a, ((stamp_at t (scale_of k) x).reading, has_reading a q.2, leb-true (length text) (length buffer) q.3))

  had_no_room : number ≡ 1 → Known t k p d × ((r : Reading) × Reads t (scale_of k) r x × (length buffer < length (text_of p d r)))
  had_no_room e =
      let q = too_long ask (accepted t) range room (length text) e in
      let a = known q.0 q.1 in
      (a, ((stamp_at t (scale_of k) x).reading, has_reading a q.2, leb-false (length text) (length buffer) q.3))

  had_no_reading : number ≡ 7 → Known t k p d × ((r : Reading) → Reads t (scale_of k) r x → ⊥)
  had_no_reading e =
      let q = outside ask (accepted t) range room (length text) e in
      let a = known q.0 q.1 in
      (a, λ r h. let i = in_range_lem a r h in let o = q.2 in let z : ◌≡◌ {A = ℕ} 0 1 = cc in omega arith)

  pub written_exactly : WrittenExactly t k x p d buffer
  written_exactly =
      record {
        success = (was_written, λ w. ap (λ v. v.0) (its_bytes w.0 w.1.0 w.1.1 w.1.2).0);
        room = (had_no_room, λ w. is_too_long (length text) (asks w.0) w.0.a_table (in_range_lem w.0 w.1.0 w.1.1) (lt-leb (length text) (length buffer) (omega (arith, ap length (its_text w.0 w.1.0 w.1.1), w.1.2))));
        range = (had_no_reading, λ w. by_test range (λ e. absurd (w.1 _ (has_reading w.0 e))) (λ e. is_outside room (length text) (asks w.0) w.0.a_table e));
        as_text = λ r h e.
            let w = was_written e in
            let same = sym (its_text w.0 w.1.0 w.1.1) ∙ its_text w.0 r h in
            its_bytes w.0 r h (subst (λ (b : List ℕ). length b ≤ length buffer) same w.1.2);
        or_nothing = (writer (write_tests t x p k d) text buffer).or_nothing;
      }

-- ---- a text that is written

-- is that of the instant's reading
pub record Written (t : Table) (x : ℤ) (p k d : ℕ) (text : List ℕ) : Type 0 where
  pub known : Known t k p d
  pub reading : Reading
  pub reads : Reads t (scale_of k) reading x
  pub text_is : text ≡ text_of p d reading

pub written_is : (t : Table) (x : ℤ) (p k d : ℕ) (text : List ℕ) → WritesText t x p k d text → Written t x p k d text
written_is t x p k d text w =
    let call = written_exactly t k x p d w.buffer in
    let e : (written_results (write_text t x p k d w.buffer)).0 ≡ 0 = ap (λ v. v.0) w.answer in
    let g = call.success.0 e in
    let b = call.as_text g.1.0 g.1.1 e in
    record {
      known = g.0;
      reading = g.1.0;
      reads = g.1.1;
      text_is = sym w.bytes ∙ ap (take w.size) b.1 ∙ over_front (text_of p d g.1.0) w.buffer (ap (λ v. v.1) (sym b.0 ∙ w.answer));
    }

-- and each such text is written, to a buffer as long as it
pub is_written : (t : Table) (x : ℤ) (p k d : ℕ) (r : Reading) → Known t k p d → Reads t (scale_of k) r x → WritesText t x p k d (text_of p d r)
is_written t x p k d r a h =
    let text = text_of p d r in
    let b = its_bytes t k x p d text a r h (omega arith) in
    record { buffer = text; size = length text; answer = b.0; bytes = ap (take (length text)) b.1 ∙ over_front text text refl }
