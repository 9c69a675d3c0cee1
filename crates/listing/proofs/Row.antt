-- A line of the listing: under an accepted table an admitted label has its instant, its picture and its TAI second.
-- Assumes nothing.
use mathlib.Core.Path.{◌≡◌, refl, sym, ap, ◌∙◌}
use mathlib.Core.Bool.{true}
use mathlib.Core.List.{List, [], ◌∷◌, ◌++◌, append_assoc, append-nil}
use Prim.Native.Nat.{ℕ, suc, ◌+◌, ◌*◌, ◌/◌, ◌≤◌}
use native.Mathlib.Omega.{arith}
use borrow.Author.Tests.{le-leb}
use lib.IntN.{ℤ, pos, negsuc, ◌+ℤ◌, ◌-ℤ◌, ◌*ℤ◌}
use lib.ListN.{length, drop, length-append, drop_of_length-le}
use lib.Signed.{quot_z}
use Rattle.std.specs.Prelude.{Ok, Err}
use Rattle.laws.proofs.Difference.{sum_is, diff_is, eq_from}
use Rattle.laws.proofs.Machine.{times_is}
use Rattle.answer.specs.declared.Refusal.{Refusal}
use Rattle.answer.proofs.Orders.{none_refused}
use Rattle.leap.specs.declared.Table.{Table}
use Rattle.leap.specs.Leap.{accepted, offset_at}
use Rattle.stamp.specs.declared.Scale.TheVariants.{Utc}
use Rattle.labels.specs.declared.Label.{Label}
use Rattle.labels.specs.declared.Reading.{Reading}
use Rattle.labels.specs.Labels.{label_tests, month_of, whole}
use Rattle.labels.specs.Seconds.{micro_of, second_of}
use Rattle.stamp.specs.Stamps.{instant_of}
use Rattle.stamp.specs.Scales.{instant_for}
use Rattle.stamp.specs.Promise.{stamp}
use Rattle.stamp.proofs.Scales.{instant_is}
use Rattle.stamp.proofs.Promise.{stamp_back, stamp_given}
use Rattle.clock.specs.Promise.{admits}
use Rattle.pictures.specs.Pictures.{picture_text}
use Rattle.text.specs.Text.{text_of, text_at, write_text_after}
use Rattle.digits.specs.Bytes.{Appended, Placed}
use Rattle.digits.specs.Decimals.{signed_text}
use Rattle.digits.proofs.Bytes.{placed, placed_then}
use Rattle.digits.proofs.Decimals.{signed_few}
use Rattle.listing.specs.Listing.{tai_second, row_text}

-- ---- whole seconds

millions : (z : ℤ) → quot_z (pos 1000000 *ℤ z) (pos 1000000) ≡ z
millions (pos n) = ap pos (omega arith)
millions (negsuc n) =
    let k : 1000000 * suc n ≡ suc (1000000 * n + 999999) = omega arith in
    let q : suc (1000000 * n + 999999) / 1000000 ≡ suc n = omega arith in
    rw (k, q)

pub picture_size : (r : Reading) → length (text_of 0 0 r) ≡ 19
unfolding picture_text
picture_size r = refl

pub tai_column : (t : Table) (l : Label) → pos 1000000 *ℤ tai_second t l ≡ instant_for t Utc (whole l)
unfolding tai_second
tai_column t l =
    let y : ℤ = pos (second_of l) +ℤ offset_at t (month_of l) in
    eq_from (pos 1000000 *ℤ (y -ℤ pos 63113947200)) (instant_for t Utc (whole l))
    (omega (arith, instant_is Utc (micro_of (whole l)) (offset_at t (month_of l)), times_is 1000000 (y -ℤ pos 63113947200), diff_is y (pos 63113947200), sum_is (pos (second_of l)) (offset_at t (month_of l))))

module _ (t : Table) (l : Label) (good : accepted t ≡ true) (there : admits t l ≡ true) where
  pub has_instant : instant_of t 0 (whole l) ≡ Ok (instant_for t Utc (whole l))
  unfolding instant_of
  has_instant = rw good (none_refused Err (label_tests (offset_at t) 60 (whole l)) (Ok (instant_for t Utc (whole l))) there)

  pub not_refused : {why : Refusal} → instant_of t 0 (whole l) ≡ Err why → ⊥
  not_refused {why} e =
      let q : Ok (instant_for t Utc (whole l)) ≡ Err why = sym has_instant ∙ e in
      let z : ◌≡◌ {A = ℕ} 0 1 = cc q in omega arith

  module _ {x : ℤ} (e : instant_of t 0 (whole l) ≡ Ok x) where
    pub tai_is : quot_z x (pos 1000000) ≡ tai_second t l
    tai_is =
        let q : x ≡ instant_for t Utc (whole l) = cc has_instant in
        ap (λ y. quot_z y (pos 1000000)) (q ∙ sym (tai_column t l)) ∙ millions (tai_second t l)

    -- the picture written to a buffer of its size
    pub picture_is : (buffer : List ℕ) → length buffer ≡ 19 → write_text_after t x 0 0 0 buffer ≡ text_of 0 0 (whole l)
    picture_is buffer n =
        let g = stamp_given t 0 x (stamp Utc (whole l)) (stamp_back t 0 (whole l) x e) in
        let v : text_at t x 0 0 0 ≡ text_of 0 0 (whole l) = ap (λ z. text_of 0 0 z.reading) g.1.1.1 in
        let k : length (text_of 0 0 (whole l)) ≡ 19 = picture_size (whole l) in
        let d : drop (length (text_of 0 0 (whole l))) buffer ≡ [] = drop_of_length-le buffer {i = length (text_of 0 0 (whole l))} (omega arith) in
        rw (v, good, g.1.1.0, le-leb (length (text_of 0 0 (whole l))) (length buffer) (omega arith), d) (append-nil (text_of 0 0 (whole l)))

-- ---- a line is four texts

module _ (t : Table) (l : Label) (out : List ℕ) (at : ℕ) (room : at + 42 ≤ length out) {s : List ℕ} {z : ℤ} (p : s ≡ text_of 0 0 (whole l)) (q : z ≡ tai_second t l) where
  row_few : length (row_text t l) ≤ 42
  unfolding row_text
  row_few = let n = signed_few (tai_second t l) in let k = picture_size (whole l) in simp length-append (omega arith)

  pub row_placed : {a b c r : ℕ} {o₁ o₂ o₃ o₄ : List ℕ} → Appended out at s a o₁ → Appended o₁ a (32 ∷ []) b o₂ → Appended o₂ b (signed_text z) c o₃ → Appended o₃ c (10 ∷ []) r o₄
      → Placed out at (row_text t l) r o₄ × (r ≤ at + 42)
  unfolding row_text
  row_placed {r = r} {o₄ = o₄} w x y v =
      let n = signed_few z in
      let k : length s ≡ 19 = ap length p ∙ picture_size (whole l) in
      let one = placed out at s (omega arith) w in
      let two = placed_then out at s (32 ∷ []) one (omega arith) x in
      let k2 : length (s ++ 32 ∷ []) ≡ 20 = simp length-append (omega arith) in
      let three = placed_then out at (s ++ 32 ∷ []) (signed_text z) two (omega arith) y in
      let k3 : length ((s ++ 32 ∷ []) ++ signed_text z) ≡ 20 + length (signed_text z) = simp length-append (omega arith) in
      let four = placed_then out at ((s ++ 32 ∷ []) ++ signed_text z) (10 ∷ []) three (omega arith) v in
      let g : ((s ++ 32 ∷ []) ++ signed_text z) ++ 10 ∷ [] ≡ row_text t l = rw (append_assoc (s ++ 32 ∷ []) (signed_text z) (10 ∷ []), append_assoc s (32 ∷ []), p, q) in
      let all : Placed out at (row_text t l) r o₄ = rw g at four in
      (all, omega (arith, all.end, row_few))
