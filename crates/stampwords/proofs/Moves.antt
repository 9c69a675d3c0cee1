-- What is written for an instant: its text has room, so a refusal is one of those that the scope lists before ROOM.
-- Assumes nothing.
use mathlib.Core.Path.{◌≡◌, refl, ap, ◌∙◌}
use mathlib.Core.Bool.{Bool, true, false, cond, ◌||◌, ◌&&◌}
use mathlib.Core.List.{List, [], ◌∷◌}
use Prim.Native.Nat.{ℕ, ◌+◌, ◌≤◌, min}
use native.Mathlib.Omega.{arith}
use borrow.Author.Tests.{le-leb, leb-true}
use lib.Dec.{eqb, leb}
use lib.IntN.{ℤ}
use lib.ListN.{length, take, replicate}
use Rattle.std.specs.Prelude.{Result, Ok, Err}
use Rattle.answer.specs.declared.Refusal.{Refusal}
use Rattle.answer.specs.declared.Refusal.TheVariants.{Room as ROOM, Range as RANGE, Ask as ASK, Table as TABLE}
use Rattle.answer.specs.Refusals.{refusing}
use Rattle.answer.proofs.Orders.{refusing_map}
use Rattle.answer.proofs.Writers.{wrote_over}
use Rattle.laws.proofs.Cases.{and_l}
use Rattle.laws.proofs.Placed.{over_front, take_min}
use Rattle.leap.specs.declared.Table.{Table}
use Rattle.leap.specs.Leap.{accepted}
use Rattle.stamp.specs.Scales.{scale_of, known_scale}
use Rattle.stamp.specs.Back.{in_range, stamp_at}
use Rattle.stamp.specs.Marks.{beyond_at}
use Rattle.stamp.specs.declared.Stamp.{Stamp}
use Rattle.text.specs.Text.{write_tests, text_at, write_text, write_text_after}
use Rattle.text.proofs.Exactly.{sized}
use Rattle.phrases.specs.Replies.{Reply, answering, refusal}
use Rattle.seconds.specs.declared.Move.{Move}
use Rattle.seconds.specs.Seconds.{moved_by}
use Rattle.stampwords.specs.Stamps.{stamp_read}
use Rattle.stampwords.specs.Moves.{clock_text, shown_reply, moved_reply}

-- a last test that holds where the first does changes nothing
last_holds : {A : Type 0} (refuse : Refusal → A) (a b d r : Bool) (u v w : Refusal) (x : A) → (a ≡ true → r ≡ true)
    → refusing refuse ((a, u) ∷ (b, v) ∷ (d, w) ∷ (r, ROOM) ∷ []) x ≡ refusing refuse ((a, u) ∷ (b, v) ∷ (d, w) ∷ []) x
last_holds refuse false b d r u v w x h = refl
last_holds refuse true false d r u v w x h = refl
last_holds refuse true true false r u v w x h = refl
last_holds refuse true true true r u v w x h = rw (h refl)

few : (b : Bool) (digits : ℕ) → digits ≤ 6 → cond b 0 (1 + digits) ≤ 7
few true digits h = omega arith
few false digits h = omega arith

-- what a written answer says in words
abbrev pub in_words : Table → List ℕ → ℤ → ℕ → ℕ → Bool → Result ℕ Refusal → Reply
in_words t line x k digits mark (Ok n) = answering (clock_text k (text_at t x 0 k digits) (mark || beyond_at t (scale_of k) x))
in_words t line x k digits mark (Err why) = refusal why line

module _ (t : Table) (x : ℤ) (k digits : ℕ) where
  room : (leb 0 2 && (leb digits 6 && known_scale k)) ≡ true → leb (length (text_at t x 0 k digits)) 27 ≡ true
  room e =
      let d : digits ≤ 6 = leb-true digits 6 (and_l (leb digits 6) (known_scale k) e) in
      le-leb (length (text_at t x 0 k digits)) 27 (omega (arith, sized 0 digits (stamp_at t (scale_of k) x).reading (omega arith) d, few (eqb digits 0) digits d))

  pub shown_is : (line : List ℕ) (mark : Bool) → in_words t line x k digits mark (write_text t x 0 k digits (replicate 27 0)) ≡ shown_reply t line x k digits mark
  unfolding shown_reply
  shown_is line mark =
      ap (in_words t line x k digits mark) (last_holds Err (leb 0 2 && (leb digits 6 && known_scale k)) (accepted t) (in_range t (scale_of k) x) (leb (length (text_at t x 0 k digits)) 27) ASK TABLE RANGE (Ok (length (text_at t x 0 k digits))) room)
      ∙ refusing_map (in_words t line x k digits mark) Err (write_tests t x 0 k digits) (Ok (length (text_at t x 0 k digits)))

  -- the bytes that a success leaves in front are the text
  pub text_is : (n : ℕ) {e : ℕ} {after : List ℕ} → write_text t x 0 k digits (replicate 27 0) ≡ Ok n → after ≡ write_text_after t x 0 k digits (replicate 27 0) → e ≡ min n (length after)
      → take e after ≡ text_at t x 0 k digits
  text_is n {e} {after} w p q =
      let o = wrote_over (write_tests t x 0 k digits) (text_at t x 0 k digits) (replicate 27 0) n w in
      let m : e ≡ min (length after) n = omega arith in
      rw m (take_min n after ∙ rw (p, o.1.1) (over_front (text_at t x 0 k digits) (replicate 27 0) o.0))

-- a stamp that is read is moved, and shown with its mark
pub moved_is : (t : Table) (line given : List ℕ) (m : Move) (k digits : ℕ) {x y : ℤ} {z : Stamp} {mark : Bool} → (stamp_read t given).answer ≡ Ok (x, z) → mark ≡ (stamp_read t given).beyond → y ≡ moved_by m x
    → shown_reply t line y k digits mark ≡ moved_reply t line given m k digits
unfolding moved_reply
moved_is t line given m k digits p q r = rw (p, ← q, r)
