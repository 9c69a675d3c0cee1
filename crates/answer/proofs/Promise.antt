-- What is promised of every writer is kept.
-- Assumes nothing.
use mathlib.Core.Path.{◌≡◌, refl, ap, ◌∙◌}
use mathlib.Core.Bool.{Bool, true}
use mathlib.Core.List.{List, [], ◌∷◌}
use Prim.Native.Nat.{ℕ, ◌≤◌}
use native.Mathlib.Omega.{arith}
use borrow.Author.Tests.{le-leb}
use lib.Dec.{leb}
use lib.ListN.{length, take, drop}
use Rattle.std.specs.Prelude.{Result, Ok, Err}
use Rattle.laws.proofs.Cases.{join}
use Rattle.laws.proofs.Placed.{length_over, over_front, over_rest}
use Rattle.answer.specs.declared.Refusal.{Refusal}
use Rattle.answer.specs.declared.Refusal.TheVariants.{Room as ROOM}
use Rattle.answer.specs.Refusals.{all_pass}
use Rattle.answer.specs.Buffers.{room_last, written, buffer_after, written_results}
use Rattle.answer.specs.Promise.{Kept, Writer}
use Rattle.answer.proofs.Orders.{none_refused, pass_append}
use Rattle.answer.proofs.Writers.{wrote, refused_keeps, fits, no_refusal, wrote_over}

not_wrote : (a : Result ℕ Refusal) → ((written_results a).0 ≡ 0 → ⊥) → (why : Refusal) × (a ≡ Err why)
not_wrote (Ok m) h = absurd (h refl)
not_wrote (Err why) h = (why, refl)

module _ (tests : List (Bool × Refusal)) (bytes buffer : List ℕ) where
  kept : (n : ℕ) → written_results (written tests bytes buffer) ≡ (0, n) → Kept bytes buffer (buffer_after tests bytes buffer) n
  kept n e =
      let w = wrote_over tests bytes buffer n (wrote (written tests bytes buffer) n e) in
      let is = w.1.1 in
      record {
        the_bytes = ap (take n) is ∙ over_front bytes buffer w.0;
        the_rest = ap (drop n) is ∙ over_rest bytes buffer w.0;
        the_length = ap length is ∙ length_over bytes buffer w.1.0;
      }

  there : (n : ℕ) → written_results (written tests bytes buffer) ≡ (0, n) → (all_pass tests ≡ true) × (length bytes ≡ n) × (n ≤ length buffer)
  there n e =
      let p = no_refusal tests bytes buffer n (wrote (written tests bytes buffer) n e) in
      let f = fits tests bytes buffer p.0 in
      (f.0, p.1, omega (arith, f.1, p.1))

  back : (n : ℕ) → (all_pass tests ≡ true) × (length bytes ≡ n) × (n ≤ length buffer) → written_results (written tests bytes buffer) ≡ (0, n)
  back n h =
      let room = le-leb (length bytes) (length buffer) (omega (arith, h.1, h.2)) in
      ap written_results
      (none_refused Err (room_last tests bytes buffer) (Ok (length bytes)) (pass_append tests ((leb (length bytes) (length buffer), ROOM) ∷ []) ∙ join h.0 (join room refl)))
      ∙ ap (λ m. (0, m)) h.1

  pub writer : Writer tests bytes buffer
  writer =
      record {
        succeeds = λ n. (there n, back n);
        writes_the_bytes = kept;
        or_nothing = λ h. let r = not_wrote (written tests bytes buffer) h in refused_keeps tests bytes buffer r.0 r.1;
      }
