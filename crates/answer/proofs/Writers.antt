-- What any writer leaves in its buffer: after a refusal every byte, after a success the bytes in front and its own past them.
-- Assumes nothing.
use mathlib.Core.Path.{◌≡◌, refl, sym, ap, ◌∙◌}
use mathlib.Core.Bool.{Bool, true, false, cond}
use mathlib.Core.List.{List, [], ◌∷◌}
use Prim.Native.Nat.{ℕ, ◌≤◌}
use native.Mathlib.Omega.{arith}
use borrow.Author.Tests.{leb-true}
use lib.Dec.{leb}
use lib.ListN.{length}
use Rattle.std.specs.Prelude.{Result, Ok, Err}
use Rattle.laws.specs.Placed.{over}
use Rattle.laws.proofs.Cases.{both, and_l}
use Rattle.answer.specs.declared.Refusal.{Refusal}
use Rattle.answer.specs.declared.Refusal.TheVariants.{Room as ROOM}
use Rattle.answer.specs.Refusals.{refusing, all_pass}
use Rattle.answer.specs.Buffers.{room_last, written, buffer_after, written_results}
use Rattle.answer.proofs.Orders.{none_refused, pass_append, was_passed, number_some}

-- a success in the scope's numbers
pub wrote : (a : Result ℕ Refusal) (n : ℕ) → written_results a ≡ (0, n) → a ≡ Ok n
wrote (Ok m) n e = ap (λ v. Ok v.1) e
wrote (Err why) n e = absurd (number_some why (ap (λ v. v.0) e))

keeps : {A : Type 0} (tests : List (Bool × Refusal)) (n : ℕ) (new old : A) (why : Refusal) → refusing Err tests (Ok n) ≡ Err why → refusing (λ r. old) tests new ≡ old
keeps [] n new old why e = let z : ◌≡◌ {A = ℕ} 0 1 = cc in absurd (omega arith)
keeps (test ∷ tests) n new old why e = go test.0 e (λ q. keeps tests n new old why q)
  where
    go : (b : Bool) → cond b (refusing Err tests (Ok n)) (Err test.1) ≡ Err why → (refusing Err tests (Ok n) ≡ Err why → refusing (λ r. old) tests new ≡ old) → cond b (refusing (λ r. old) tests new) old ≡ old
    go true q ih = ih q
    go false q ih = refl

module _ (tests : List (Bool × Refusal)) (bytes buffer : List ℕ) where
  pub refused_keeps : (why : Refusal) → written tests bytes buffer ≡ Err why → buffer_after tests bytes buffer ≡ buffer
  refused_keeps why e = keeps (room_last tests bytes buffer) (length bytes) (over bytes buffer) buffer why e

  pub fits : all_pass (room_last tests bytes buffer) ≡ true → (all_pass tests ≡ true) × (length bytes ≤ length buffer)
  fits e =
      let p = both (all_pass tests) _ (sym (pass_append tests ((leb (length bytes) (length buffer), ROOM) ∷ [])) ∙ e) in
      (p.0, leb-true _ _ (and_l _ true p.1))

  pub no_refusal : (n : ℕ) → written tests bytes buffer ≡ Ok n → (all_pass (room_last tests bytes buffer) ≡ true) × (length bytes ≡ n)
  no_refusal n e =
      let p = was_passed Err (room_last tests bytes buffer) (Ok (length bytes)) (Ok n) (λ why q. let z : ◌≡◌ {A = ℕ} 0 1 = cc in omega arith) e in
      (p.0, cc)

  pub wrote_over : (n : ℕ) → written tests bytes buffer ≡ Ok n → (length bytes ≡ n) × ((length bytes ≤ length buffer) × (buffer_after tests bytes buffer ≡ over bytes buffer))
  wrote_over n e =
      let p = no_refusal n e in
      (p.1, ((fits p.0).1, none_refused (λ why. buffer) (room_last tests bytes buffer) (over bytes buffer) p.0))
