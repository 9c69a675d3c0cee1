-- The texts of a listing in a buffer with room for them.
-- Assumes nothing.
use mathlib.Core.Path.{◌≡◌, ap, ◌∙◌}
use mathlib.Core.List.{List, [], ◌∷◌, ◌++◌, append_assoc}
use Prim.Native.Nat.{ℕ, ◌+◌, ◌*◌, ◌≤◌}
use native.Mathlib.Omega.{arith}
use lib.ListN.{length, length-append}
use Rattle.answer.specs.declared.Refusal.{Refusal}
use Rattle.answer.specs.Refusals.{number}
use Rattle.digits.specs.Bytes.{Appended, Placed}
use Rattle.digits.specs.Decimals.{decimal_text}
use Rattle.digits.proofs.Bytes.{placed, placed_then, then_placed}
use Rattle.digits.proofs.Decimals.{decimal_few}
use Rattle.listing.specs.Listing.{refused_word, refusal_text, header}

module _ (out : List ℕ) where
  module _ (why : Refusal) (room : 29 ≤ length out) {n : ℕ} (p : n ≡ number why) where
    pub refusal_placed : {a b r : ℕ} {o₁ o₂ o₃ : List ℕ} → Appended out 0 refused_word a o₁ → Appended o₁ a (decimal_text n) b o₂ → Appended o₂ b (10 ∷ []) r o₃ → Placed out 0 (refusal_text why) r o₃
    unfolding refusal_text
    refusal_placed {r = r} {o₃ = o₃} x y z =
        let few = decimal_few n in
        let one = placed out 0 refused_word (omega arith) x in
        let two = placed_then out 0 refused_word (decimal_text n) one (omega arith) y in
        let k : length (refused_word ++ decimal_text n) ≡ 8 + length (decimal_text n) = length-append refused_word (decimal_text n) in
        let all = placed_then out 0 (refused_word ++ decimal_text n) (10 ∷ []) two (omega arith) z in
        let g : (refused_word ++ decimal_text n) ++ 10 ∷ [] ≡ refusal_text why = append_assoc refused_word (decimal_text n) (10 ∷ []) ∙ ap (λ (m : ℕ). refused_word ++ (decimal_text m ++ 10 ∷ [])) p in
        rw g at all

  module _ (n : ℕ) {at : ℕ} {o : List ℕ} (room : 8 + 42 * n ≤ length out) (x : Appended out 0 header at o) where
    header_placed : Placed out 0 header at o
    header_placed = placed out 0 header (omega arith) x

    pub room_left : at + 42 * n ≤ length o
    room_left = omega (arith, header_placed.end, header_placed.size)

    pub after_header : (rows : List ℕ) {r : ℕ} {o' : List ℕ} → Placed o at rows r o' → Placed out 0 (header ++ rows) r o'
    after_header rows p = then_placed out 0 header rows header_placed p
