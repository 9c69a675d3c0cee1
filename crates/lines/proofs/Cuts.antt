-- Pieces of a line: one held in a buffer, and one cut out of a chunk.
-- Assumes nothing.
use mathlib.Core.Path.{◌≡◌, sym, ap, ◌∙◌}
use mathlib.Core.Bool.{Bool, true, false}
use mathlib.Core.List.{List}
use Prim.Native.Nat.{ℕ, ◌+◌, ◌-◌, ◌≤◌, ◌<◌, min}
use native.Mathlib.Omega.{arith}
use borrow.Author.Tests.{lt-ltb, le-ltb}
use lib.Dec.{ltb}
use lib.ListN.{length, take, drop, length-take, drop_of_length-le}
use Rattle.laws.specs.Placed.{place}
use Rattle.laws.proofs.Cases.{by_order}
use Rattle.laws.proofs.Placed.{place_none, take_min}
use Rattle.digits.specs.Bytes.{Appended}
use Rattle.digits.proofs.Bytes.{placed}
use Rattle.lines.specs.declared.Cut.{Cut}
use Rattle.lines.specs.Words.{before}
use Rattle.lines.specs.Cuts.{piece_at, cut_at, held_in}
use Rattle.lines.proofs.Words.{before_front}

-- ---- held

abbrev Held : List ℕ → ℕ → List ℕ → ℕ → List ℕ → Type 0
Held line held piece r o = (r ≡ min (held + length piece) (length line)) × (o ≡ held_in line held piece)

module _ (line : List ℕ) (held : ℕ) (piece : List ℕ) where
  pub held_full : length line < held → Held line held piece (length line) line
  unfolding held_in
  held_full h = (omega arith, let z : length line - held ≡ 0 = omega arith in rw z (sym (place_none line held)))

  pub held_more : held ≤ length line → {n r : ℕ} {o : List ℕ} → n ≡ min (length line - held) (length piece) → Appended line held (take n piece) r o → Held line held piece r o
  unfolding held_in
  held_more h {n} {r} {o} e p =
      let k : length (take n piece) ≡ n = length-take n piece ∙ omega arith in
      let q = placed line held (take n piece) (omega arith) p in
      let m : n ≡ min (length piece) (length line - held) = omega arith in
      let t : take n piece ≡ take (length line - held) piece = ap (λ (i : ℕ). take i piece) m ∙ take_min (length line - held) piece in
      (q.end ∙ omega arith, q.text ∙ ap (place line held) t)

-- ---- cut

module _ (chunk : List ℕ) (from : ℕ) where
  -- what is past the end counts as the end
  clipped : drop (min from (length chunk)) chunk ≡ drop from chunk
  clipped =
      by_order from (length chunk)
      (λ l. let e : min from (length chunk) ≡ from = omega arith in ap (λ (i : ℕ). drop i chunk) e)
      (λ l. let e : length chunk ≤ min from (length chunk) = omega arith in drop_of_length-le chunk e ∙ sym (drop_of_length-le chunk l))

  module _ {first end : ℕ} (f : first ≡ min from (length chunk)) (e : end ≡ first + length (before 10 (drop first chunk))) (h : end ≤ length chunk) where
    piece_is : before 10 (drop first chunk) ≡ piece_at chunk from
    piece_is = ap (λ (i : ℕ). before 10 (drop i chunk)) f ∙ ap (before 10) clipped

    part_is : take (end - first) (drop first chunk) ≡ piece_at chunk from
    part_is =
        let k : end - first ≡ length (before 10 (drop first chunk)) = omega arith in
        ap (λ (i : ℕ). take i (drop first chunk)) k ∙ before_front 10 (drop first chunk) ∙ piece_is

    module _ (line : List ℕ) (held : ℕ) {len : ℕ} {o : List ℕ} (p : Held line held (take (end - first) (drop first chunk)) len o) where
      abbrev Taken : Cut → Type 0
      Taken r =
          ((r ≡ cut_at chunk from (length line) held) × (o ≡ held_in line held (piece_at chunk from))) × (r.at ≡ min (from + length (piece_at chunk from) + 1) (length chunk))

      -- the bytes held, with the piece by its name
      holds : Held line held (piece_at chunk from) len o
      holds = rw part_is at p

      taken : (at : ℕ) (ended : Bool) → at ≡ min (from + length (piece_at chunk from) + 1) (length chunk) → ended ≡ ltb (from + length (piece_at chunk from)) (length chunk) → Taken (record { at = at; len = len; ended = ended })
      unfolding cut_at
      taken at ended p q = ((let k = holds.0 in cc, holds.1), p)

      pub taken_whole : end < length chunk → Taken (record { at = end + 1; len = len; ended = true })
      taken_whole l =
          let k : length (before 10 (drop first chunk)) ≡ length (piece_at chunk from) = ap length piece_is in
          taken (end + 1) true (omega arith) (sym (lt-ltb (from + length (piece_at chunk from)) (length chunk) (omega arith)))

      pub taken_part : length chunk ≤ end → Taken (record { at = end; len = len; ended = false })
      taken_part l =
          let k : length (before 10 (drop first chunk)) ≡ length (piece_at chunk from) = ap length piece_is in
          taken end false (omega arith) (sym (le-ltb (from + length (piece_at chunk from)) (length chunk) (omega arith)))
