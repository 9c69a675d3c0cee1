-- The loop lays the numbers of the words over zeros, one a turn.
use mathlib.Core.Path.{◌≡◌, sym, ap, ◌∙◌}
use mathlib.Core.List.{List, map}
use Prim.Native.Nat.{ℕ, ◌+◌, ◌<◌}
use native.Mathlib.Omega.{arith}
use lib.IntN.{pos}
use lib.ListN.{length, replicate, get_or, length-map, get_or-map}
use mir.Syntax.{w32}
use mir.Facts.{to_z-of_z}
use Rattle.words.specs.Words.{words_at, offset_from}
use Rattle.words.proofs.Laid.{laid_none, laid_first, laid_all, place_whole}
use Rattle.words.proofs.Words.{length_at, at_is}
use Rattle.words.proofs.offsets_of.Goals as goal

long : (words : List ℕ) → length (map offset_from (words_at 65 64 words)) ≡ 64
long words = length-map (words_at 65 64 words) offset_from ∙ length_at 65 64 words

offset_at : (words : List ℕ) (k : ℕ) → k < 64 → get_or (map offset_from (words_at 65 64 words)) k (pos 0) ≡ offset_from (get_or words (65 + k) 0)
offset_at words k h = get_or-map offset_from (words_at 65 64 words) k 0 ∙ ap offset_from (at_is 65 64 words k h)

pub loop-k-init : goal.loop-k-init
loop-k-init c = laid_none (replicate 64 (pos 0)) 0 (map offset_from (words_at 65 64 c.args.words.now)) (omega (arith, long c.args.words.now))

pub loop-k-preserved : goal.loop-k-preserved
loop-k-preserved c =
    let words = c.args.words.now in
    laid_first (pos 0) c.loop-k.invariant (omega (arith, long words))
    (to_z-of_z {w = w32} (record { sfits = c.cast_signed.type_inv }) ∙ c.cast_signed.ensures ∙ sym (offset_at words c.loop-k.k c.loop-k-test.true))

pub returns : goal.returns
returns c =
    let words = c.args.words.now in
    laid_all c.loop-k.invariant (omega (arith, long words)) ∙ place_whole (replicate 64 (pos 0)) (map offset_from (words_at 65 64 words)) (long words)
