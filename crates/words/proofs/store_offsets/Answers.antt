-- The loop lays the words of the offsets over what stands there, one a turn.
use mathlib.Core.Path.{◌≡◌, sym, ap, ◌∙◌}
use mathlib.Core.List.{map}
use native.Mathlib.Omega.{arith}
use lib.IntN.{pos}
use lib.ListN.{length, get_or, length-map, get_or-map}
use mir.Syntax.{w32}
use mir.Facts.{to_z-of_z}
use borrow.Author.Rules.{rules}
use Rattle.words.specs.Words.{offset_word}
use Rattle.words.proofs.Laid.{laid_none, laid_next, laid_all}
use Rattle.words.proofs.store_offsets.Goals as goal
use Rattle.words.proofs.store_offsets.Goals.{Start}

words_long : (c : goal.Start) → length (map offset_word c.args.offsets) ≡ 64
words_long c = length-map c.args.offsets offset_word ∙ search rules

pub loop-k-init : goal.loop-k-init
loop-k-init c = laid_none c.args.out.now 65 (map offset_word c.args.offsets) (omega (arith, words_long (goal.at.loop-k-init c).Start))

pub loop-k-preserved : goal.loop-k-preserved
loop-k-preserved c =
    laid_next 0 c.loop-k.invariant (omega (arith, words_long (goal.at.loop-k-preserved c).Start))
    (c.cast_unsigned.ensures
    ∙ ap offset_word (to_z-of_z {w = w32} {z = get_or c.args.offsets c.loop-k.k (pos 0)} (search rules))
    ∙ sym (get_or-map offset_word c.args.offsets c.loop-k.k (pos 0)))

pub returns : goal.returns
returns c = laid_all c.loop-k.invariant (omega (arith, words_long (goal.at.returns c).Start))
