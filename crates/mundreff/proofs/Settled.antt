-- The contract of `mundreff_write_text` settles the call. It is here, beside its function, so that an edit that loosens the one is held against the other.
-- Assumes nothing.
use mathlib.Core.List.{List}
use Prim.Native.Nat.{ℕ}
use lib.IntN.{ℤ}
use Rattle.text.specs.Text.{write_text_after}
use Rattle.text.specs.Marks.{write_text_marked}
use Rattle.mundreff.specs.Answers.{length_with_marks}
use Rattle.words.specs.Words.{table_from}
use Rattle.laws.specs.Settles.{◌&◌, Lent, Shown, ◌becomes◌, LeavesThree, also_three}
use Rattle.laws.proofs.Settles.{beside_three}
use Rattle.mundreff.proofs.mundreff_write_text.Reads as write_text_lem

pub write_text_settled : (table : Shown (List ℕ)) (instant : ℤ) (picture scale digits : ℕ) (out : Lent (List ℕ)) (length marks : Lent ℕ)
    → LeavesThree write_text_lem.Pre write_text_lem.Post (table & instant & picture & scale & digits & out & length & marks & tt)
    (λ n m bytes. table & instant & picture & scale & digits & out becomes bytes & length becomes n & marks becomes m & tt)
    (also_three (length_with_marks (write_text_marked (table_from table.now) instant picture scale digits out.now)) (write_text_after (table_from table.now) instant picture scale digits out.now))
write_text_settled table instant picture scale digits out length marks lifetimes = beside_three
