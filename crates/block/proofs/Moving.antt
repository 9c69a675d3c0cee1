-- What is promised of moves: a move is reading in one form and writing in another, and a move back gives what was there.
-- Assumes nothing.
use Prim.Native.Nat.{ℕ, ◌≤◌}
use mathlib.Core.Path.{◌≡◌, refl, sym, ap, subst, ◌∙◌}
use mathlib.Core.Bool.{true}
use mathlib.Core.List.{List, ◌++◌}
use borrow.Author.Tests.{lt-leb}
use lib.ListN.{length, take}
use Rattle.std.specs.Prelude.{Result, Ok, Err}
use Rattle.answer.specs.declared.Refusal.{Refusal}
use Rattle.laws.proofs.Cases.{and_l}
use Rattle.answer.specs.Buffers.{written_results}
use Rattle.answer.proofs.Orders.{number_some}
use Rattle.answer.proofs.Promise.{writer}
use Rattle.leap.specs.declared.Table.{Table}
use Rattle.leap.specs.Leap.{vouched_to, without_month, accepted}
use Rattle.leap.specs.Entries.{table_of, Good}
use Rattle.leap.specs.Readers.{found, table_results}
use Rattle.leap.specs.Outcomes.{Outcome, entered, fault, table_read}
use Rattle.leap.proofs.Vouched.{without_month_lem}
use Rattle.leap.proofs.Entries.{accepted_good}
use Rattle.leap.proofs.Readers.{was_entered}
use Rattle.block.specs.declared.Form.{Form}
use Rattle.block.specs.declared.Form.TheVariants.{Old, New}
use Rattle.block.specs.Blocks.{opening, block_in, block_tests, write_in, write_in_after}
use Rattle.block.specs.Reading.{in_form, read_in}
use Rattle.block.specs.Moves.{move_results, placed, rewritten, rewritten_after, move, move_after}
use Rattle.block.specs.Promise.{GivesTable, Held, MovesTo, MovesBlock, ThereAndBack, TheMoves, Moves}
use Rattle.block.proofs.Blocks.{block_same}
use Rattle.block.proofs.Faults.{form_fault}
use Rattle.block.proofs.Promise.{block_gives, given_is, was_fault, writes}

-- ---- one move

-- what writing answered, in numbers
placed_results : (w : Result ℕ Refusal) → move_results (placed w) ≡ ((written_results w).0, 0, (written_results w).1)
placed_results (Ok n) = refl
placed_results (Err why) = refl

module _ (form : Form) (s : List ℕ) (t : Table) (g : GivesTable form s t) where
  -- a table that is given is what was read
  given_read : read_in form s ≡ found t
  given_read = let w = was_entered (in_form form s) t g in ap table_read w.2 ∙ ap found w.3

  -- without its month it is good, where it is accepted with any
  given_good : (v : ℕ) → accepted (vouched_to v t) ≡ true → Good (without_month t)
  unfolding table_of
  given_good v =
      let w = was_entered (in_form form s) t g in
      subst (λ u. accepted (vouched_to v u) ≡ true → Good (without_month u)) w.3 (λ a. accepted_good w.1 (without_month_lem (table_of w.1) v a))

module _ (from to : Form) (v : ℕ) (s buffer : List ℕ) where
  -- a block that gives a table: the table is written with the month
  module _ (t : Table) (g : GivesTable from s t) where
    move_is : move from to v s buffer ≡ placed (write_in to (vouched_to v t) buffer)
    move_is = ap (λ r. rewritten to v r buffer) (given_read from s t g)

    after_is : move_after from to v s buffer ≡ write_in_after to (vouched_to v t) buffer
    after_is = ap (λ r. rewritten_after to v r buffer) (given_read from s t g)

    -- what the writing answered
    abbrev wrote : ℕ × ℕ
    wrote = written_results (write_in to (vouched_to v t) buffer)

    answers : {r : ℕ × ℕ} → wrote ≡ r → move_results (move from to v s buffer) ≡ (r.0, 0, r.1)
    answers e = ap move_results move_is ∙ placed_results (write_in to (vouched_to v t) buffer) ∙ ap (λ r. (r.0, 0, r.1)) e

    -- a success has the block of an accepted table in front
    was_moved : (n : ℕ) → move_results (move from to v s buffer) ≡ (0, 0, n) → (accepted (vouched_to v t) ≡ true) × (take n (move_after from to v s buffer) ≡ block_in to (vouched_to v t))
    was_moved n e =
        let w = writer (block_tests (vouched_to v t)) (block_in to (vouched_to v t)) buffer in
        let q : wrote ≡ (0, n) = ap (λ r. (r.0, r.2)) (sym (answers refl) ∙ e) in
        (and_l _ true ((w.succeeds n).0 q).0, ap (take n) after_is ∙ (w.writes_the_bytes n q).the_bytes)

  -- and its block gave a table
  was_read : {n : ℕ} → move_results (move from to v s buffer) ≡ (0, 0, n) → (t : Table) × GivesTable from s t
  was_read {n} = go (in_form from s)
    where
      go : (o : Outcome) → move_results (rewritten to v (table_read o) buffer) ≡ (0, 0, n) → (t : Table) × (table_results (table_read o) ≡ (0, 0, t))
      go (entered w es) e = (vouched_to w (table_of es), refl)
      go (fault why at) e = absurd (number_some why (ap (λ r. r.0) e))

  moves_block : MovesBlock from to v s buffer
  moves_block = record {
    refuses_the_block = λ why place e. ap (λ o. move_results (rewritten to v (table_read o) buffer)) (was_fault (in_form from s) (form_fault from s ∙ e));
    cannot_carry = λ t g a. answers t g (rw a);
    no_room = λ t g a l. answers t g (rw (a, lt-leb (length (block_in to (vouched_to v t))) (length buffer) l));
    where_it_fits = λ t g a l. let w = (writes to (vouched_to v t) buffer).where_it_fits a l in (answers t g w.0, after_is t g ∙ w.1);
    or_nothing = keeps (in_form from s);
  }
    where
      keeps : (o : Outcome) → ((move_results (rewritten to v (table_read o) buffer)).0 ≡ 0 → ⊥) → rewritten_after to v (table_read o) buffer ≡ buffer
      keeps (entered w es) h =
          let u = vouched_to v (table_of es) in
          (writes to u buffer).or_nothing (λ z. h (ap (λ r. r.0) (placed_results (write_in to u buffer)) ∙ z))
      keeps (fault why at) h = refl

-- ---- and back

-- what was moved is moved back, with the month of number w, into the block of the same entries
moved_back : (from to : Form) (v : ℕ) (s buffer : List ℕ) (t : Table) → GivesTable from s t → (n : ℕ) → move_results (move from to v s buffer) ≡ (0, 0, n) → Held to (vouched_to v t)
    → (w : ℕ) (other r : List ℕ) → accepted (vouched_to w t) ≡ true → block_in from (vouched_to w t) ≡ r → length r ≤ length other → MovesTo to from w other r (take n (move_after from to v s buffer))
moved_back from to v s buffer t g n e h w other r a q l =
    let u = vouched_to v t in
    subst (MovesTo to from w other r) (sym (was_moved from to v s buffer t g n e).1)
    (subst (λ x. length x ≤ length other → MovesTo to from w other x (block_in to u)) q ((moves_block to from w (block_in to u) other).where_it_fits u (block_gives to u h) a) l)

there_and_back : ThereAndBack
there_and_back = record {
  behind_the_opening = λ s t v h g. ap (λ x. opening New v ++ x) (block_same v t ∙ (given_is Old s t h g).1);
  old_new_old = λ s v n buffer other h e l.
      let r = was_read Old New v s buffer e in
      let t = r.0 in
      let a = (was_moved Old New v s buffer t r.1 n e).0 in
      let good = given_good Old s t r.1 v a in
      moved_back Old New v s buffer t r.1 n e (record { is_accepted = a; full_length = (good.months_long, good.offsets_long); month_fits = tt }) 0 other s good.is_accepted (block_same 0 t ∙ (given_is Old s t h r.1).1) l;
  new_old_new = λ s t v n buffer other g e a l.
      let good = given_good New s t g v a in
      moved_back New Old 0 s buffer t g n e (record { is_accepted = good.is_accepted; full_length = (good.months_long, good.offsets_long); month_fits = refl }) v other (block_in New (vouched_to v t)) a refl l;
  the_same_block = λ s t h g. (given_is New s t h g).1;
  none_is_carried = λ form s t h g. without_month_lem t t.vouched (given_is form s t h g).0.is_accepted;
}

the_moves : TheMoves
the_moves = record { renew_is = λ s v buffer. (refl, refl); revert_is = λ s buffer. (refl, refl) }

pub moves : Moves
moves = record { renews = λ s v. moves_block Old New v s; reverts = moves_block New Old 0; the_moves = the_moves; there_and_back = there_and_back }
