-- What is promised of blocks: in each form they match the tables that it holds one to one, what reading and writing answers, and that the forms are told apart.
-- Assumes nothing.
use Prim.Native.Nat.{ℕ, ◌<◌}
use mathlib.Core.Path.{◌≡◌, refl, sym, ap, ap₂, subst, ◌∙◌}
use mathlib.Core.Logic.{◌⊎◌, inl, inr, ⊎_elim}
use mathlib.Core.List.{List, [], ◌∷◌, ◌++◌}
use native.Mathlib.Omega.{arith}
use lib.ListN.{length}
use lib.Dec.{eqb, lit<}
use borrow.Author.Tests.{lt-leb, le-leb, ne_eqb, eqb-true, eqb-false}
use Rattle.std.specs.Prelude.{Ok}
use Rattle.laws.proofs.Cases.{by_test}
use Rattle.answer.specs.declared.Refusal.{Refusal}
use Rattle.answer.specs.declared.Refusal.TheVariants.{Table as TABLE}
use Rattle.answer.specs.Refusals.{number}
use Rattle.answer.proofs.Orders.{number_some, numbers_differ}
use Rattle.answer.proofs.Promise.{writer}
use Rattle.leap.specs.declared.Table.{Table}
use Rattle.leap.specs.Leap.{vouched_to, without_month}
use Rattle.leap.specs.Entries.{Entry, entries, table_of, Good}
use Rattle.leap.specs.Readers.{no_table, table_results}
use Rattle.leap.specs.Outcomes.{Outcome, entered, fault, table_read}
use Rattle.leap.proofs.Facts.{accepted_to}
use Rattle.leap.proofs.Vouched.{without_month_lem}
use Rattle.leap.proofs.Entries.{entries_same, table_is}
use Rattle.leap.proofs.Readers.{was_entered}
use Rattle.block.specs.declared.Form.{Form}
use Rattle.block.specs.declared.Form.TheVariants.{Old, New}
use Rattle.block.specs.Numbers.{number_bytes}
use Rattle.block.specs.Blocks.{step_number, step_bytes, block_of, opening, block_in, block_tests}
use Rattle.block.specs.Faults.{within, no_fault, fault_at, first_fault}
use Rattle.block.specs.Reading.{read_groups, in_block, in_vouched, in_form, read_in, form_of}
use Rattle.block.specs.Promise.{Bytes, GivesTable, Held, OneToOne, ReadsBlock, WritesBlock, Apart, TheCalls, Blocks}
use Rattle.block.proofs.Numbers.{read_written, zero_byte, bytes_append, bytes_groups}
use Rattle.block.proofs.Reading.{within_is}
use Rattle.block.proofs.Blocks.{block_same}
use Rattle.block.proofs.Faults.{fault_of, form_fault}
use Rattle.block.proofs.Held.{opened, form_back, not_entered, was_number, BlockIs, form_only}

-- ---- one to one

-- a block is bytes
steps_bytes : (es : List Entry) → Bytes (step_bytes es)
unfolding step_bytes
steps_bytes [] = λ i. lit< tt
steps_bytes (e ∷ []) = λ i. lit< tt
steps_bytes (e ∷ f ∷ es) = bytes_append (number_bytes (step_number e f)) (step_bytes (f ∷ es)) (bytes_groups 3 (step_number e f)) (steps_bytes (f ∷ es))

opening_bytes : (form : Form) (v : ℕ) → Bytes (opening form v)
opening_bytes Old v = λ i. lit< tt
opening_bytes New v = bytes_append (number_bytes 0) (number_bytes v) (bytes_groups 3 0) (bytes_groups 3 v)

block_bytes : (form : Form) (t : Table) → Bytes (block_in form t)
unfolding block_of
block_bytes form t = bytes_append (opening form t.vouched) (block_of t) (opening_bytes form t.vouched) (bytes_append (number_bytes t.count) (step_bytes (entries t)) (bytes_groups 3 t.count) (steps_bytes (entries t)))

-- a table that a form holds is that of its entries under its month
held_table : (form : Form) (t : Table) → Held form t → vouched_to t.vouched (table_of (entries t)) ≡ t
held_table form t h =
    let g : Good (without_month t) = record { is_accepted = without_month_lem t t.vouched h.is_accepted; no_month = refl; months_long = h.full_length.0; offsets_long = h.full_length.1 } in
    ap (λ es. vouched_to t.vouched (table_of es)) (sym (entries_same 0 t)) ∙ ap (vouched_to t.vouched) (table_is g)

-- the same outcome is the same answer
answered : {o p : Outcome} → o ≡ p → table_results (table_read o) ≡ table_results (table_read p)
answered e = ap (λ o. table_results (table_read o)) e

module _ (form : Form) where
  -- the block of a table gives it, and only that
  pub block_gives : (t : Table) → Held form t → GivesTable form (block_in form t) t
  block_gives t h = answered (form_back form t h) ∙ ap (λ u. (0, 0, u)) (held_table form t h)

  pub given_is : (s : List ℕ) (t : Table) → Bytes s → GivesTable form s t → BlockIs form s t
  given_is s t h e =
      let w = was_entered (in_form form s) t e in
      subst (BlockIs form s) w.3 (form_only form s h w.2)

  one_table : (t u : Table) → Held form t → Held form u → block_in form t ≡ block_in form u → t ≡ u
  one_table t u g h e = ap (λ r. r.2) (sym (block_gives t g) ∙ ap (λ s. table_results (read_in form s)) e ∙ block_gives u h)

  one_to_one : OneToOne form
  one_to_one = record {
    gives_the_table_of_the_block = λ s t. (λ h. given_is s t h.0 h.1, λ h. subst (λ r. Bytes r × GivesTable form r t) h.1 (block_bytes form t, block_gives t h.0));
    one_table_a_block = one_table;
    one_block_a_table = λ r s t g h p q. sym (given_is r t g p).1 ∙ (given_is s t h q).1;
  }

-- ---- reading and writing

-- a fault is that of what was read
pub was_fault : {why : Refusal} {place : ℕ} (o : Outcome) → fault_of o ≡ fault_at why place → o ≡ fault why place
was_fault (entered v es) e = let z : ◌≡◌ {A = ℕ} 0 1 = cc in absurd (omega arith)
was_fault {why} {place} (fault other at) e = let f : other ≡ why = cc in let g : at ≡ place = cc in rw (f, g)

-- what was read, by its fault
reads : (form : Form) (s : List ℕ) → ReadsBlock form s
reads form s = record {
  gives_a_table = (λ g. sym is ∙ ap fault_of (was_entered (in_form form s) g.0 g.1).2, λ e. found (in_form form s) (is ∙ e));
  refuses = λ why place. (λ e. sym is ∙ refused (in_form form s) e, λ e. answered (was_fault (in_form form s) (is ∙ e)));
}
  where
    is : fault_of (in_form form s) ≡ first_fault form s
    is = form_fault form s

    found : (o : Outcome) → fault_of o ≡ no_fault → (t : Table) × (table_results (table_read o) ≡ (0, 0, t))
    found (entered v es) e = (vouched_to v (table_of es), refl)
    found (fault why at) e = let z : ◌≡◌ {A = ℕ} 0 1 = cc in absurd (omega arith)

    refused : {why : Refusal} {place : ℕ} (o : Outcome) → table_results (table_read o) ≡ (number why, place, no_table) → fault_of o ≡ fault_at why place
    refused {why} (entered v es) e = absurd (number_some why (ap (λ x. x.0) (sym e)))
    refused {why} (fault other at) e = ap₂ fault_at (numbers_differ other why (ap (λ x. x.0) e)) (ap (λ x. x.1) e)

pub writes : (form : Form) (t : Table) (buffer : List ℕ) → WritesBlock form t buffer
writes form t buffer =
    record { where_it_fits = λ a l. rw (a, le-leb (length (block_in form t)) (length buffer) l) (refl, refl); or_nothing = (writer (block_tests t) (block_in form t) buffer).or_nothing }

-- ---- the two forms

-- the old reader does not pass the byte 0
old_zero : (s : List ℕ) → in_form Old (0 ∷ s) ≡ fault TABLE 0
unfolding in_block read_groups
old_zero s = refl

-- nor the new one another number
new_other : (s : List ℕ) {n size : ℕ} → read_groups 3 s ≡ Ok (n, size) → 0 < n → in_form New s ≡ fault TABLE 0
new_other s {n} e l = rw (e, le-leb 0 n (omega arith), lt-leb n 0 l)

-- a form in which entries are found is that of the first number
own_form : (form : Form) (s : List ℕ) {w : ℕ} {es : List Entry} → in_form form s ≡ entered w es → form ≡ form_of s
unfolding read_groups
own_form Old [] e = refl
own_form New [] e = absurd (not_entered e)
own_form Old (b ∷ s) e =
    by_test (eqb b 0)
    (λ t. absurd (not_entered (sym (old_zero s) ∙ rw (eqb-true b 0 t) at e)))
    (λ t. rw t)
own_form New (b ∷ s) e =
    by_test (eqb b 0) (λ t. rw t)
    (λ t.
    let m = was_number 0 (within 0 0) (λ n size. in_vouched s) (b ∷ s) e in
    absurd (eqb-false b 0 t (zero_byte 2 b s m.is_read (omega (arith, within_is 0 0 m.n m.right)))))

told_apart : Apart
unfolding block_of
told_apart = record {
  old_reader = λ t. answered (ap (in_form Old) (opened t.vouched (block_of t)) ∙ old_zero (number_bytes t.vouched ++ block_of t));
  new_reader = λ t g.
      let a = accepted_to t g in
      answered (new_other (block_of t) (read_written 2 t.count (step_bytes (entries t)) (omega (arith, a.few))) a.some_entry);
  begins_with_0 = λ s. refl;
  begins_otherwise = λ b s h. rw (ne_eqb b 0 h);
  empty = refl;
  either = λ s t. (one_of (form_of s) s t, ⊎_elim (the_own Old s t) (the_own New s t));
}
  where
    one_of : (form : Form) (s : List ℕ) (t : Table) → GivesTable form s t → GivesTable Old s t ⊎ GivesTable New s t
    one_of Old s t e = inl e
    one_of New s t e = inr e

    the_own : (form : Form) (s : List ℕ) (t : Table) → GivesTable form s t → GivesTable (form_of s) s t
    the_own form s t e = subst (λ f. GivesTable f s t) (own_form form s (was_entered (in_form form s) t e).2) e

the_calls : TheCalls
the_calls = record { reads_old = λ s. refl; reads_new = λ s. refl; writes_old = λ t buffer. (refl, refl); writes_new = λ t buffer. (refl, refl) }

pub blocks : Blocks
blocks = record { one_to_one = one_to_one; reads = reads; writes = writes; drops_the_month = block_same; told_apart = told_apart; the_calls = the_calls }
