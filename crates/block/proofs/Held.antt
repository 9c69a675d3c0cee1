-- What each form holds: the block of a table is read back, and only such a block is read.
-- Assumes nothing.
use Prim.Native.Nat.{ℕ, zero, suc, ◌+◌, ◌-◌, ◌/◌, ◌≤◌}
use mathlib.Core.Path.{◌≡◌, refl, sym, ap, ap₂, subst, ◌∙◌}
use mathlib.Core.List.{List, [], ◌∷◌, ◌++◌}
use mathlib.Core.Bool.{Bool, true}
use native.Mathlib.Omega.{arith}
use lib.ListN.{length, drop, get_or}
use lib.Seq.{drop-append_seam, get_or-drop}
use lib.Dec.{eqb}
use borrow.Author.Tests.{eqb-true}
use Rattle.std.specs.Prelude.{Ok, Err}
use Rattle.laws.proofs.Cases.{pick, chosen}
use Rattle.answer.specs.declared.Refusal.{Refusal}
use Rattle.leap.specs.declared.Table.{Table}
use Rattle.leap.specs.Leap.{vouched_to, last_entry_month, entry_month, vouched_right, accepted}
use Rattle.leap.specs.Entries.{Entry, first_entry, no_entry, entries_from, entries, table_of, FullLength, Good}
use Rattle.leap.specs.Outcomes.{Outcome, entered, fault, joined}
use Rattle.leap.proofs.Facts.{Later, Accepted, same_entry, accepted_to}
use Rattle.leap.proofs.Vouched.{revouched, right_late}
use Rattle.leap.proofs.Entries.{Follow, from_long, entry_of, entries_at, entries_of, accepted_entries, accepted_of}
use Rattle.block.specs.declared.Form.{Form}
use Rattle.block.specs.declared.Form.TheVariants.{Old, New}
use Rattle.block.specs.Numbers.{number_bytes}
use Rattle.block.specs.Blocks.{step_number, step_bytes, block_of, opening, block_in}
use Rattle.block.specs.Faults.{within, gap_fine}
use Rattle.block.specs.Reading.{NumberRead, read_groups, read_number, next_entry, on_number, last_entry, read_entries, in_block, in_vouched, in_form}
use Rattle.block.specs.Promise.{Bytes, Held}
use Rattle.block.proofs.Numbers.{read_written, written_read, was_tested, zero_bytes}
use Rattle.block.proofs.Steps.{bit_small, next_bit, next_back, next_apart}
use Rattle.block.proofs.Reading.{within_is, is_within, gap_fine_lem, is_gap_fine}
use Rattle.block.proofs.Blocks.{block_same, step_small}

-- ---- what is written is read back

-- the number of an entry gives it back
module _ {e f : Entry} (l : Later e f) where
  gap : step_number e f / 2 ≡ f.0 - e.0
  gap = omega (arith, bit_small e.1 f.1)

  step_fine : gap_fine e.0 (step_number e f) ≡ true
  step_fine = is_gap_fine e.0 (step_number e f) (omega (arith, gap, l.rises)) (omega (arith, gap, l.rises, l.early))

  step_gives : next_entry e (step_number e f) ≡ f
  step_gives = same_entry (omega (arith, gap, l.rises)) (next_back e.1 f.1 (f.0 - e.0) l.step)

-- v is right for the last of these entries
abbrev RightLast : ℕ → Entry → List Entry → Type 0
RightLast v e es = vouched_right (get_or (e ∷ es) (length es) no_entry).0 v ≡ true

-- entries that follow one another, under a number that is right for the last
entries_back : (v : ℕ) (e : Entry) (es : List Entry) (at : ℕ) → Follow e es → RightLast v e es → read_entries v (length es) e at (step_bytes (e ∷ es)) ≡ entered v (e ∷ es)
unfolding read_entries step_bytes
entries_back v e [] at h r = rw r
entries_back v e (f ∷ es) at h r =
    let n = step_number e f in
    let rest = step_bytes (f ∷ es) in
    rw (read_written 2 n rest (step_small h.0), step_fine h.0, drop-append_seam (number_bytes n) rest, step_gives h.0)
    (ap (joined (e ∷ [])) (entries_back v f es (at + length (number_bytes n)) h.1 r))

-- an old block at any place, under the month of its table
block_back : (t : Table) (at : ℕ) → Accepted t → in_block t.vouched at (block_of t) ≡ entered t.vouched (entries t)
unfolding in_block block_of
block_back t at a =
    let n = t.count in
    let es = entries_from t 1 (n - 1) in
    let all = accepted_entries a in
    let long : length es ≡ n - 1 = from_long t 1 (n - 1) in
    let last : (get_or (first_entry ∷ es) (length es) no_entry).0 ≡ entry_month t (n - 1) = ap₂ (λ l k. (get_or l k no_entry).0) (sym all.0) long ∙ ap (λ e. e.0) (entries_at t (n - 1) (omega (arith, a.some_entry))) in
    rw (read_written 2 n (step_bytes (entries t)) (omega (arith, a.few)), is_within 1 64 n a.some_entry a.few, drop-append_seam (number_bytes n) (step_bytes (entries t)))
    (rw all.0 (ap (λ k. read_entries t.vouched k first_entry (at + length (number_bytes n)) (step_bytes (first_entry ∷ es))) (sym long) ∙ entries_back t.vouched first_entry es (at + length (number_bytes n)) all.1 (rw last a.month_right)))

-- a new block begins with the byte 0 and the number of a month
pub opened : (v : ℕ) (s : List ℕ) → opening New v ++ s ≡ 0 ∷ number_bytes v ++ s
opened v s = ap (λ x. (x ++ number_bytes v) ++ s) zero_bytes

-- behind that byte the new reader reads the number, and behind the number an old block under it
behind_zero : (s : List ℕ) → in_form New (0 ∷ s) ≡ in_vouched s
unfolding read_groups
behind_zero s = refl

behind_month : (v : ℕ) (s : List ℕ) → v ≤ last_entry_month + 1 → in_vouched (number_bytes v ++ s) ≡ in_block v (1 + length (number_bytes v)) s
unfolding in_vouched
behind_month v s l = rw (read_written 2 v s (omega arith), is_within 0 (last_entry_month + 1) v (omega arith) l, drop-append_seam (number_bytes v) s)

-- so the block of a table that the form holds gives its entries
pub form_back : (form : Form) (t : Table) → Held form t → in_form form (block_in form t) ≡ entered t.vouched (entries t)
form_back Old t g =
    subst (λ v. in_block v 0 (block_of t) ≡ entered t.vouched (entries t)) g.month_fits (block_back t 0 (accepted_to t g.is_accepted))
form_back New t h =
    let a = accepted_to t h.is_accepted in
    let v = t.vouched in
    ap (in_form New) (opened v (block_of t)) ∙ behind_zero (number_bytes v ++ block_of t) ∙ behind_month v (block_of t) (right_late _ a.month_right) ∙ block_back t (1 + length (number_bytes v)) a

-- ---- what is found has the month under which it was read

abbrev pub Under : ℕ → Outcome → Type 0
Under v (entered w es) = w ≡ v
Under v (fault why at) = Unit {0}

module _ (v : ℕ) where
  under_after : (es : List Entry) (o : Outcome) → Under v o → Under v (joined es o)
  under_after es (entered w fs) h = h
  under_after es (fault why at) h = tt

  under_number : (at : ℕ) (follows : ℕ → ℕ → Outcome) (r : NumberRead) → ((n size : ℕ) → Under v (follows n size)) → Under v (on_number at follows r)
  under_number at follows (Ok (n, size)) h = h n size
  under_number at follows (Err why) h = tt

  under_entries : (left : ℕ) (e : Entry) (at : ℕ) (s : List ℕ) → Under v (read_entries v left e at s)
  unfolding read_entries
  under_entries zero e at s =
      pick (Under v) (eqb (length s) 0) (λ b. pick (Under v) (vouched_right e.0 v) (λ c. refl) (λ c. tt)) (λ b. tt)
  under_entries (suc left) e at s =
      under_number at _ (read_number (gap_fine e.0) s) (λ n size. under_after (e ∷ []) (read_entries v left (next_entry e n) (at + size) (drop size s)) (under_entries left (next_entry e n) (at + size) (drop size s)))

  pub under_block : (at : ℕ) (s : List ℕ) → Under v (in_block v at s)
  unfolding in_block
  under_block at s = under_number at _ (read_number (within 1 64) s) (λ n size. under_entries (n - 1) first_entry (at + size) (drop size s))

-- ---- only what is written is read

-- a fault is no entries
pub not_entered : {why : Refusal} {at w : ℕ} {es : List Entry} → fault why at ≡ entered w es → ⊥
not_entered e = let z : ◌≡◌ {A = ℕ} 0 1 = cc in omega arith

-- where entries are found behind a number, it was read and passed its test, and they are what follows
pub record Numbered (fine : ℕ → Bool) (follows : ℕ → ℕ → Outcome) (s : List ℕ) (o : Outcome) : Type 0 where
  pub n : ℕ
  pub size : ℕ
  pub is_read : read_groups 3 s ≡ Ok (n, size)
  pub right : fine n ≡ true
  pub goes : follows n size ≡ o

pub was_number : (at : ℕ) (fine : ℕ → Bool) (follows : ℕ → ℕ → Outcome) (s : List ℕ) {w : ℕ} {es : List Entry} → on_number at follows (read_number fine s) ≡ entered w es → Numbered fine follows s (entered w es)
was_number at fine follows s {w} {es} e = go (read_number fine s) refl e
  where
    go : (r : NumberRead) → read_number fine s ≡ r → on_number at follows r ≡ entered w es → Numbered fine follows s (entered w es)
    go (Err why) q f = absurd (not_entered f)
    go (Ok (n, size)) q f = let t = was_tested fine (read_groups 3 s) q in record { n = n; size = size; is_read = t.0; right = t.1; goes = f }

-- the bytes of that number, and those behind it
numbered_bytes : {fine : ℕ → Bool} {follows : ℕ → ℕ → Outcome} {s : List ℕ} {o : Outcome} → Bytes s → (m : Numbered fine follows s o) → number_bytes m.n ++ drop m.size s ≡ s
numbered_bytes {s = s} h m = sym (written_read 3 s m.n m.size h m.is_read).written

-- entries behind an entry
was_after : (e : Entry) (o : Outcome) {v : ℕ} {es : List Entry} → joined (e ∷ []) o ≡ entered v es → (fs : List Entry) × (o ≡ entered v fs) × (es ≡ e ∷ fs)
was_after e (entered w fs) {v} {es} q = let f : w ≡ v = cc in (fs, ap (λ x. entered x fs) f, cc)
was_after e (fault why at) q = absurd (not_entered q)

bytes_drop : (k : ℕ) (s : List ℕ) → Bytes s → Bytes (drop k s)
bytes_drop k s h i = rw (get_or-drop k s i 0) (h (k + i))

-- es was read from s under v: the entry e, and after it as many as were to be read
record Made (v left : ℕ) (e : Entry) (s : List ℕ) (es : List Entry) : Type 0 where
  rest : List Entry
  all : es ≡ e ∷ rest
  sized : length rest ≡ left
  follow : Follow e rest
  right : RightLast v e rest
  bytes : step_bytes (e ∷ rest) ≡ s

-- an entry that a number gives has that number
module _ (e : Entry) (n : ℕ) where
  step_is : step_number e (next_entry e n) ≡ n
  step_is = omega (arith, next_bit e.1 n)

  later_is : gap_fine e.0 n ≡ true → Later e (next_entry e n)
  later_is g = let b = gap_fine_lem e.0 n g in record { rises = omega arith; early = b.1; step = next_apart e.1 n }

module _ (v : ℕ) where
  made_none : (e : Entry) (s : List ℕ) {es : List Entry} → length s ≡ 0 → last_entry v e ≡ entered v es → Made v 0 e s es
  unfolding step_bytes
  made_none e [] z q =
      let c = chosen (vouched_right e.0 v) not_entered q in
      let f = c.1 in
      record { rest = []; all = cc; sized = refl; follow = tt; right = c.0; bytes = refl }
  made_none e (x ∷ s) z q = absurd (omega arith)

  made_more : {left : ℕ} {e : Entry} {s : List ℕ} {es fs : List Entry} {follows : ℕ → ℕ → Outcome} {o : Outcome} → Bytes s → (m : Numbered (gap_fine e.0) follows s o)
      → es ≡ e ∷ fs → Made v left (next_entry e m.n) (drop m.size s) fs → Made v (suc left) e s es
  unfolding step_bytes
  made_more {e = e} {s = s} h m all r = record {
    rest = next_entry e m.n ∷ r.rest;
    all = all ∙ ap (λ x. e ∷ x) r.all;
    sized = ap suc r.sized;
    follow = (later_is e m.n m.right, r.follow);
    right = r.right;
    bytes = ap₂ (λ x y. number_bytes x ++ y) (step_is e m.n) r.bytes ∙ numbered_bytes h m;
  }

  -- as many entries as were to be read, and nothing behind them
  entries_only : (left : ℕ) (e : Entry) (at : ℕ) (s : List ℕ) {es : List Entry} → Bytes s → read_entries v left e at s ≡ entered v es → Made v left e s es
  unfolding read_entries
  entries_only zero e at s h q =
      let c = chosen (eqb (length s) 0) not_entered q in
      made_none e s (eqb-true _ _ c.0) c.1
  entries_only (suc left) e at s h q =
      let m = was_number at (gap_fine e.0) (λ n size. joined (e ∷ []) (read_entries v left (next_entry e n) (at + size) (drop size s))) s q in
      let a = was_after e (read_entries v left (next_entry e m.n) (at + m.size) (drop m.size s)) m.goes in
      made_more h m a.2 (entries_only left (next_entry e m.n) (at + m.size) (drop m.size s) (bytes_drop m.size s h) a.1)

-- t is an accepted table of full length, and s its old block
record Whole (s : List ℕ) (t : Table) : Type 0 where
  right : accepted t ≡ true
  long : FullLength t
  block : block_of t ≡ s

-- a block of n entries is that of their table
count_only : (n : ℕ) {v : ℕ} {s : List ℕ} {es : List Entry} → within 1 64 n ≡ true → Made v (n - 1) first_entry s es → Whole (number_bytes n ++ s) (vouched_to v (table_of es))
unfolding block_of table_of
count_only n {v} {s} {es} g m =
    let b = within_is 1 64 n g in
    let c : length es ≡ n = ap length m.all ∙ omega (arith, m.sized) in
    let good : Good (table_of es) = rw m.all (accepted_of m.rest (omega (arith, m.sized)) m.follow) in
    let size : length es - 1 ≡ length m.rest = omega (arith, m.sized) in
    let last : entry_month (table_of es) (length es - 1) ≡ (get_or (first_entry ∷ m.rest) (length m.rest) no_entry).0 = ap (λ e. e.0) (entry_of es (length es - 1)) ∙ ap₂ (λ l k. (get_or l k no_entry).0) m.all size in
    record {
      right = revouched (table_of es) 0 v good.is_accepted (rw last m.right);
      long = (good.months_long, good.offsets_long);
      block = block_same v (table_of es) ∙ ap₂ (λ x y. number_bytes x ++ y) c (ap step_bytes (entries_of es ∙ m.all) ∙ m.bytes);
    }

-- an old block at any place
block_only : (v at : ℕ) (s : List ℕ) {w : ℕ} {es : List Entry} → Bytes s → in_block v at s ≡ entered w es → (w ≡ v) × Whole s (vouched_to w (table_of es))
unfolding in_block
block_only v at s {w} {es} h e =
    let u : w ≡ v = subst (Under v) e (under_block v at s) in
    let m = was_number at (within 1 64) (λ n size. read_entries v (n - 1) first_entry (at + size) (drop size s)) s (e ∙ ap (λ x. entered x es) u) in
    let c = count_only m.n m.right (entries_only v (m.n - 1) first_entry (at + m.size) (drop m.size s) (bytes_drop m.size s h) m.goes) in
    (u, rw u (subst (λ r. Whole r (vouched_to v (table_of es))) (numbered_bytes h m) c))

-- behind the number 0: the number of a month, and an old block under it
vouched_only : (s : List ℕ) {w : ℕ} {es : List Entry} → Bytes s → in_vouched s ≡ entered w es → Held New (vouched_to w (table_of es)) × (number_bytes w ++ block_of (vouched_to w (table_of es)) ≡ s)
unfolding in_vouched
vouched_only s {w} {es} h e =
    let m = was_number 1 (within 0 (last_entry_month + 1)) (λ v size. in_block v (1 + size) (drop size s)) s e in
    let b = block_only m.n (1 + m.size) (drop m.size s) (bytes_drop m.size s h) m.goes in
    (record { is_accepted = b.1.right; full_length = b.1.long; month_fits = tt }, ap₂ (λ x y. number_bytes x ++ y) b.0 b.1.block ∙ numbered_bytes h m)

-- s is the block of a table that the form holds
abbrev pub BlockIs : Form → List ℕ → Table → Type 0
BlockIs form s t = Held form t × (block_in form t ≡ s)

-- so entries are found in a block of their table alone
pub form_only : (form : Form) (s : List ℕ) {w : ℕ} {es : List Entry} → Bytes s → in_form form s ≡ entered w es → BlockIs form s (vouched_to w (table_of es))
form_only Old s h e =
    let b = block_only 0 0 s h e in
    (record { is_accepted = b.1.right; full_length = b.1.long; month_fits = b.0 }, b.1.block)
form_only New s {w} {es} h e =
    let m = was_number 0 (within 0 0) (λ n size. in_vouched (drop 1 s)) s e in
    let z : m.n ≡ 0 = omega (arith, within_is 0 0 m.n m.right) in
    let begins : 0 ∷ drop m.size s ≡ s = ap (λ x. x ++ drop m.size s) (sym zero_bytes ∙ ap number_bytes (sym z)) ∙ numbered_bytes h m in
    let b = vouched_only (drop 1 s) (bytes_drop 1 s h) m.goes in
    (b.0, opened w _ ∙ ap (λ x. 0 ∷ x) (b.1 ∙ ap (drop 1) (sym begins)) ∙ begins)
