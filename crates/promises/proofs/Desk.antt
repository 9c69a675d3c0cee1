-- Both instants, by the ticks of the clock and by what the labels show; a difference of two; what the desk answers of them; and the answer to any line.
-- Assumes nothing.
use mathlib.Core.Logic.{◌⊎◌, inl, inr, ⊎_elim}
use mathlib.Core.Path.{◌≡◌, refl, sym, ap, ◌∙◌}
use mathlib.Core.Bool.{Bool, true, false, ◌||◌}
use mathlib.Core.List.{List, [], ◌∷◌, ◌++◌}
use Prim.Native.Nat.{ℕ, zero, suc, ◌+◌, ◌*◌, ◌<◌}
use native.Mathlib.Omega.{arith}
use borrow.Author.Tests.{ltb-true, le-leb}
use lib.Dec.{ltb, leb}
use lib.IntN.{ℤ, pos, ◌+ℤ◌, ◌-ℤ◌, ◌*ℤ◌}
use lib.ListN.{length, drop}
use lib.Signed.{lt_z, ◌≤ℤ◌, ◌<ℤ◌}
use Rattle.std.specs.Prelude.{Option, Some, None, Result, Ok, Err}
use Rattle.laws.proofs.Branches.{cond_yes, cond_rest}
use Rattle.laws.proofs.Cases.{by_test, pick}
use Rattle.laws.proofs.Difference.{up, down, sum_is, diff_is, eq_to, eq_from, lt_to, le_to, lt_z_true, lt_z_false}
use Rattle.laws.proofs.Machine.{times_is}
use Rattle.leap.specs.declared.Table.{Table}
use Rattle.answer.specs.declared.Fault.{Fault}
use Rattle.leap.specs.Leap.{vouched_to, accepted, offset_at}
use Rattle.leap.specs.Readers.{no_table, table_results}
use Rattle.labels.specs.declared.Reading.{Reading}
use Rattle.labels.specs.Labels.{whole}
use Rattle.labels.specs.Seconds.{micro_of, axis_of}
use Rattle.labels.proofs.Admitted.{admitted_to, admitted_from}
use Rattle.labels.proofs.Years.{axis_is}
use Rattle.stamp.specs.declared.Scale.TheVariants.{Utc}
use Rattle.stamp.specs.declared.Stamp.{Stamp}
use Rattle.stamp.specs.Promise.{Reads}
use Rattle.stamp.proofs.Scales.{instant_is}
use Rattle.clock.specs.Promise.{first_label, admits, Shows}
use Rattle.clock.proofs.Promise.{all_tick}
use Rattle.text.specs.Text.{read_text, text_results}
use Rattle.text.specs.Promise.{AcceptedAs, Names}
use Rattle.text.proofs.Exactly.{read_exactly}
use Rattle.block.specs.declared.Form.{Form}
use Rattle.block.specs.declared.Form.TheVariants.{Old, New}
use Rattle.block.specs.Reading.{read_either}
use Rattle.block.specs.Promise.{Bytes, GivesTable}
use Rattle.block.proofs.Promise.{blocks}
use Rattle.kernel.specs.Reading.{read_kernel}
use Rattle.kernel.proofs.Promise.{kernels}
use Rattle.cards.specs.Reading.{read_cards}
use Rattle.cards.proofs.Promise.{cards}
use Rattle.digits.specs.Bytes.{ascii}
use Rattle.lines.specs.Words.{before}
use Rattle.lines.specs.Pairs.{nibble, paired}
use Rattle.phrases.specs.Parts.{begins_with}
use Rattle.phrases.specs.Replies.{Reply, answering}
use Rattle.seconds.specs.Seconds.{seconds_text}
use Rattle.stampwords.specs.Stamps.{clock_of, stamp_read}
use Rattle.stampwords.proofs.Stamps.{read_accepted}
use Rattle.stampwords.specs.Spans.{steps_between, steps_in_order, steps_text, span_of, between_answer, between_reply, real_name, cell, sheet_row, pass_answer, pass_reply}
use Rattle.stampwords.proofs.Spans.{span_of_two}
use Rattle.tablewords.specs.Loading.{Load, taking, leaving, loaded_by, is_hex, load_block, load_kernel, load_cards, month_given, vouched_by, vouch}
use Rattle.wording.specs.Wording.{requested, judged, answered}
use Rattle.promises.specs.Desk.{offset_on, Elapsed, Between, ReadOnUtc, mark_of, OnTheDesk, Loading, DeskAnswers}

-- ---- one reading

module _ (t : Table) (r : Reading) (x : ℤ) (h : Reads t Utc r x) where
  -- its label's whole second is admitted too
  whole_admitted : admits t r.label ≡ true
  whole_admitted =
      let a = admitted_to (offset_at t) 60 r h.is_admitted in
      admitted_from (offset_at t) 60 (whole r.label)
      (record {
        since_1972 = a.since_1972;
        until_9999 = a.until_9999;
        exists = a.exists;
        on_clock = record { hour_high = a.on_clock.hour_high; minute_high = a.on_clock.minute_high; second_most = a.on_clock.second_most; micro_high = omega arith };
      })

  -- its instant by what it shows, in naturals
  by_shown : up x + (1000000 * down (offset_on t r.label) + 63113947200000000) ≡ micro_of r + 1000000 * up (offset_on t r.label) + down x
  by_shown = omega (arith, instant_is Utc (micro_of r) (offset_on t r.label), eq_to h.instant_is)

  -- and by the ticks, from the first label's place on UTC's axis
  module _ (ok : accepted t ≡ true) (n : ℕ) (e : Shows t n r.label) where
    by_count : up x + (down (axis_of (offset_at t) (whole first_label)) + 63113947200000000) ≡ up (axis_of (offset_at t) (whole first_label)) + (1000000 * n + r.micro) + down x
    by_count =
        let f : ℤ = axis_of (offset_at t) (whole first_label) in
        omega (arith, by_shown, axis_is (micro_of (whole r.label)) (offset_on t r.label), eq_to ((all_tick t ok).keeps_the_seconds n r.label e), sum_is f (pos (1000000 * n)))

-- ---- two

module _ (t : Table) (ok : accepted t ≡ true) (x y : ℤ) (r s : Reading) (g : Reads t Utc r x) (h : Reads t Utc s y) where
  ticks_between : (j k : ℕ) → Shows t j r.label → Shows t k s.label → y -ℤ x ≡ pos (1000000 * k + s.micro) -ℤ pos (1000000 * j + r.micro)
  ticks_between j k p q =
      eq_from (y -ℤ x) (pos (1000000 * k + s.micro) -ℤ pos (1000000 * j + r.micro))
      (omega (arith, by_count t r x g ok j p, by_count t s y h ok k q, diff_is y x, diff_is (pos (1000000 * k + s.micro)) (pos (1000000 * j + r.micro))))

  labels_between : y -ℤ x ≡ (pos (micro_of s) -ℤ pos (micro_of r)) +ℤ (pos 1000000 *ℤ (offset_on t s.label -ℤ offset_on t r.label))
  labels_between =
      let d : ℤ = offset_on t s.label -ℤ offset_on t r.label in
      let u : ℤ = pos (micro_of s) -ℤ pos (micro_of r) in
      eq_from (y -ℤ x) (u +ℤ (pos 1000000 *ℤ d))
      (omega (arith, by_shown t r x g, by_shown t s y h, diff_is y x, diff_is (pos (micro_of s)) (pos (micro_of r)), diff_is (offset_on t s.label) (offset_on t r.label), times_is 1000000 d, sum_is u (pos 1000000 *ℤ d)))

  elapsed : Elapsed t x y r s
  elapsed =
      record {
        shows_the_first = (all_tick t ok).shows_every_second r.label (whole_admitted t r x g);
        shows_the_second = (all_tick t ok).shows_every_second s.label (whole_admitted t s y h);
        by_ticks = ticks_between;
        by_labels = labels_between;
      }

pub between : Between
between t from to x y z w p q =
    let a : Names t 0 from x z.reading = (((read_exactly t 0 from).success x z).0 p).1 in
    let b : Names t 0 to y w.reading = (((read_exactly t 0 to).success y w).0 q).1 in
    elapsed t a.known.a_table x y z.reading w.reading a.reads b.reads

-- ---- what the desk answers

-- the text behind a stamp's clock
abbrev text_in : List ℕ → List ℕ
text_in given = drop (length (before 32 given) + 1) given

module _ (t : Table) (given : List ℕ) (x : ℤ) (z : Stamp) (h : ReadOnUtc t given x z) where
  accepted_as : AcceptedAs t 0 (text_in given) x z
  unfolding stamp_read
  accepted_as = ap text_results (ap (λ (k : ℕ). read_text t k (text_in given)) (sym h.on_utc) ∙ h.read)

  is_utc : z.scale ≡ Utc
  is_utc = (((read_exactly t 0 (text_in given)).success x z).0 accepted_as).0

-- which of two instants comes first
not_before : (x y : ℤ) → x ≤ℤ y → lt_z y x ≡ false
not_before x y h = by_test (lt_z y x) (λ p. absurd (omega (arith, lt_z_true y x p, le_to h))) (λ p. p)

is_before : (x y : ℤ) → x <ℤ y → lt_z x y ≡ true
is_before x y h = by_test (lt_z x y) (λ p. p) (λ p. absurd (omega (arith, lt_z_false x y p, lt_to h)))

-- of two stamps on UTC
utc_steps : (t : Table) (z w : Stamp) → z.scale ≡ Utc → w.scale ≡ Utc → steps_between t z w ≡ Some (offset_on t w.reading.label -ℤ offset_on t z.reading.label)
utc_steps t z w p q = rw (p, q)

module _ (t : Table) (a b : List ℕ) (x y : ℤ) (z w : Stamp) (g : ReadOnUtc t a x z) (h : ReadOnUtc t b y w) where
  lasts : span_of t a b ≡ Ok (record { micros = y -ℤ x; steps = steps_in_order t x z y w; beyond = (stamp_read t a).beyond || (stamp_read t b).beyond })
  lasts = sym (span_of_two t a b refl g.read h.read refl refl)

  between_answer_lem : between_reply t a b ≡ answering (seconds_text (y -ℤ x) ++ (ascii " s" ++ mark_of t a b))
  unfolding between_reply
  between_answer_lem = ap (between_answer a b) lasts

  pass_answer_lem : (name : List ℕ) → real_name name ≡ true → pass_reply t name a b ≡ answering (cell name ++ (cell a ++ (cell b ++ (seconds_text (y -ℤ x) ++ (ascii "," ++ (steps_text (steps_in_order t x z y w) ++ mark_of t a b))))))
  unfolding pass_reply sheet_row
  pass_answer_lem name e = sym (cond_yes _ e refl) ∙ ap (pass_answer name a b) lasts

  on : x ≤ℤ y → steps_in_order t x z y w ≡ Some (offset_on t w.reading.label -ℤ offset_on t z.reading.label)
  on e = sym (cond_rest _ (not_before x y e) refl) ∙ utc_steps t z w (is_utc t a x z g) (is_utc t b y w h)

  back : y <ℤ x → steps_in_order t x z y w ≡ Some (offset_on t z.reading.label -ℤ offset_on t w.reading.label)
  back e = sym (cond_yes _ (is_before y x e) refl) ∙ utc_steps t w z (is_utc t b y w h) (is_utc t a x z g)

pub on_the_desk : OnTheDesk
on_the_desk t a b x y z w g h =
    record {
      between = between_answer_lem t a b x y z w g h;
      elapsed = between t (text_in a) (text_in b) x y z w (accepted_as t a x z g) (accepted_as t b y w h);
      pass = pass_answer_lem t a b x y z w g h;
      steps = on t a b x y z w g h;
      steps_back = back t a b x y z w g h;
    }

-- ---- the answer to any line

-- what a load does to the table t
record Keeps (t : Table) (l : Load) : Type 0 where
  kept_or_lost : l.reply.good ≡ false → (l.table ≡ t) ⊎ (l.table ≡ no_table)
  fine : accepted t ≡ true → (accepted l.table ≡ true) ⊎ (l.table ≡ no_table)

-- a load that leaves no table where it is not good
record Replaces (l : Load) : Type 0 where
  lost : l.reply.good ≡ false → l.table ≡ no_table
  fine : (accepted l.table ≡ true) ⊎ (l.table ≡ no_table)

stays : (t : Table) {r : Reply} → Keeps t (leaving t r)
stays t = record { kept_or_lost = λ e. inl refl; fine = λ h. inl h }

takes : (u : Table) → accepted u ≡ true → Replaces (taking u)
takes u h = record { lost = λ e. cc; fine = inl h }

loses : {r : Reply} → Replaces (leaving no_table r)
loses = record { lost = λ e. refl; fine = inr refl }

replaced : (t : Table) {l : Load} → Replaces l → Keeps t l
replaced t p = record { kept_or_lost = λ e. inr (p.lost e); fine = λ h. p.fine }

-- a table that is read is accepted
loaded_replaces : (given : List ℕ) (r : Result Table Fault) → ((t : Table) → table_results r ≡ (0, 0, t) → accepted t ≡ true) → Replaces (loaded_by given r)
loaded_replaces given (Ok t) h = takes t (h t refl)
loaded_replaces given (Err fault) h = loses

bytes_more : (x : ℕ) (s : List ℕ) → x < 256 → Bytes s → Bytes (x ∷ s)
bytes_more x s h k zero = h
bytes_more x s h k (suc i) = k i

bytes_none : Bytes []
bytes_none i = omega arith

pairs_bytes : (s : List ℕ) → Bytes (paired s)
unfolding paired
pairs_bytes [] = bytes_none
pairs_bytes (a ∷ []) = bytes_none
pairs_bytes (a ∷ b ∷ s) =
    let more = pairs_bytes s in
    pick Bytes (ltb (nibble a) 16)
    (λ e. pick Bytes (ltb (nibble b) 16) (λ f. bytes_more (nibble a * 16 + nibble b) (paired s) (omega (arith, ltb-true (nibble a) 16 e, ltb-true (nibble b) 16 f)) more) (λ f. bytes_none))
    (λ e. bytes_none)

block_replaces : (hex : List ℕ) → Replaces (load_block hex)
unfolding load_block
block_replaces hex =
    let s = paired hex in
    pick Replaces (is_hex hex)
    (λ e. loaded_replaces hex (read_either s) (λ t g. ⊎_elim (right Old s t (pairs_bytes hex)) (right New s t (pairs_bytes hex)) ((blocks.told_apart.either s t).0 g)))
    (λ e. loses)
  where
    right : (form : Form) (s : List ℕ) (t : Table) → Bytes s → GivesTable form s t → accepted t ≡ true
    right form s t b g = (((blocks.one_to_one form).gives_the_table_of_the_block s t).0 (b, g)).0.is_accepted

kernel_replaces : (given : List ℕ) (readable : Bool) (file : List ℕ) → Replaces (load_kernel given readable file)
unfolding load_kernel
kernel_replaces given readable file =
    let r = read_kernel file in
    pick Replaces readable
    (λ e. loaded_replaces given r (λ t g. let w = ((kernels.reads file).gives_a_table t).0 g in let v = w.1.1.1 in ap accepted (sym v.1) ∙ v.0.is_accepted))
    (λ e. loses)

-- cards that give a table give an accepted one
cards_accepted : (file : List ℕ) (t : Table) → table_results (read_cards file) ≡ (0, 0, t) → accepted t ≡ true
cards_accepted file t g = (((cards.reads file).gives_a_table t).0 g).1.is_accepted

cards_replaces : (given : List ℕ) (readable : Bool) (file : List ℕ) → Replaces (load_cards given readable file)
unfolding load_cards
cards_replaces given readable file =
    pick Replaces readable
    (λ e. pick Replaces (leb (length file) 65536) (λ f. loaded_replaces given (read_cards file) (cards_accepted file)) (λ f. loses))
    (λ e. loses)

vouch_keeps : (t : Table) (month : List ℕ) → Keeps t (vouch t month)
unfolding vouch
vouch_keeps t month = go (month_given month)
  where
    go : (n : Option ℕ) → Keeps t (vouched_by t month n)
    go (Some v) = pick (Keeps t) (accepted (vouched_to v t)) (λ e. replaced t (takes (vouched_to v t) e)) (λ e. stays t)
    go None = stays t

module _ (t : Table) (readable : Bool) (file line : List ℕ) where
  requested_keeps : Keeps t (requested t readable file line)
  unfolding requested
  requested_keeps =
      pick (Keeps t) (begins_with (ascii "table block ") line) (λ e. replaced t (block_replaces (drop 12 line)))
      (λ e. pick (Keeps t) (begins_with (ascii "table kernel ") line) (λ f. replaced t (kernel_replaces (drop 13 line) readable file))
      (λ f. pick (Keeps t) (begins_with (ascii "table cards ") line) (λ g. replaced t (cards_replaces (drop 12 line) readable file))
      (λ g. pick (Keeps t) (begins_with (ascii "vouched ") line) (λ h. vouch_keeps t (drop 8 line)) (λ h. stays t))))

  judged_keeps : Keeps t (judged t readable file line)
  unfolding judged
  judged_keeps = pick (Keeps t) (leb (length line) 1024) (λ e. requested_keeps) (λ e. stays t)

  requested_loses : (begins_with (ascii "table block ") line ≡ true) ⊎ ((begins_with (ascii "table kernel ") line ≡ true) ⊎ (begins_with (ascii "table cards ") line ≡ true))
      → Replaces (requested t readable file line)
  unfolding requested
  requested_loses (inl e) = rw e (block_replaces (drop 12 line))
  requested_loses (inr (inl f)) =
      pick Replaces (begins_with (ascii "table block ") line) (λ e. block_replaces (drop 12 line)) (λ e. rw f (kernel_replaces (drop 13 line) readable file))
  requested_loses (inr (inr g)) =
      pick Replaces (begins_with (ascii "table block ") line) (λ e. block_replaces (drop 12 line))
      (λ e. pick Replaces (begins_with (ascii "table kernel ") line) (λ f. kernel_replaces (drop 13 line) readable file)
      (λ f. rw g (cards_replaces (drop 12 line) readable file)))

  judged_loses : Loading line → (judged t readable file line).reply.good ≡ false → (judged t readable file line).table ≡ no_table
  unfolding judged
  judged_loses g = rw (le-leb (length line) 1024 g.short) (requested_loses g.loads).lost

none_accepted : accepted no_table ≡ false
unfolding accepted
none_accepted = refl

no_stamp : (given : List ℕ) (x : ℤ) (z : Stamp) → (stamp_read no_table given).answer ≡ Ok (x, z) → ⊥
unfolding stamp_read
no_stamp given x z e =
    let a = read_accepted no_table (clock_of given) (drop (length (before 32 given) + 1) given) x z e in
    let n : true ≡ false = sym a ∙ none_accepted in
    let k : ◌≡◌ {A = ℕ} 0 1 = cc in
    omega arith

pub desk_answers : DeskAnswers
unfolding answered
desk_answers =
    record {
      ends_its_line = λ t readable file line. ((judged t readable file line).reply.text, refl);
      keeps_or_loses = λ t readable file line. (judged_keeps t readable file line).kept_or_lost;
      loses_the_table = λ t readable file line. judged_loses t readable file line;
      stays_accepted = λ t readable file line. (judged_keeps t readable file line).fine;
      none_reads_no_stamp = λ given x z. no_stamp given x z;
    }
