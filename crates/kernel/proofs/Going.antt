-- A kernel is read byte by byte: what is left to read, after what is read, is the whole.
-- Assumes nothing.
use Prim.Native.Nat.{ℕ, zero, suc, ◌+◌, ◌-◌, ◌≤◌, ◌<◌}
use mathlib.Core.Path.{◌≡◌, refl, sym, ap, ap₂, ◌∙◌}
use mathlib.Core.Bool.{Bool, true, false, cond}
use mathlib.Core.List.{List, [], ◌∷◌, ◌++◌}
use native.Mathlib.Omega.{arith}
use native.Mathlib.Numerals.{add-one}
use lib.Dec.{ltb, eqb}
use lib.IntN.{ℤ}
use lib.ListN.{length, drop, set, get_or, replicate, length-append, length-drop}
use lib.Seq.{drop-cons, drop-length, drop-drop}
use borrow.Author.Tests.{lt-ltb}
use Rattle.laws.proofs.Cases.{pick, by_order}
use Rattle.answer.specs.declared.Refusal.TheVariants.{Kernel as KERNEL}
use Rattle.leap.specs.declared.Table.{Table}
use Rattle.leap.specs.Leap.{tabled}
use Rattle.leap.specs.Entries.{table_of}
use Rattle.leap.specs.Readers.{refused_at}
use Rattle.leap.proofs.Facts.{too_many}
use Rattle.leap.proofs.Entries.{Holds, holds_more, holds_table}
use Rattle.lines.specs.Words.{before, leading, is_blank}
use Rattle.lines.proofs.Words.{leading_split, leading_short, leading_blanks}
use Rattle.automaton.specs.declared.Mode.{Mode}
use Rattle.automaton.specs.declared.Mode.TheVariants.{Rest, Ours, Done, Dead}
use Rattle.automaton.specs.declared.Resting.{Resting}
use Rattle.automaton.specs.declared.Resting.TheVariants.{Text, Fresh, Gap}
use Rattle.automaton.specs.declared.Pairing.{Pairing}
use Rattle.automaton.specs.declared.Pairing.TheVariants.{Named, OurValue, First, Pairs as Pairs'}
use Rattle.kinds.specs.Kinds.{is_white}
use Rattle.kinds.specs.Parts.{matched}
use Rattle.automaton.specs.Step.{step}
use Rattle.digits.specs.Decimals.{signed}
use Rattle.automaton.specs.Run.{Pairs, noted, standing, run, scan}
use Rattle.grammar.proofs.Running.{step_on, dead_run}
use Rattle.kernel.specs.Reading.{ended, verdict, OnlyBlanks, ReadsOn}

-- ---- a line of text that is no `\begindata` line stays so up to its end

text_step : (have : Bool) (at b : ℕ) → eqb b 10 ≡ false → step have at (Rest (Text 16)) b ≡ Rest (Text 16)
unfolding step matched
text_step have at b e = rw e (pick (λ m. m ≡ Rest (Text 16)) (is_white b) (λ w. refl) (λ w. refl))

text_on : (ps : Pairs) (at : ℕ) (s : List ℕ) → run (Rest (Text 16)) ps (at + length (before 10 s)) (drop (length (before 10 s)) s) ≡ run (Rest (Text 16)) ps at s
unfolding before run
text_on ps at [] = let e : at + 0 ≡ at = omega arith in ap (λ n. run (Rest (Text 16)) ps n []) e
text_on ps at (b ∷ s) = go (eqb b 10) refl (text_on ps (at + 1) s)
  where
    go : (t : Bool) → eqb b 10 ≡ t → run (Rest (Text 16)) ps (at + 1 + length (before 10 s)) (drop (length (before 10 s)) s) ≡ run (Rest (Text 16)) ps (at + 1) s
        → run (Rest (Text 16)) ps (at + length (cond t [] (b ∷ before 10 s))) (drop (length (cond t [] (b ∷ before 10 s))) (b ∷ s)) ≡ run (Rest (Text 16)) ps at (b ∷ s)
    go true e ih = let n : at + 0 ≡ at = omega arith in ap (λ n. run (Rest (Text 16)) ps n (b ∷ s)) n
    go false e ih =
        let n : at + suc (length (before 10 s)) ≡ at + 1 + length (before 10 s) = omega arith in
        rw (n, text_step (ltb 0 (length ps)) at b e) ih

pub text_passed : {s : List ℕ} {i j : ℕ} → j ≡ i + length (before 10 (drop i s)) → i ≤ j → j ≤ length s → ReadsOn s (Rest (Text 16)) i j
text_passed {s} {i} {j} e h l = record {
  same = λ ps. rw e (ap (run (Rest (Text 16)) ps (i + length (before 10 (drop i s)))) (sym (drop-drop (length (before 10 (drop i s))) i s)) ∙ text_on ps i (drop i s));
  later = h;
  inside = l;
}

-- ---- blanks

-- a mode that a blank leaves as it is
record Still (m : Mode) : Type 0 where
  stays : (have : Bool) (at : ℕ) → step have at m 32 ≡ m
  quiet : (ps : Pairs) → noted m ps ≡ ps

blanks_on : {m : Mode} → Still m → (ps : Pairs) (at n : ℕ) (s : List ℕ) → run m ps at (replicate n 32 ++ s) ≡ run m ps (at + n) s
blanks_on {m} h ps at zero s = let e : at ≡ at + 0 = omega arith in ap (λ k. run m ps k s) e
blanks_on {m} h ps at (suc n) s =
    let e : at + 1 + n ≡ at + suc n = omega arith in
    step_on m ps at 32 (replicate n 32 ++ s) (h.stays (ltb 0 (length ps)) at)
    ∙ ap (λ qs. run m qs (at + 1) (replicate n 32 ++ s)) (h.quiet ps)
    ∙ blanks_on h ps (at + 1) n s
    ∙ ap (λ k. run m ps k s) e

blanks_passed : {m : Mode} → Still m → {s : List ℕ} {i j : ℕ} → OnlyBlanks s i j → ReadsOn s m i j
blanks_passed {m} h {s} {i} {j} b = record {
  same = λ ps. let e : i + (j - i) ≡ j = omega (arith, b.later) in ap (λ k. run m ps k (drop j s)) (sym e) ∙ sym (blanks_on h ps i (j - i) (drop j s)) ∙ ap (run m ps i) (sym b.blanks);
  later = b.later;
  inside = b.inside;
}

module _ {s : List ℕ} {i j : ℕ} (b : OnlyBlanks s i j) where
  pub text_blanks : ReadsOn s (Rest (Text 0)) i j
  unfolding step
  text_blanks = blanks_passed (record { stays = λ have at. refl; quiet = λ ps. refl }) b

  pub fresh_blanks : ReadsOn s (Rest Fresh) i j
  unfolding step
  fresh_blanks = blanks_passed (record { stays = λ have at. refl; quiet = λ ps. refl }) b

  pub gap_blanks : ReadsOn s (Rest Gap) i j
  unfolding step
  gap_blanks = blanks_passed (record { stays = λ have at. refl; quiet = λ ps. refl }) b

  ours_blanks : (o : Pairing) → ReadsOn s (Ours o) i j
  unfolding step
  ours_blanks o = blanks_passed (record { stays = still o; quiet = λ ps. refl }) b
    where
      still : (o : Pairing) (have : Bool) (at : ℕ) → step have at (Ours o) 32 ≡ Ours o
      still Named have at = refl
      still OurValue have at = refl
      still First have at = refl
      still Pairs' have at = refl

-- the place behind blanks
pub only_blanks : {s : List ℕ} {i j : ℕ} → i ≤ length s → j ≡ i + length (leading is_blank (drop i s)) → OnlyBlanks s i j
only_blanks {s} {i} {j} l e =
    let n = length (leading is_blank (drop i s)) in
    let k : n ≡ j - i = omega arith in
    record {
      blanks =
          leading_split is_blank (drop i s)
          ∙ ap₂ ◌++◌ (leading_blanks (drop i s) ∙ ap (λ m. replicate m 32) k) (drop-drop n i s ∙ ap (λ m. drop m s) (sym e));
      later = omega arith;
      inside = omega (arith, leading_short is_blank (drop i s), length-drop i s);
    }

-- ---- the loop

-- up to place i all is read: the reader stands at m, and the table holds the pairs, of which over 64 are only counted
pub record Going (s : List ℕ) (m : Mode) (t : Table) (i : ℕ) : Type 0 where
  pub pairs : Pairs
  pub goes : run m pairs i (drop i s) ≡ scan s
  pub inside : i ≤ length s
  pub no_month : t.vouched ≡ 0
  pub few : t.count ≤ 64 → (length pairs ≡ t.count) × Holds t.months t.offsets pairs
  pub many : 64 < t.count → 64 < length pairs

module _ {s : List ℕ} {m : Mode} {t : Table} {i : ℕ} (h : Going s m t i) where
  have_is : ltb 0 t.count ≡ ltb 0 (length h.pairs)
  have_is = by_order 64 t.count
      (λ l. let n = h.many l in lt-ltb 0 t.count (omega arith) ∙ sym (lt-ltb 0 (length h.pairs) (omega arith)))
      (λ l. ap (ltb 0) (sym (h.few l).0))

  same_table : t ≡ tabled t.count t.months t.offsets
  same_table = let v = h.no_month in λ j. record { count = t.count; months = t.months; offsets = t.offsets; vouched = v j }

  same_end : (whole : Bool) → ended whole (length s) m t ≡ ended whole (length s) m (table_of h.pairs)
  unfolding table_of
  same_end whole = by_order 64 t.count
      (λ l. rw (have_is, too_many t l, too_many (table_of h.pairs) (h.many l)))
      (λ l. ap (ended whole (length s) m) (same_table ∙ holds_table (h.few l).1 (h.few l).0))

  pub on_end : (whole : Bool) → length s ≤ i → ended whole (length s) m t ≡ verdict whole s
  unfolding run
  on_end whole l =
      let e : i ≡ length s = omega (arith, h.inside) in
      let g : standing m h.pairs ≡ scan s = rw (e, drop-length) at h.goes in
      same_end whole ∙ ap (λ r. ended whole (length s) r.mode (table_of r.pairs)) g

  module _ (l : i < length s) {m' n : Mode} (e : m' ≡ step (ltb 0 t.count) i m (get_or s i 0)) (q : m' ≡ n) where
    next : run n (noted n h.pairs) (i + 1) (drop (i + 1) s) ≡ scan s
    unfolding run
    next = rw (← q, e, have_is) (rw (drop-cons s i 0 l, ← add-one i) at h.goes)

    -- no pair is noted
    pub on_quiet : noted n h.pairs ≡ h.pairs → Going s m' t (i + 1)
    on_quiet f = record { pairs = h.pairs; goes = rw q (rw f at next); inside = omega arith; no_month = h.no_month; few = h.few; many = h.many }

  module _ (l : i < length s) {m' : Mode} (e : m' ≡ step (ltb 0 t.count) i m (get_or s i 0)) where
    pub on_rest : {r : Resting} {j : ℕ} → m' ≡ Rest r → ReadsOn s (Rest r) (i + 1) j → Going s (Rest r) t j
    on_rest q f = record { pairs = h.pairs; goes = f.same h.pairs ∙ next l e q; inside = f.inside; no_month = h.no_month; few = h.few; many = h.many }

    pub on_ours : {o : Pairing} {j : ℕ} → m' ≡ Ours o → OnlyBlanks s (i + 1) j → Going s m' t j
    on_ours {o} q b = let f = ours_blanks b o in record { pairs = h.pairs; goes = rw q (f.same h.pairs ∙ next l e q); inside = f.inside; no_month = h.no_month; few = h.few; many = h.many }

    module _ {start n month : ℕ} {minus : Bool} (q : m' ≡ Done start minus n month) where
      abbrev more : Pairs
      more = h.pairs ++ (month, signed minus n) ∷ []

      more_long : length more ≡ length h.pairs + 1
      more_long = length-append h.pairs ((month, signed minus n) ∷ [])

      pub on_pair : {offset : ℤ} → offset ≡ signed minus n → t.count < 64
          → Going s (Done start minus n month) (record { count = t.count + 1; months = set t.months t.count month; offsets = set t.offsets t.count offset; vouched = t.vouched }) (i + 1)
      on_pair o room =
          let f = h.few (omega arith) in
          record {
            pairs = more;
            goes = next l e q;
            inside = omega arith;
            no_month = h.no_month;
            few = λ k. (omega (arith, more_long, f.0), rw o (holds_more f.1 (month, signed minus n) f.0 room));
            many = λ k. absurd (omega arith);
          }

      pub on_full : 64 ≤ t.count → Going s (Done start minus n month) (record { count = 65; months = t.months; offsets = t.offsets; vouched = t.vouched }) (i + 1)
      on_full full = record {
        pairs = more;
        goes = next l e q;
        inside = omega arith;
        no_month = h.no_month;
        few = λ k. absurd (omega arith);
        many = λ k. by_order 64 t.count (λ g. omega (arith, more_long, h.many g)) (λ g. omega (arith, more_long, (h.few g).0));
      }

    pub on_dead : {p : ℕ} (whole : Bool) → m' ≡ Dead p → refused_at KERNEL p ≡ verdict whole s
    on_dead {p} whole q =
        let g : Dead p ≡ (scan s).mode = sym (dead_run p h.pairs (i + 1) (drop (i + 1) s)) ∙ ap (λ r. r.mode) (next l e q) in
        ap (λ x. ended whole (length s) x (table_of (scan s).pairs)) g
