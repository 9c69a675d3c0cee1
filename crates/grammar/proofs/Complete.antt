-- A kernel by the grammar is good for the automaton, which notes its pairs.
-- Each part of a file is read: what reads on from behind it reads from its start.
-- Assumes nothing.
use Prim.Native.Nat.{ℕ, ◌+◌, ◌-◌, ◌*◌, ◌%◌, ◌≤◌, ◌<◌}
use mathlib.Core.Path.{◌≡◌, refl, sym, ap, subst, ◌∙◌}
use mathlib.Core.Logic.{◌⊎◌, inl, inr}
use mathlib.Core.Bool.{Bool, true, false, cond, not, ◌&&◌, ◌||◌}
use mathlib.Core.List.{List, [], ◌∷◌, ◌++◌, map, append_assoc, append-nil}
use native.Mathlib.Omega.{arith}
use borrow.Author.Tests.{ltb-true, lt-ltb, le-leb, eqb-true, not-true}
use lib.Dec.{ltb, eqb, lit<}
use lib.IntN.{ℤ}
use lib.ListN.{length}
use Rattle.laws.proofs.Cases.{by_test, both, join, one_of}
use Rattle.digits.specs.Decimals.{is_digit, digit_value, spelled, signed}
use Rattle.digits.specs.Months.{month_name}
use Rattle.digits.proofs.Decimals.{value_most}
use Rattle.leap.specs.Entries.{Entry}
use Rattle.automaton.specs.declared.Mode.{Mode}
use Rattle.automaton.specs.declared.Mode.TheVariants.{Rest, Inside, Name, Ours, Pair, Date, Done, Dead}
use Rattle.automaton.specs.declared.Resting.TheVariants.{Text, Fresh, Gap, Closed, Run, Quoted}
use Rattle.automaton.specs.declared.Within.TheVariants.{Close, Other, Plus, Value, Quote, Open, Items, ItemRun, ItemQuote, ItemQuoted}
use Rattle.automaton.specs.declared.Pairing.TheVariants.{Named, OurValue, First, Pairs}
use Rattle.automaton.specs.declared.Counting.TheVariants.{Sign, Digits, ToDate}
use Rattle.automaton.specs.declared.Dating.TheVariants.{Year, Month, Day}
use Rattle.kinds.specs.Kinds.{is_white, is_gap, is_between, is_run, is_name, upper, begin_data, begin_text, ours}
use Rattle.kinds.specs.Parts.{matched, grown, years_begin, grown_year, month_on, month_number}
use Rattle.automaton.specs.Step.{step}
use Rattle.automaton.specs.Run.{noted, may_end, run, scan}
use Rattle.grammar.specs.Grammar as G
use Rattle.grammar.specs.Grammar.{every, Row, Some, some, One, one, Is, ◌▸◌, Operator, equals, plus_equals, is_plain, Item, Whole, Assigns, Stops, MonthName, Stand, text, data_on, not_feed, BeginsData, File}
use Rattle.grammar.proofs.Good.{Good}
use Rattle.leap.proofs.Kept.{SameOrLarge, Kept}
use Rattle.grammar.proofs.Running.{run_append, step_on, dead_run}
use Rattle.grammar.proofs.Lines.{behind_line, feed, white_plain, first_far, along, begins, or_not}
use Rattle.grammar.proofs.Names.{never, name_from, not_all}
use Rattle.grammar.proofs.Months.{Leads, leads}
use Rattle.grammar.proofs.Told.{kept_of, same_kept, signed_same}

-- ---- reading to the end

pub record Reads (m : Mode) (t : List Entry) (s : List ℕ) (r : List Entry) : Type 0 where
  pub all : (at : ℕ) → may_end (run m t at s).mode ≡ true
  pub ends : (at : ℕ) → (run m t at s).pairs ≡ r

step_to : {m : Mode} {t : List Entry} {s : List ℕ} {r : List Entry} (b : ℕ) (f : ℕ → Mode) → ((at : ℕ) → step (ltb 0 (length t)) at m b ≡ f at) → ((at : ℕ) → Reads (f at) (noted (f at) t) s r) → Reads m t (b ∷ s) r
step_to {m} {t} {s} b f e h = record {
  all = λ at. ap (λ x. may_end x.mode) (step_on m t at b s (e at)) ∙ (h at).all (at + 1);
  ends = λ at. ap (λ x. x.pairs) (step_on m t at b s (e at)) ∙ (h at).ends (at + 1);
}

on : {m : Mode} {t : List Entry} {s : List ℕ} {r : List Entry} (b : ℕ) (m' : Mode) → ((at : ℕ) → step (ltb 0 (length t)) at m b ≡ m') → Reads m' (noted m' t) s r → Reads m t (b ∷ s) r
on b m' e h = step_to b (λ _. m') e (λ _. h)

module _ {A B : List ℕ → Type 0} {m : Mode} {t : List Entry} {x s : List ℕ} {r : List Entry} where
  seq : (A ▸ B) x → ((f g : List ℕ) → A f → B g → Reads m t (f ++ (g ++ s)) r) → Reads m t (x ++ s) r
  seq p h = subst (λ l. Reads m t l r) (sym (ap (λ l. l ++ s) p.split ∙ append_assoc p.first p.rest s)) (h p.first p.rest p.is_first p.is_rest)

at : {A B : List ℕ → Type 0} {m : Mode} {t : List Entry} {x : List ℕ} {r : List Entry} (s : List ℕ) (p : (A ▸ B) x) → Reads m t (p.first ++ (p.rest ++ s)) r → Reads m t (x ++ s) r
at {m = m} {t = t} {r = r} s p q = subst (λ l. Reads m t l r) (sym (ap (λ l. l ++ s) p.split ∙ append_assoc p.first p.rest s)) q

-- nothing is noted here
abbrev Quiet : Mode → Type 0
Quiet m = (t : List Entry) → noted m t ≡ t

Stays : (ℕ → Bool) → Mode → Type 0
Stays f m = (have : Bool) (at b : ℕ) → f b ≡ true → step have at m b ≡ m

rows : (f : ℕ → Bool) (m : Mode) {t : List Entry} {s : List ℕ} {r : List Entry} → Quiet m → Stays f m → (x : List ℕ) → Row f x → Reads m t s r → Reads m t (x ++ s) r
unfolding every Stays
rows f m n e [] h q = q
rows f m {t} n e (b ∷ x) h q =
    let v = both (f b) (every f x) h in
    on b m (λ at. e (ltb 0 (length t)) at b v.0) (rw (n t) (rows f m n e x v.1 q))

-- ---- bytes by kind

between5 : (P : ℕ → Type 0) → P 32 → P 9 → P 13 → P 10 → P 44 → (b : ℕ) → is_between b ≡ true → P b
between5 P p1 p2 p3 p4 p5 b e = go5 (one_of (is_gap b) (eqb b 44) e)
  where
    at_is : (c : ℕ) → P c → eqb b c ≡ true → P b
    at_is c p f = subst P (sym (eqb-true b c f)) p

    go2 : (eqb b 9 ≡ true) ⊎ (eqb b 13 ≡ true) → P b
    go2 (inl f) = at_is 9 p2 f
    go2 (inr f) = at_is 13 p3 f

    go3 : (eqb b 32 ≡ true) ⊎ ((eqb b 9 || eqb b 13) ≡ true) → P b
    go3 (inl f) = at_is 32 p1 f
    go3 (inr f) = go2 (one_of (eqb b 9) (eqb b 13) f)

    go4 : (is_white b ≡ true) ⊎ (eqb b 10 ≡ true) → P b
    go4 (inl f) = go3 (one_of (eqb b 32) (eqb b 9 || eqb b 13) f)
    go4 (inr f) = at_is 10 p4 f

    go5 : (is_gap b ≡ true) ⊎ (eqb b 44 ≡ true) → P b
    go5 (inl f) = go4 (one_of (is_white b) (eqb b 10) f)
    go5 (inr f) = at_is 44 p5 f

apart : (f : ℕ → Bool) (b c : ℕ) → f b ≡ true → f c ≡ false → eqb b c ≡ false
apart f b c e g = by_test (eqb b c) (λ h. never {b = f c} (ap f (sym (eqb-true b c h)) ∙ e) g) (λ h. h)

-- a kind that has none of the bytes that part
apart_between : (f : ℕ → Bool) → f 32 ≡ false → f 9 ≡ false → f 13 ≡ false → f 10 ≡ false → f 44 ≡ false → (b : ℕ) → f b ≡ true → is_between b ≡ false
apart_between f h1 h2 h3 h4 h5 b e = by_test (is_between b) (λ g. between5 (λ b. f b ≡ true → is_between b ≡ false) (λ x. never x h1) (λ x. never x h2) (λ x. never x h3) (λ x. never x h4) (λ x. never x h5) b g e) (λ g. g)

gap_between : (b : ℕ) → is_between b ≡ false → is_gap b ≡ false
gap_between b e = by_test (is_gap b) (λ g. never {b = is_between b} (ap (λ x. x || eqb b 44) g) e) (λ g. g)

white_gap : (b : ℕ) → is_gap b ≡ false → is_white b ≡ false
white_gap b e = by_test (is_white b) (λ g. never {b = is_gap b} (ap (λ x. x || eqb b 10) g) e) (λ g. g)

name_run : (b : ℕ) → is_name b ≡ true → is_run b ≡ true
name_run b e = (both (is_run b) (not (eqb b 43 || eqb b 64)) e).0

run_gap : (b : ℕ) → is_run b ≡ true → is_between b ≡ false
run_gap b e = apart_between is_run refl refl refl refl refl b e

-- ---- where the next byte decides as elsewhere

-- m reads on as m0 does, but for bytes that m0 refuses
instead : {t r : List Entry} (s : List ℕ) (m m0 : Mode) → (may_end m0 ≡ true → may_end m ≡ true) → ((at b : ℕ) → (step (ltb 0 (length t)) at m b ≡ step (ltb 0 (length t)) at m0 b) ⊎ (step (ltb 0 (length t)) at m0 b ≡ Dead at)) → Reads m0 t s r → Reads m t s r
unfolding run
instead [] m m0 f g q = record { all = λ at. f (q.all at); ends = q.ends }
instead {t} {r} (b ∷ s) m m0 f g q = record { all = λ at. (both_ways at (g at b)).0; ends = λ at. (both_ways at (g at b)).1 }
  where
    dead : {A : Type 0} (at : ℕ) → step (ltb 0 (length t)) at m0 b ≡ Dead at → A
    dead at e =
        never (q.all at) (ap (λ x. may_end x.mode) (step_on m0 t at b s e) ∙ ap may_end (dead_run at t (at + 1) s))

    both_ways : (at : ℕ) → (step (ltb 0 (length t)) at m b ≡ step (ltb 0 (length t)) at m0 b) ⊎ (step (ltb 0 (length t)) at m0 b ≡ Dead at) → (may_end (run m t at (b ∷ s)).mode ≡ true) × ((run m t at (b ∷ s)).pairs ≡ r)
    both_ways at (inl e) = let w = step_on m t at b s e in (ap (λ x. may_end x.mode) w ∙ q.all at, ap (λ x. x.pairs) w ∙ q.ends at)
    both_ways at (inr e) = dead at e

-- ---- names and operators

stays_other : Stays is_gap (Inside Other)
unfolding step Stays
stays_other have at b e = rw e

stays_ours : Stays is_gap (Ours Named)
unfolding step Stays
stays_ours have at b e = rw e

stays_value : Stays is_gap (Inside Value)
unfolding step Stays
stays_value have at b e = rw e

stays_our_value : Stays is_gap (Ours OurValue)
unfolding step Stays
stays_our_value have at b e = rw e

-- a name byte behind a name is refused there
name_other : (have : Bool) (at b : ℕ) → is_name b ≡ true → step have at (Inside Other) b ≡ Dead at
unfolding step
name_other have at b e = rw (gap_between b (run_gap b (name_run b e)), apart is_name b 43 e refl, apart is_name b 61 e refl)

name_ours : (have : Bool) (at b : ℕ) → is_name b ≡ true → step have at (Ours Named) b ≡ Dead at
unfolding step
name_ours have at b e = rw (gap_between b (run_gap b (name_run b e)), apart is_name b 61 e refl)

other_step : (k start : ℕ) (have : Bool) (at b : ℕ) → eqb k 15 ≡ false → is_name b ≡ false → step have at (Name k start) b ≡ step have at (Inside Other) b
unfolding step
other_step k start have at b z e = rw (e, z)

ours_step : (start : ℕ) (have : Bool) (at b : ℕ) → have ≡ false → is_name b ≡ false → step have at (Name 15 start) b ≡ step have at (Ours Named) b
unfolding step
ours_step start have at b z e = rw (e, z)

behind_other : {t r : List Entry} (k start : ℕ) (s : List ℕ) → eqb k 15 ≡ false → Reads (Inside Other) t s r → Reads (Name k start) t s r
behind_other {t} k start s z = instead s (Name k start) (Inside Other) (λ e. never e refl) (λ at b. by_test (is_name b) (λ e. inr (name_other (ltb 0 (length t)) at b e)) (λ e. inl (other_step k start (ltb 0 (length t)) at b z e)))

behind_ours : {t r : List Entry} (start : ℕ) (s : List ℕ) → ltb 0 (length t) ≡ false → Reads (Ours Named) t s r → Reads (Name 15 start) t s r
behind_ours {t} start s z = instead s (Name 15 start) (Ours Named) (λ e. never e refl) (λ at b. by_test (is_name b) (λ e. inr (name_ours (ltb 0 (length t)) at b e)) (λ e. inl (ours_step start (ltb 0 (length t)) at b z e)))

name_byte : (have : Bool) (at k start b : ℕ) → is_name b ≡ true → step have at (Name k start) b ≡ Name (matched ours k b) start
unfolding step
name_byte have at k start b e = rw e

-- the rest of a name
name_rest : {t r : List Entry} {s : List ℕ} (start k : ℕ) (x : List ℕ) → Row is_name x → Reads (Name (name_from k x) start) t s r → Reads (Name k start) t (x ++ s) r
unfolding every name_from
name_rest start k [] h q = q
name_rest {t} start k (b ∷ x) h q =
    let v = both (is_name b) (every is_name x) h in
    on b (Name (matched ours k b) start) (λ at. name_byte (ltb 0 (length t)) at k start b v.0) (name_rest start (matched ours k b) x v.1 q)

abbrev mode_of : Stand → Mode
mode_of text = Rest (Text 0)
mode_of (data_on f) = cond f (Rest Fresh) (Rest Gap)

name_begins : (f have : Bool) (at b : ℕ) → is_name b ≡ true → step have at (cond f (Rest Fresh) (Rest Gap)) b ≡ Name (matched ours 0 b) at
unfolding step
name_begins true have at b e = rw (e, apart is_name b 92 e refl, white_gap b (gap_between b (run_gap b (name_run b e))), apart is_name b 10 e refl)
name_begins false have at b e = rw (e, white_gap b (gap_between b (run_gap b (name_run b e))), apart is_name b 10 e refl)

a_name : {t r : List Entry} {s : List ℕ} (f : Bool) {x : List ℕ} → Some is_name x → ((start : ℕ) → Reads (Name (name_from 0 x) start) t s r) → Reads (cond f (Rest Fresh) (Rest Gap)) t (x ++ s) r
unfolding name_from
a_name {t} f (some {b = b} {x = x} e h) q = step_to b (λ at. Name (matched ours 0 b) at) (λ at. name_begins f (ltb 0 (length t)) at b e) (λ at. name_rest at (matched ours 0 b) x h (q at))

operator : {t r : List Entry} {s : List ℕ} {x : List ℕ} → Operator x → Reads (Inside Value) t s r → Reads (Inside Other) t (x ++ s) r
unfolding step
operator equals q = on 61 (Inside Value) (λ at. refl) q
operator plus_equals q = on 43 (Inside Plus) (λ at. refl) (on 61 (Inside Value) (λ at. refl) q)

-- ---- values

stays_run : Stays is_run (Rest Run)
unfolding step Stays
stays_run have at b e = rw e

run_begins : (have : Bool) (at b : ℕ) → is_run b ≡ true → step have at (Inside Value) b ≡ (Rest Run)
unfolding step
run_begins have at b e = rw (e, gap_between b (run_gap b e), apart is_run b 40 e refl, apart is_run b 39 e refl)

run_stops : {t r : List Entry} (s : List ℕ) → Stops s → Reads (Rest Gap) t s r → Reads (Rest Run) t s r
unfolding run step
run_stops [] h q = record { all = λ at. refl; ends = q.ends }
run_stops {t} {r} (b ∷ s) h q =
    let e : (at : ℕ) → step (ltb 0 (length t)) at (Rest Run) b ≡ step (ltb 0 (length t)) at (Rest Gap) b = λ at. rw h in
    record {
      all = λ at. ap (λ x. may_end x.mode) (step_on (Rest Run) t at b s (e at)) ∙ q.all at;
      ends = λ at. ap (λ x. x.pairs) (step_on (Rest Run) t at b s (e at)) ∙ q.ends at;
    }

a_run : {t r : List Entry} {s : List ℕ} {x : List ℕ} → Some is_run x → Stops s → Reads (Rest Gap) t s r → Reads (Inside Value) t (x ++ s) r
a_run {t} {s = s} (some {b = b} {x = x} e h) z q = on b (Rest Run) (λ at. run_begins (ltb 0 (length t)) at b e) (rows is_run (Rest Run) (λ t. refl) stays_run x h (run_stops s z q))

plain_quote : (m : Bool) (have : Bool) (at b : ℕ) → is_plain b ≡ true → step have at (cond m (Inside ItemQuote) (Inside Quote)) b ≡ cond m (Inside ItemQuote) (Inside Quote)
unfolding step
plain_quote true have at b e = let v = both (not (eqb b 39)) (not (eqb b 10 || eqb b 92)) e in rw (not-true (eqb b 39) v.0, not-true (eqb b 10 || eqb b 92) v.1)
plain_quote false have at b e = let v = both (not (eqb b 39)) (not (eqb b 10 || eqb b 92)) e in rw (not-true (eqb b 39) v.0, not-true (eqb b 10 || eqb b 92) v.1)

-- a text in quotes, as a value and as an item
quoted : {t r : List Entry} {s : List ℕ} {x : List ℕ} → G.Quoted x → Reads (Rest Quoted) t s r → Reads (Inside Quote) t (x ++ s) r
unfolding step
quoted G.Quoted.closes q = on 39 (Rest Quoted) (λ at. refl) q
quoted (G.Quoted.doubled h) q = on 39 (Rest Quoted) (λ at. refl) (on 39 (Inside Quote) (λ at. refl) (quoted h q))
quoted {t} (G.Quoted.plain {b = b} e h) q = on b (Inside Quote) (λ at. plain_quote false (ltb 0 (length t)) at b e) (quoted h q)

item_quoted : {t r : List Entry} {s : List ℕ} {x : List ℕ} → G.Quoted x → Reads (Inside ItemQuoted) t s r → Reads (Inside ItemQuote) t (x ++ s) r
unfolding step
item_quoted G.Quoted.closes q = on 39 (Inside ItemQuoted) (λ at. refl) q
item_quoted (G.Quoted.doubled h) q = on 39 (Inside ItemQuoted) (λ at. refl) (on 39 (Inside ItemQuote) (λ at. refl) (item_quoted h q))
item_quoted {t} (G.Quoted.plain {b = b} e h) q = on b (Inside ItemQuote) (λ at. plain_quote true (ltb 0 (length t)) at b e) (item_quoted h q)

quote_gap : (have : Bool) (at b : ℕ) → (step have at (Rest Quoted) b ≡ step have at (Rest Gap) b) ⊎ (step have at (Rest Gap) b ≡ Dead at)
unfolding step
quote_gap have at b = by_test (eqb b 39) (λ e. inr (rw (eqb-true b 39 e))) (λ e. inl (rw e))

behind_quote : {t r : List Entry} (s : List ℕ) → Reads (Rest Gap) t s r → Reads (Rest Quoted) t s r
behind_quote {t} s = instead s (Rest Quoted) (Rest Gap) (λ e. refl) (λ at b. quote_gap (ltb 0 (length t)) at b)

-- ---- items

-- an item may begin at m
record Begins (m : Mode) : Type 0 where
  no_entry : Quiet m
  still : Stays is_between m
  a_run : (have : Bool) (at b : ℕ) → is_run b ≡ true → step have at m b ≡ (Inside ItemRun)
  a_text : (have : Bool) (at : ℕ) → step have at m 39 ≡ (Inside ItemQuote)

at_open : Begins (Inside Open)
unfolding step Stays
at_open = record { no_entry = λ t. refl; still = λ have at b e. rw e; a_run = λ have at b e. rw (e, run_gap b e, apart is_run b 39 e refl); a_text = λ have at. refl }

at_items : Begins (Inside Items)
unfolding step Stays
at_items = record { no_entry = λ t. refl; still = λ have at b e. rw e; a_run = λ have at b e. rw (e, run_gap b e, apart is_run b 41 e refl, apart is_run b 39 e refl); a_text = λ have at. refl }

-- an item has ended at m
record Ended (m n : Mode) : Type 0 where
  parts : (have : Bool) (at b : ℕ) → is_between b ≡ true → step have at m b ≡ n
  closes : (have : Bool) (at : ℕ) → step have at m 41 ≡ (Rest Gap)

ended_run : Ended (Inside ItemRun) (Inside Items)
unfolding step
ended_run = record { parts = λ have at. between5 (λ b. step have at (Inside ItemRun) b ≡ (Inside Items)) refl refl refl refl refl; closes = λ have at. refl }

ended_text : Ended (Inside ItemQuoted) (Inside Items)
unfolding step
ended_text = record { parts = λ have at. between5 (λ b. step have at (Inside ItemQuoted) b ≡ (Inside Items)) refl refl refl refl refl; closes = λ have at. refl }

ended_items : Ended (Inside Items) (Inside Items)
unfolding step
ended_items = record { parts = λ have at. between5 (λ b. step have at (Inside Items) b ≡ (Inside Items)) refl refl refl refl refl; closes = λ have at. refl }

ended_done : (start : ℕ) (minus : Bool) (n month : ℕ) → Ended (Done start minus n month) (Ours Pairs)
unfolding step
ended_done start minus n month = record { parts = λ have at. between5 (λ b. step have at (Done start minus n month) b ≡ (Ours Pairs)) refl refl refl refl refl; closes = λ have at. refl }

ended_pairs : Ended (Ours Pairs) (Ours Pairs)
unfolding step
ended_pairs = record { parts = λ have at. between5 (λ b. step have at (Ours Pairs) b ≡ (Ours Pairs)) refl refl refl refl refl; closes = λ have at. refl }

row_split : (f : ℕ → Bool) (b : ℕ) (w : List ℕ) → Row f (b ∷ w) → (f b ≡ true) × Row f w
unfolding every
row_split f b w h = both (f b) (every f w) h

closing_row : {t r : List Entry} {s : List ℕ} {n : Mode} (w : List ℕ) → Row is_between w → Ended n n → Quiet n → Reads n t s r → Reads n t (w ++ s) r
unfolding Stays
closing_row {n = n} w h d z q = rows is_between n z d.parts w h q

stays_item_run : Stays is_run (Inside ItemRun)
unfolding step Stays
stays_item_run have at b e = rw e

parting : {t r : List Entry} {s : List ℕ} {m n : Mode} {x : List ℕ} → Ended m n → Quiet n → One is_between x → Reads n t s r → Reads m t (x ++ s) r
parting {t} {n = n} d z (one {b = b} e) q = on b n (λ at. d.parts (ltb 0 (length t)) at b e) (rw (z t) q)

closing : {t r : List Entry} {s : List ℕ} {m n : Mode} {x : List ℕ} → Ended m n → Ended n n → Quiet n → (Row is_between ▸ Is (41 ∷ [])) x → Reads (Rest Gap) t s r → Reads m t (x ++ s) r
closing {t} {r} {s} {m} {n} d d' z p q = seq p (λ w c h e. subst (λ l. Reads m t (w ++ (l ++ s)) r) (sym e) (go w h))
  where
    shut : {m : Mode} → Ended m n → Reads m t (41 ∷ s) r
    shut d = on 41 (Rest Gap) (λ at. d.closes (ltb 0 (length t)) at) q

    more : (w : List ℕ) → Row is_between w → Reads n t (w ++ (41 ∷ s)) r
    more w h = closing_row w h d' z (shut d')

    go : (w : List ℕ) → Row is_between w → Reads m t (w ++ (41 ∷ s)) r
    go [] h = shut d
    go (b ∷ w) h = let v = row_split is_between b w h in on b n (λ at. d.parts (ltb 0 (length t)) at b v.0) (rw (z t) (more w v.1))

item : {t r : List Entry} {s : List ℕ} {m : Mode} {x : List ℕ} → Begins m → Item x → ((n : Mode) → Ended n (Inside Items) → Reads n t s r) → Reads m t (x ++ s) r
item {t} g (Item.a_run (some {b = b} {x = x} e h)) q = on b (Inside ItemRun) (λ at. g.a_run (ltb 0 (length t)) at b e) (rows is_run (Inside ItemRun) (λ t. refl) stays_item_run x h (q (Inside ItemRun) ended_run))
item {t} g (Item.a_text h) q = on 39 (Inside ItemQuote) (λ at. g.a_text (ltb 0 (length t)) at) (item_quoted h (q (Inside ItemQuoted) ended_text))

items : {t r : List Entry} {s : List ℕ} (m : Mode) {x : List ℕ} → Begins m → G.Items x → Reads (Rest Gap) t s r → Reads m t (x ++ s) r
items m g (G.Items.last p) q =
    seq p (λ w y hw p2. rows is_between m g.no_entry g.still w hw (seq p2 (λ i z hi hz. item g hi (λ n d. closing d ended_items (λ t. refl) hz q))))
items {t} {r} {s} m g (G.Items.more {x = x} {s = y} p i) q =
    subst (λ l. Reads m t l r) (sym (append_assoc x y s))
    (seq p (λ w v hw p2. rows is_between m g.no_entry g.still w hw (seq p2 (λ j z hj hz. item g hj (λ n d. parting d (λ t. refl) hz (items (Inside Items) at_items i q))))))

a_closed : {t r : List Entry} {s : List ℕ} {x : List ℕ} → G.Closed x → Reads (Rest Gap) t s r → Reads (Inside Value) t (x ++ s) r
unfolding step
a_closed {s = s} (G.Closed.a_text h) q = on 39 (Inside Quote) (λ at. refl) (quoted h (behind_quote s q))
a_closed (G.Closed.items i) q = on 40 (Inside Open) (λ at. refl) (items (Inside Open) at_open i q)

another : {t r : List Entry} {s : List ℕ} (f : Bool) {A : List ℕ → Type 0} {x : List ℕ} → Assigns A x → ((v : List ℕ) → A v → Reads (Inside Value) t (v ++ s) r) → Reads (cond f (Rest Fresh) (Rest Gap)) t (x ++ s) r
another {t} {r} {s} f p q =
    seq p (λ n g a p2. a_name f a.name (λ start. behind_other (name_from 0 n) start (g ++ s) (not_all n a.not_ours)
    (seq p2 (λ w g2 hw p3. rows is_gap (Inside Other) (λ t. refl) stays_other w hw (seq p3 (λ o g3 ho p4. operator ho (seq p4 (λ w2 v hw2 hv. rows is_gap (Inside Value) (λ t. refl) stays_value w2 hw2 (q v hv)))))))))

-- ---- numbers

Starts : Mode → Bool → Type 0
Starts m minus = (have : Bool) (at b : ℕ) → is_digit b ≡ true → step have at m b ≡ Pair minus (grown 0 b) Digits

-- a pair may begin at m
record PairBegins (m : Mode) : Type 0 where
  no_entry : Quiet m
  still : Stays is_between m
  digit : Starts m false
  plus : (have : Bool) (at : ℕ) → step have at m 43 ≡ Pair false 0 Sign
  minus : (have : Bool) (at : ℕ) → step have at m 45 ≡ Pair true 0 Sign

digit_gap : (b : ℕ) → is_digit b ≡ true → is_between b ≡ false
digit_gap b e = apart_between is_digit refl refl refl refl refl b e

at_first : PairBegins (Ours First)
unfolding step Stays Starts
at_first = record { no_entry = λ t. refl; still = λ have at b e. rw e; digit = λ have at b e. rw (e, digit_gap b e, apart is_digit b 43 e refl, apart is_digit b 45 e refl); plus = λ have at. refl; minus = λ have at. refl }

at_pairs : PairBegins (Ours Pairs)
unfolding step Stays Starts
at_pairs = record { no_entry = λ t. refl; still = λ have at b e. rw e; digit = λ have at b e. rw (e, digit_gap b e, apart is_digit b 41 e refl, apart is_digit b 43 e refl, apart is_digit b 45 e refl); plus = λ have at. refl; minus = λ have at. refl }

at_sign : (minus : Bool) → Starts (Pair minus 0 Sign) minus
unfolding step Starts
at_sign minus have at b e = rw e

digit_step : (have : Bool) (at : ℕ) (minus : Bool) (n b : ℕ) → is_digit b ≡ true → step have at (Pair minus n Digits) b ≡ Pair minus (grown n b) Digits
unfolding step
digit_step have at minus n b e = rw e

digits_rest : {t r : List Entry} {s : List ℕ} (minus : Bool) (n : ℕ) (x : List ℕ) → Row is_digit x → Reads (Pair minus (kept_of n x) Digits) t s r → Reads (Pair minus n Digits) t (x ++ s) r
unfolding kept_of
digits_rest minus n [] h q = q
digits_rest {t} minus n (b ∷ x) h q = let v = row_split is_digit b x h in on b (Pair minus (grown n b) Digits) (λ at. digit_step (ltb 0 (length t)) at minus n b v.0) (digits_rest minus (grown n b) x v.1 q)

some_digits : {t r : List Entry} {s : List ℕ} {m : Mode} {minus : Bool} {x : List ℕ} → Starts m minus → Some is_digit x → Reads (Pair minus (kept_of 0 x) Digits) t s r → Reads m t (x ++ s) r
unfolding kept_of Starts
some_digits {t} {minus = minus} g (some {b = b} {x = x} e h) q = on b (Pair minus (grown 0 b) Digits) (λ at. g (ltb 0 (length t)) at b e) (digits_rest minus (grown 0 b) x h q)

-- what is kept of a number
minus_of : {z : ℤ} {x : List ℕ} → Whole z x → Bool
minus_of (Whole.bare d) = false
minus_of (Whole.plus d) = false
minus_of (Whole.minus d) = true

size_of : {z : ℤ} {x : List ℕ} → Whole z x → ℕ
size_of (Whole.bare {x = x} d) = kept_of 0 x
size_of (Whole.plus {x = x} d) = kept_of 0 x
size_of (Whole.minus {x = x} d) = kept_of 0 x

whole_kept : {z : ℤ} {x : List ℕ} (w : Whole z x) → SameOrLarge z (signed (minus_of w) (size_of w))
unfolding minus_of size_of
whole_kept (Whole.bare {x = x} d) = signed_same false _ _ (same_kept 0 0 x (inl refl))
whole_kept (Whole.plus {x = x} d) = signed_same false _ _ (same_kept 0 0 x (inl refl))
whole_kept (Whole.minus {x = x} d) = signed_same true _ _ (same_kept 0 0 x (inl refl))

number : {t r : List Entry} {s : List ℕ} {m : Mode} {z : ℤ} {x : List ℕ} → PairBegins m → (w : Whole z x) → Reads (Pair (minus_of w) (size_of w) Digits) t s r → Reads m t (x ++ s) r
unfolding minus_of size_of
number g (Whole.bare d) q = some_digits g.digit d q
number {t} g (Whole.plus d) q = on 43 (Pair false 0 Sign) (λ at. g.plus (ltb 0 (length t)) at) (some_digits (at_sign false) d q)
number {t} g (Whole.minus d) q = on 45 (Pair true 0 Sign) (λ at. g.minus (ltb 0 (length t)) at) (some_digits (at_sign true) d q)

-- ---- dates

stays_to_date : (minus : Bool) (n : ℕ) → Stays is_between (Pair minus n ToDate)
unfolding step Stays
stays_to_date minus n have at b e = rw e

to_date : (have : Bool) (at : ℕ) (minus : Bool) (n b : ℕ) → is_between b ≡ true → step have at (Pair minus n Digits) b ≡ Pair minus n ToDate
unfolding step
to_date have at minus n = between5 (λ b. step have at (Pair minus n Digits) b ≡ Pair minus n ToDate) refl refl refl refl refl

between_date : {t r : List Entry} {s : List ℕ} {minus : Bool} {n : ℕ} {x : List ℕ} → Some is_between x → Reads (Pair minus n ToDate) t s r → Reads (Pair minus n Digits) t (x ++ s) r
between_date {t} {minus = minus} {n = n} (some {b = b} {x = x} e h) q = on b (Pair minus n ToDate) (λ at. to_date (ltb 0 (length t)) at minus n b e) (rows is_between (Pair minus n ToDate) (λ t. refl) (stays_to_date minus n) x h q)

value_low : (x : List ℕ) → length x ≡ 4 → spelled 0 x ≤ 9999
unfolding spelled
value_low [] n = absurd (omega arith)
value_low (a ∷ []) n = absurd (omega arith)
value_low (a ∷ b ∷ []) n = absurd (omega arith)
value_low (a ∷ b ∷ c ∷ []) n = absurd (omega arith)
value_low (a ∷ b ∷ c ∷ d ∷ []) n = omega (arith, value_most a, value_most b, value_most c, value_most d)
value_low (a ∷ b ∷ c ∷ d ∷ e ∷ x) n = absurd (omega arith)

module _ (start : ℕ) (minus : Bool) (n : ℕ) where
  year_digit : (have : Bool) (at k year b v : ℕ) → k < 4 → is_digit b ≡ true → grown_year year b ≡ v → years_begin k v ≡ true → step have at (Date start minus n (Year k year)) b ≡ Date start minus n (Year (k + 1) v)
  unfolding step
  year_digit have at k year b v h l e f = rw (lt-ltb k 4 h, l, e, f)

  four : {t r : List Entry} {s : List ℕ} (y : ℕ) (x : List ℕ) → length x ≡ 4 → Row is_digit x → spelled 0 x ≡ y → 1972 ≤ y → Reads (Date start minus n (Year 4 y)) t s r → Reads (Date start minus n (Year 0 0)) t (x ++ s) r
  unfolding spelled every
  four y [] z h v l q = absurd (omega arith)
  four y (a ∷ []) z h v l q = absurd (omega arith)
  four y (a ∷ b ∷ []) z h v l q = absurd (omega arith)
  four y (a ∷ b ∷ c ∷ []) z h v l q = absurd (omega arith)
  four {t} y (a ∷ b ∷ c ∷ d ∷ []) z h v l q =
      let ha = both (is_digit a) (is_digit b && (is_digit c && (is_digit d && true))) h in
      let hb = both (is_digit b) (is_digit c && (is_digit d && true)) ha.1 in
      let hc = both (is_digit c) (is_digit d && true) hb.1 in
      let hd = both (is_digit d) true hc.1 in
      let la = value_most a in
      let lb = value_most b in
      let lc = value_most c in
      let ld = value_most d in
      let have = ltb 0 (length t) in
      let v1 = digit_value a in
      let v2 = v1 * 10 + digit_value b in
      let v3 = v2 * 10 + digit_value c in
      on a (Date start minus n (Year 1 v1)) (λ at. year_digit have at 0 0 a v1 (lit< tt) ha.0 (omega arith) (le-leb 1 v1 (omega arith)))
      (on b (Date start minus n (Year 2 v2)) (λ at. year_digit have at 1 v1 b v2 (lit< tt) hb.0 (omega arith) (le-leb 19 v2 (omega arith)))
      (on c (Date start minus n (Year 3 v3)) (λ at. year_digit have at 2 v2 c v3 (lit< tt) hc.0 (omega arith) (le-leb 197 v3 (omega arith)))
      (on d (Date start minus n (Year 4 y)) (λ at. year_digit have at 3 v3 d y (lit< tt) hd.0 (omega arith) (le-leb 1972 y l)) q)))
  four y (a ∷ b ∷ c ∷ d ∷ e ∷ x) z h v l q = absurd (omega arith)

  letter_step : (have : Bool) (at y k from b v : ℕ) {c : ℕ} → k < 3 → upper b ≡ c → month_on from k c 12 ≡ v → 0 < v → step have at (Date start minus n (Month y k from)) b ≡ Date start minus n (Month y (k + 1) v)
  unfolding step
  letter_step have at y k from b v h u e f = rw (lt-ltb k 3 h, u, e, lt-ltb 0 v f)

module _ (start : ℕ) (minus : Bool) (n : ℕ) where
  three : {t r : List Entry} {s : List ℕ} (y m : ℕ) (x : List ℕ) → 1 ≤ m → Leads m → map upper x ≡ month_name m → Reads (Date start minus n (Month y 3 m)) t s r → Reads (Date start minus n (Month y 0 0)) t (x ++ s) r
  three y m [] h w e q = let z : ◌≡◌ {A = ℕ} 0 1 = cc in absurd (omega arith)
  three y m (a ∷ []) h w e q = let z : ◌≡◌ {A = ℕ} 0 1 = cc in absurd (omega arith)
  three y m (a ∷ b ∷ []) h w e q = let z : ◌≡◌ {A = ℕ} 0 1 = cc in absurd (omega arith)
  three {t} y m (a ∷ b ∷ c ∷ []) h w e q =
      let have = ltb 0 (length t) in
      on a (Date start minus n (Month y 1 w.m1)) (λ at. letter_step start minus n have at y 0 0 a w.m1 (lit< tt) (heads e).0 w.first w.some_first)
      (on b (Date start minus n (Month y 2 w.m2)) (λ at. letter_step start minus n have at y 1 w.m1 b w.m2 (lit< tt) (heads e).1 w.second w.some_second)
      (on c (Date start minus n (Month y 3 m)) (λ at. letter_step start minus n have at y 2 w.m2 c m (lit< tt) (heads e).2 w.third h) q))
    where
      heads : {a b c d e f : ℕ} → (a ∷ b ∷ c ∷ []) ≡ (d ∷ e ∷ f ∷ []) → (a ≡ d) × (b ≡ e) × (c ≡ f)
      heads h = ((cc), (cc), (cc))
  three y m (a ∷ b ∷ c ∷ d ∷ x) h w e q = let z : ◌≡◌ {A = ℕ} 0 1 = cc in absurd (omega arith)

  day : {t r : List Entry} {s : List ℕ} (month : ℕ) {x : List ℕ} → G.Day x → Reads (Done start minus n month) (t ++ (month, signed minus n) ∷ []) s r → Reads (Date start minus n (Day month false)) t (x ++ s) r
  unfolding step
  day month G.Day.short q = on 49 (Done start minus n month) (λ at. refl) q
  day month G.Day.long q = on 48 (Date start minus n (Day month true)) (λ at. refl) (on 49 (Done start minus n month) (λ at. refl) q)

  month_number_lem : (y m : ℕ) → y ≤ 9999 → month_number y m ≡ (y - 1972) * 12 + (m - 1)
  month_number_lem y m h = let z : y % 10000 ≡ y = omega arith in ap (λ k. (k - 1972) * 12 + (m - 1)) z

  dash_year : (have : Bool) (at y : ℕ) → step have at (Date start minus n (Year 4 y)) 45 ≡ Date start minus n (Month y 0 0)
  unfolding step
  dash_year have at y = refl

  dash_month : (have : Bool) (at y p : ℕ) → step have at (Date start minus n (Month y 3 p)) 45 ≡ Date start minus n (Day (month_number y p) false)
  unfolding step
  dash_month have at y p = refl

  behind_at : {t r : List Entry} {s : List ℕ} (y m : ℕ) {x : List ℕ} → (G.Year y ▸ (Is (45 ∷ []) ▸ (MonthName m ▸ (Is (45 ∷ []) ▸ G.Day)))) x → Reads (Done start minus n ((y - 1972) * 12 + (m - 1))) (t ++ ((y - 1972) * 12 + (m - 1), signed minus n) ∷ []) s r → Reads (Date start minus n (Year 0 0)) t (x ++ s) r
  behind_at {t} {r} {s} y m p q =
      let have = ltb 0 (length t) in
      seq p (λ f1 g1 h1 p1. four start minus n y f1 h1.four h1.digits h1.value h1.late
      (seq p1 (λ f2 g2 h2 p2. subst (λ l. Reads (Date start minus n (Year 4 y)) t (l ++ (g2 ++ s)) r) (sym h2) (on 45 (Date start minus n (Month y 0 0)) (λ at. dash_year have at y)
      (seq p2 (λ f3 g3 h3 p3. three y m f3 h3.some_month (leads m h3.some_month h3.of_year) h3.letters
      (seq p3 (λ f4 g4 h4 p4. subst (λ l. Reads (Date start minus n (Month y 3 m)) t (l ++ (g4 ++ s)) r) (sym h4) (on 45 (Date start minus n (Day (month_number y m) false)) (λ at. dash_month have at y m)
      (day (month_number y m) p4
      (subst (λ k. Reads (Done start minus n k) (t ++ (k, signed minus n) ∷ []) s r) (sym (month_number_lem y m (rw (← h1.value) (value_low f1 h1.four)))) q)))))))))))

at_date : (have : Bool) (at : ℕ) (minus : Bool) (n : ℕ) → step have at (Pair minus n ToDate) 64 ≡ Date at minus n (Year 0 0)
unfolding step
at_date have at minus n = refl

pub date : {t r : List Entry} {s : List ℕ} {minus : Bool} {n month : ℕ} {x : List ℕ} → G.Date month x → ((start : ℕ) → Reads (Done start minus n month) (t ++ (month, signed minus n) ∷ []) s r) → Reads (Pair minus n ToDate) t (x ++ s) r
date {t} {r} {s} {minus} {n} d q =
    seq d.parts (λ f g h p. subst (λ l. Reads (Pair minus n ToDate) t (l ++ (g ++ s)) r) (sym h) (step_to 64 (λ at. Date at minus n (Year 0 0)) (λ at. at_date (ltb 0 (length t)) at minus n)
    (λ at. behind_at at minus n d.y d.m p (subst (λ k. Reads (Done at minus n k) (t ++ (k, signed minus n) ∷ []) s r) d.number (q at)))))

-- ---- pairs

-- what is kept of a pair, and of pairs
pair_kept : {e : Entry} {x : List ℕ} → G.Pair e x → Entry
pair_kept {e} p = (e.0, signed (minus_of p.is_first) (size_of p.is_first))

pairs_kept : {es : List Entry} {x : List ℕ} → G.Pairs es x → List Entry
pairs_kept (G.Pairs.last p) = pair_kept p.is_rest.is_first ∷ []
pairs_kept (G.Pairs.more p i) = pair_kept p.is_rest.is_first ∷ pairs_kept i

pairs_kept_lem : {es : List Entry} {x : List ℕ} (p : G.Pairs es x) → Kept es (pairs_kept p)
unfolding pair_kept pairs_kept
pairs_kept_lem (G.Pairs.last p) = (refl, (whole_kept p.is_rest.is_first.is_first, tt))
pairs_kept_lem (G.Pairs.more p i) = (refl, (whole_kept p.is_rest.is_first.is_first, pairs_kept_lem i))

pair_text : {t r : List Entry} {s : List ℕ} {m : Mode} {e : Entry} {x : List ℕ} → PairBegins m → (p : G.Pair e x) → ((n : Mode) → Ended n (Ours Pairs) → Reads n (t ++ pair_kept p ∷ []) s r) → Reads m t (x ++ s) r
unfolding pair_kept
pair_text {s = s} {e = e} g p q =
    let w = p.is_first in
    at s p (number g w (seq p.is_rest (λ f3 g3 h3 p3. between_date h3 (date p3 (λ start. q (Done start (minus_of w) (size_of w) e.0) (ended_done start (minus_of w) (size_of w) e.0))))))

pairs : {t r : List Entry} {s : List ℕ} (m : Mode) {es : List Entry} {x : List ℕ} → PairBegins m → (p : G.Pairs es x) → Reads (Rest Gap) (t ++ pairs_kept p) s r → Reads m t (x ++ s) r
unfolding pairs_kept
pairs {s = s} m g (G.Pairs.last p) q =
    at s p (rows is_between m g.no_entry g.still p.first p.is_first (at s p.is_rest (pair_text g p.is_rest.is_first (λ n d. closing d ended_pairs (λ t. refl) p.is_rest.is_rest q))))
pairs {t = t} {r = r} {s = s} m g (G.Pairs.more {e = e} {es = es} {x = x} {s = y} p i) q =
    let k = pair_kept {e = e} p.is_rest.is_first in
    let q' = subst (λ l. Reads (Rest Gap) l s r) (sym (append_assoc t (k ∷ []) (pairs_kept i))) q in
    subst (λ l. Reads m t l r) (sym (append_assoc x y s))
    (at (y ++ s) p (rows is_between m g.no_entry g.still p.first p.is_first (at (y ++ s) p.is_rest (pair_text g p.is_rest.is_first (λ n d. parting d (λ t. refl) p.is_rest.is_rest (pairs {t = t ++ k ∷ []} (Ours Pairs) at_pairs i q'))))))

ours_named : Some is_name ours
unfolding every
ours_named = some refl refl

our_name : {t r : List Entry} {s : List ℕ} (f : Bool) → ltb 0 (length t) ≡ false → Reads (Ours Named) t s r → Reads (cond f (Rest Fresh) (Rest Gap)) t (ours ++ s) r
unfolding name_from matched
our_name {s = s} f z q = a_name f ours_named (λ start. behind_ours start s z q)

ours_kept : {es : List Entry} {x : List ℕ} → G.Ours es x → List Entry
ours_kept p = pairs_kept p.is_rest.is_rest.is_rest.is_rest.is_rest

is_there : {w f : List ℕ} (s : List ℕ) {m : Mode} {t r : List Entry} → f ≡ w → Reads m t (w ++ s) r → Reads m t (f ++ s) r
is_there s {m = m} {t = t} {r = r} e q = subst (λ l. Reads m t (l ++ s) r) (sym e) q

the_ours : {t r : List Entry} {s : List ℕ} (f : Bool) {es : List Entry} {x : List ℕ} → ltb 0 (length t) ≡ false → (p : G.Ours es x) → Reads (Rest Gap) (t ++ ours_kept p) s r → Reads (cond f (Rest Fresh) (Rest Gap)) t (x ++ s) r
unfolding step ours_kept
the_ours {s = s} f z p q =
    let p1 = p.is_rest in
    let p2 = p1.is_rest in
    let p3 = p2.is_rest in
    let p4 = p3.is_rest in
    at s p (is_there (p.rest ++ s) p.is_first (our_name f z
    (at s p1 (rows is_gap (Ours Named) (λ t. refl) stays_ours p1.first p1.is_first
    (at s p2 (is_there (p2.rest ++ s) p2.is_first (on 61 (Ours OurValue) (λ at. refl)
    (at s p3 (rows is_gap (Ours OurValue) (λ t. refl) stays_our_value p3.first p3.is_first
    (at s p4 (is_there (p4.rest ++ s) p4.is_first (on 40 (Ours First) (λ at. refl) (pairs (Ours First) at_first p4.is_rest q)))))))))))))

-- ---- lines

-- a line of text, read from its start
last_line : (t : List Entry) (l : List ℕ) → Row not_feed l → Reads (Rest (Text 0)) t l t
last_line t l h = record {
  all = λ at. let a = along t at 0 l [] h first_far in ap may_end a.goes;
  ends = λ at. let a = along t at 0 l [] h first_far in a.same;
}

feed_to : (have : Bool) (at k : ℕ) → step have at (Rest (Text k)) 10 ≡ cond (eqb k 10) (Rest Fresh) (Rest (Text 0))
unfolding step
feed_to have at k = refl

line : {t r : List Entry} {s : List ℕ} (l : List ℕ) (m : Mode) → Quiet m → Row not_feed l → ((at : ℕ) → behind_line t at l ≡ m) → Reads m t s r → Reads (Rest (Text 0)) t (l ++ 10 ∷ s) r
line {t} {r} {s} l m z h e q = record { all = λ at. ap (λ x. may_end x.mode) (there at) ∙ q.all (at + length l + 1); ends = λ at. ap (λ x. x.pairs) (there at) ∙ q.ends (at + length l + 1) }
  where
    there : (at : ℕ) → run (Rest (Text 0)) t at (l ++ 10 ∷ s) ≡ run m t (at + length l + 1) s
    there at =
        let a = along t at 0 l [] h first_far in
        let i = at + length l in
        run_append (Rest (Text 0)) t at l (10 ∷ s)
        ∙ ap (λ x. run x (run (Rest (Text 0)) t at l).pairs i (10 ∷ s)) a.goes
        ∙ ap (λ x. run (Rest (Text a.to)) x i (10 ∷ s)) a.same
        ∙ step_on (Rest (Text a.to)) t i 10 s (feed_to (ltb 0 (length t)) i a.to ∙ sym (feed t at l a.to a.goes) ∙ e at)
        ∙ ap (λ n. run m n (i + 1) s) (z t)

row_join : (f : ℕ → Bool) (x y : List ℕ) → Row f x → Row f y → Row f (x ++ y)
unfolding every
row_join f [] y h g = g
row_join f (b ∷ x) y h g = let v = both (f b) (every f x) h in join v.0 (row_join f x y v.1 g)

white_row : (x : List ℕ) → Row is_white x → Row not_feed x
unfolding every
white_row [] h = refl
white_row (b ∷ x) h = let v = both (is_white b) (every is_white x) h in join (ap not (white_plain b v.0)) (white_row x v.1)

word_row : Row not_feed begin_data
unfolding every
word_row = refl

word_line : (l : List ℕ) → BeginsData l → Row not_feed l
word_line l o =
    let w = o.is_rest in
    let rest = row_join not_feed w.first w.rest (subst (Row not_feed) (sym w.is_first) word_row) (white_row w.rest w.is_rest) in
    subst (Row not_feed) (sym o.split) (row_join not_feed o.first o.rest (white_row o.first o.is_first) (subst (Row not_feed) (sym w.split) rest))

other_line : (t : List Entry) (l : List ℕ) → Row not_feed l → (BeginsData l → ⊥) → (at : ℕ) → behind_line t at l ≡ Rest (Text 0)
other_line t l h n at = go (or_not t at l h)
  where
    go : ((behind_line t at l ≡ (Rest Fresh)) × BeginsData l) ⊎ (behind_line t at l ≡ Rest (Text 0)) → behind_line t at l ≡ Rest (Text 0)
    go (inl p) = absurd (n p.1)
    go (inr p) = p

begin_text_lem : {t r : List Entry} {s : List ℕ} → Reads (Rest Closed) t s r → Reads (Rest Fresh) t (begin_text ++ s) r
unfolding step matched
begin_text_lem q =
    on 92 (Inside (Close 1)) (λ at. refl) (on 98 (Inside (Close 2)) (λ at. refl) (on 101 (Inside (Close 3)) (λ at. refl) (on 103 (Inside (Close 4)) (λ at. refl) (on 105 (Inside (Close 5)) (λ at. refl)
    (on 110 (Inside (Close 6)) (λ at. refl) (on 116 (Inside (Close 7)) (λ at. refl) (on 101 (Inside (Close 8)) (λ at. refl) (on 120 (Inside (Close 9)) (λ at. refl) (on 116 (Rest Closed) (λ at. refl) q)))))))))

stays_close : Stays is_white (Rest Closed)
unfolding step Stays
stays_close have at b e = rw (white_plain b e, e)

text_line : {t r : List Entry} {s l : List ℕ} → (Is begin_text ▸ Row is_white) l → Reads (Rest Closed) t s r → Reads (Rest Fresh) t (l ++ s) r
text_line {t} {r} {s} p q = seq p (λ f g h w. subst (λ l. Reads (Rest Fresh) t (l ++ (g ++ s)) r) (sym h) (begin_text_lem (rows is_white (Rest Closed) (λ t. refl) stays_close g w q)))

close_feed : (have : Bool) (at : ℕ) → step have at (Rest Closed) 10 ≡ Rest (Text 0)
unfolding step
close_feed have at = refl

white_on : (f have : Bool) (at b : ℕ) → is_white b ≡ true → step have at (cond f (Rest Fresh) (Rest Gap)) b ≡ cond f (Rest Fresh) (Rest Gap)
unfolding step
white_on true have at b e = rw (e, apart is_white b 92 e refl)
white_on false have at b e = rw e

feed_on : (f have : Bool) (at : ℕ) → step have at (cond f (Rest Fresh) (Rest Gap)) 10 ≡ (Rest Fresh)
unfolding step
feed_on true have at = refl
feed_on false have at = refl

no_entry : (f : Bool) → Quiet (cond f (Rest Fresh) (Rest Gap))
no_entry true t = refl
no_entry false t = refl

all_read : (f : Bool) (t : List Entry) → Reads (cond f (Rest Fresh) (Rest Gap)) t [] t
unfolding run
all_read true t = record { all = λ at. refl; ends = λ at. refl }
all_read false t = record { all = λ at. refl; ends = λ at. refl }

closed_read : (t : List Entry) → Reads (Rest Closed) t [] t
unfolding run
closed_read t = record { all = λ at. refl; ends = λ at. refl }

-- ---- the file

some_pairs : {es : List Entry} {x : List ℕ} → G.Pairs es x → 0 < length es
some_pairs (G.Pairs.last p) = omega arith
some_pairs (G.Pairs.more p i) = omega arith

not_yet : {es : List Entry} {x : List ℕ} (t : List Entry) → G.Ours es x → (0 < length t → es ≡ []) → ltb 0 (length t) ≡ false
not_yet t p o =
    let h = some_pairs p.is_rest.is_rest.is_rest.is_rest.is_rest in
    by_test (ltb 0 (length t)) (λ e. let z = ap length (o (ltb-true 0 (length t) e)) in absurd (omega arith)) (λ e. e)

-- what is kept of a file's pairs
file_kept : {st : Stand} {es : List Entry} {s : List ℕ} → File st es s → List Entry
file_kept (File.text_ends l h) = []
file_kept (File.data_begins w d) = file_kept d
file_kept (File.text_goes_on h n d) = file_kept d
file_kept File.data_ends = []
file_kept (File.white e d) = file_kept d
file_kept (File.line_ends d) = file_kept d
file_kept (File.text_begins p d) = file_kept d
file_kept (File.text_begins_last p) = []
file_kept (File.a_run p z d) = file_kept d
file_kept (File.a_value p d) = file_kept d
file_kept (File.our_pairs p d) = ours_kept p ++ file_kept d

kept_then : (es ks ls : List Entry) → Kept es ks → Kept [] ls → Kept es (ks ++ ls)
kept_then [] [] ls h g = g
kept_then [] (k ∷ ks) ls h g = absurd h
kept_then (e ∷ es) [] ls h g = absurd h
kept_then (e ∷ es) (k ∷ ks) ls h g = (h.0, (h.1.0, kept_then es ks ls h.1.1 g))

file_kept_lem : {st : Stand} {es : List Entry} {s : List ℕ} (f : File st es s) → Kept es (file_kept f)
unfolding file_kept ours_kept
file_kept_lem (File.text_ends l h) = tt
file_kept_lem (File.data_begins w d) = file_kept_lem d
file_kept_lem (File.text_goes_on h n d) = file_kept_lem d
file_kept_lem File.data_ends = tt
file_kept_lem (File.white e d) = file_kept_lem d
file_kept_lem (File.line_ends d) = file_kept_lem d
file_kept_lem (File.text_begins p d) = file_kept_lem d
file_kept_lem (File.text_begins_last p) = tt
file_kept_lem (File.a_run p z d) = file_kept_lem d
file_kept_lem (File.a_value p d) = file_kept_lem d
file_kept_lem (File.our_pairs {es = es} p d) = kept_then es (ours_kept p) (file_kept d) (pairs_kept_lem p.is_rest.is_rest.is_rest.is_rest.is_rest) (file_kept_lem d)

nothing_more : {m : Mode} {t : List Entry} {s : List ℕ} → Reads m t s t → Reads m t s (t ++ [])
nothing_more {m} {t} {s} q = subst (Reads m t s) (sym (append-nil t)) q

reads : {st : Stand} {es : List Entry} {s : List ℕ} (f : File st es s) (t : List Entry) → (0 < length t → es ≡ []) → Reads (mode_of st) t s (t ++ file_kept f)
unfolding file_kept
reads (File.text_ends l h) t o = nothing_more (last_line t l h)
reads (File.data_begins {l = l} w d) t o = line l (Rest Fresh) (λ t. refl) (word_line l w) (λ at. begins t at l w) (reads d t o)
reads (File.text_goes_on {l = l} h n d) t o = line l (Rest (Text 0)) (λ t. refl) h (other_line t l h n) (reads d t o)
reads (File.data_ends {f}) t o = nothing_more (all_read f t)
reads (File.white {f = f} {b = b} e d) t o = on b (cond f (Rest Fresh) (Rest Gap)) (λ at. white_on f (ltb 0 (length t)) at b e) (rw (no_entry f t) (reads d t o))
reads (File.line_ends {f = f} d) t o = on 10 (Rest Fresh) (λ at. feed_on f (ltb 0 (length t)) at) (reads d t o)
reads (File.text_begins p d) t o = text_line p (on 10 (Rest (Text 0)) (λ at. close_feed (ltb 0 (length t)) at) (reads d t o))
reads (File.text_begins_last {l = l} p) t o = nothing_more (subst (λ x. Reads (Rest Fresh) t x t) (append-nil l) (text_line p (closed_read t)))
reads (File.a_run {f = f} p z d) t o = another f p (λ v h. a_run h z (reads d t o))
reads (File.a_value {f = f} p d) t o = another f p (λ v h. a_closed h (reads d t o))
reads (File.our_pairs {f = f} {s = s} p d) t o =
    the_ours f (not_yet t p o) p (subst (Reads (Rest Gap) (t ++ ours_kept p) s) (append_assoc t (ours_kept p) (file_kept d)) (reads d (t ++ ours_kept p) (λ _. refl)))

-- ---- the whole

some_kept : (es ks : List Entry) → Kept es ks → 0 < length es → 0 < length ks
some_kept [] ks h l = absurd (omega arith)
some_kept (e ∷ es) [] h l = absurd h
some_kept (e ∷ es) (k ∷ ks) h l = omega arith

pub complete : (s : List ℕ) (es : List Entry) → G.Kernel es s → Good s × Kept es (scan s).pairs
complete s es k =
    let q = reads k.file [] (λ h. absurd (omega arith)) in
    let kept = subst (Kept es) (sym (q.ends 0)) (file_kept_lem k.file) in
    (record { may_end_lem = q.all 0; some_pair = some_kept es (scan s).pairs kept k.stands }, kept)
