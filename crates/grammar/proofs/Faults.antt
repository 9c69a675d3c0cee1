-- Where the automaton stands, told by what may follow: where a date must stand, where a name may, and in a date.
-- Assumes nothing.
use Prim.Native.Nat.{ℕ, ◌+◌}
use mathlib.Core.Path.{◌≡◌, refl, ap}
use mathlib.Core.Logic.{◌⊎◌, inl, inr}
use mathlib.Core.Bool.{Bool, true, false, cond, ◌||◌}
use mathlib.Core.List.{List, [], ◌∷◌}
use lib.Dec.{ltb, eqb}
use lib.ListN.{length}
use Rattle.laws.specs.Tests.{all_below}
use Rattle.laws.proofs.Cases.{pick, both, by_test}
use Rattle.digits.specs.Bytes.{ascii}
use Rattle.automaton.specs.declared.Mode.{Mode}
use Rattle.automaton.specs.declared.Mode.TheVariants.{Rest, Inside, Name, Ours, Pair, Date, Done, Dead}
use Rattle.automaton.specs.declared.Resting.{Resting}
use Rattle.automaton.specs.declared.Resting.TheVariants.{Text, Fresh, Gap, Closed, Run, Quoted}
use Rattle.automaton.specs.declared.Within.{Within}
use Rattle.automaton.specs.declared.Within.TheVariants.{Close, Other, Plus, Value, Quote, Open, Items, ItemRun, ItemQuote, ItemQuoted}
use Rattle.automaton.specs.declared.Pairing.{Pairing}
use Rattle.automaton.specs.declared.Pairing.TheVariants.{Named, OurValue, First, Pairs}
use Rattle.automaton.specs.declared.Counting.{Counting}
use Rattle.automaton.specs.declared.Counting.TheVariants.{Sign, Digits, ToDate}
use Rattle.automaton.specs.declared.Dating.{Dating}
use Rattle.automaton.specs.declared.Dating.TheVariants.{Year, Month, Day}
use Rattle.kinds.specs.Kinds.{is_white, is_run, begin_text, ours}
use Rattle.kinds.specs.Parts.{matched, month_on}
use Rattle.automaton.specs.Step.{in_text, step}
use Rattle.automaton.specs.Run as R
use Rattle.automaton.specs.Run.{may_end, standing, noted, run}
use Rattle.grammar.specs.Grammar.{every, Row}
use Rattle.grammar.proofs.Names.{never}
use Rattle.grammar.proofs.Standing.{may_name, on_capital}
use Rattle.grammar.proofs.Completion.{unmatched}

abbrev pub Live : Mode → Type 0
Live m = (p : ℕ) → m ≡ Dead p → ⊥

pub record Died (m : Mode) : Type 0 where
  pub place : ℕ
  pub there : m ≡ Dead place

abbrev pub is_dead : Mode → Bool
is_dead (Rest r) = false
is_dead (Inside w) = false
is_dead (Name k start) = false
is_dead (Ours o) = false
is_dead (Pair minus n c) = false
is_dead (Date start minus n d) = false
is_dead (Done start minus n month) = false
is_dead (Dead place) = true

pub lives : (m : Mode) → is_dead m ≡ false → Live m
lives m e p q = never (ap is_dead q) e

pub alive : (m : Mode) → Live m ⊎ Died m
alive (Rest r) = inl (lives (Rest r) refl)
alive (Inside w) = inl (lives (Inside w) refl)
alive (Name k start) = inl (lives (Name k start) refl)
alive (Ours o) = inl (lives (Ours o) refl)
alive (Pair minus n c) = inl (lives (Pair minus n c) refl)
alive (Date start minus n d) = inl (lives (Date start minus n d) refl)
alive (Done start minus n month) = inl (lives (Done start minus n month) refl)
alive (Dead place) = inr (record { place = place; there = refl })

-- ---- where a date must stand: an @ lives there, and an @ with an x does not

pub record Asked (m : Mode) : Type 0 where
  pub minus : Bool
  pub n : ℕ
  pub asks : m ≡ Pair minus n ToDate

-- dead either way
either : (p q : ℕ) (t : Bool) → Live (cond t (Dead p) (Dead q)) → ⊥
either p q true live = live p refl
either p q false live = live q refl

-- no month has the letter @
no_month : (from k : ℕ) → ltb 0 (month_on from k 64 12) ≡ false
no_month from k = by_test (ltb 0 (month_on from k 64 12)) (λ e. never (on_capital from k 64 e).1 refl) (λ e. e)

module _ (have have' : Bool) (at at' p : ℕ) where
  abbrev Asks : Mode → Type 0
  Asks m = Live (step have at m 64) → step have' at' (step have at m 64) 120 ≡ Dead p → Asked m

  asks_rest : (r : Resting) → Asks (Rest r)
  unfolding step
  asks_rest (Text k) live e = absurd (lives _ refl p e)
  asks_rest Fresh live e = absurd (live at refl)
  asks_rest Gap live e = absurd (live at refl)
  asks_rest Closed live e = absurd (live at refl)
  asks_rest Run live e = absurd (lives _ refl p e)
  asks_rest Quoted live e = absurd (live at refl)

  asks_inside : (w : Within) → Asks (Inside w)
  unfolding step all_below
  asks_inside (Close k) live e = absurd (live at (rw (unmatched begin_text 64 refl k)))
  asks_inside Other live e = absurd (live at refl)
  asks_inside Plus live e = absurd (live at refl)
  asks_inside Value live e = absurd (lives _ refl p e)
  asks_inside Quote live e = absurd (lives _ refl p e)
  asks_inside Open live e = absurd (lives _ refl p e)
  asks_inside Items live e = absurd (lives _ refl p e)
  asks_inside ItemRun live e = absurd (lives _ refl p e)
  asks_inside ItemQuote live e = absurd (lives _ refl p e)
  asks_inside ItemQuoted live e = absurd (live at refl)

  asks_name : (k start : ℕ) → Asks (Name k start)
  unfolding step
  asks_name k start live e = go (eqb k 15) have live
    where
      go : (x y : Bool) → Live (cond x (cond y (Dead start) (Dead at)) (Dead at)) → Asked (Name k start)
      go true y l = absurd (either start at y l)
      go false y l = absurd (l at refl)

  asks_ours : (o : Pairing) → Asks (Ours o)
  unfolding step
  asks_ours Named live e = absurd (live at refl)
  asks_ours OurValue live e = absurd (live at refl)
  asks_ours First live e = absurd (live at refl)
  asks_ours Pairs live e = absurd (live at refl)

  asks_pair : (minus : Bool) (n : ℕ) (c : Counting) → Asks (Pair minus n c)
  unfolding step
  asks_pair minus n Sign live e = absurd (live at refl)
  asks_pair minus n Digits live e = absurd (live at refl)
  asks_pair minus n ToDate live e = record { minus = minus; n = n; asks = refl }

  asks_date : (start : ℕ) (minus : Bool) (n : ℕ) (d : Dating) → Asks (Date start minus n d)
  unfolding step
  asks_date start minus n (Year k year) live e = absurd (either start start (ltb k 4) live)
  asks_date start minus n (Month year k from) live e = absurd (either start start (ltb k 3) (rw (no_month from k) at live))
  asks_date start minus n (Day month true) live e = absurd (live start refl)
  asks_date start minus n (Day month false) live e = absurd (live start refl)

  pub asks_where : (m : Mode) → Asks m
  unfolding step
  asks_where (Rest r) live e = asks_rest r live e
  asks_where (Inside w) live e = asks_inside w live e
  asks_where (Name k start) live e = asks_name k start live e
  asks_where (Ours o) live e = asks_ours o live e
  asks_where (Pair minus n c) live e = asks_pair minus n c live e
  asks_where (Date start minus n d) live e = asks_date start minus n d live e
  asks_where (Done start minus n month) live e = absurd (live start refl)
  asks_where (Dead place) live e = absurd (live place refl)

-- ---- in a date that begins at p, or behind it, or dead of it

abbrev pub StartedOf : ℕ → Mode → Type 0
StartedOf p (Rest r) = ⊥
StartedOf p (Inside w) = ⊥
StartedOf p (Name k start) = ⊥
StartedOf p (Ours o) = ⊥
StartedOf p (Pair minus n c) = ⊥
StartedOf p (Date start minus n d) = start ≡ p
StartedOf p (Done start minus n month) = start ≡ p
StartedOf p (Dead place) = Unit {0}

pub record Started (p : ℕ) (m : Mode) : Type 0 where
  pub known : StartedOf p m

alt : {p : ℕ} (t : Bool) {x y : Mode} → Started p x → Started p y → Started p (cond t x y)
alt true f g = f
alt false f g = g

pub date_step : (have : Bool) (at p start : ℕ) (minus : Bool) (n : ℕ) (d : Dating) (b : ℕ) → start ≡ p → Started p (step have at (Date start minus n d) b)
unfolding step
date_step have at p start minus n (Year k year) b h = search alt depth 9
date_step have at p start minus n (Month year k from) b h = search alt depth 9
date_step have at p start minus n (Day month nought) b h = search alt depth 9

started_step : (have : Bool) (at p : ℕ) (m : Mode) (b : ℕ) → is_run b ≡ true → StartedOf p m → Started p (step have at m b)
unfolding step
started_step have at p (Rest r) b e h = absurd h
started_step have at p (Inside w) b e h = absurd h
started_step have at p (Name k start) b e h = absurd h
started_step have at p (Ours o) b e h = absurd h
started_step have at p (Pair minus n c) b e h = absurd h
started_step have at p (Date start minus n d) b e h = date_step have at p start minus n d b h
started_step have at p (Done start minus n month) b e h = rw e (record { known = tt })
started_step have at p (Dead place) b e h = record { known = tt }

pub started_run : (p : ℕ) (m : Mode) (ps : R.Pairs) (at : ℕ) (s : List ℕ) → Row is_run s → Started p m → Started p (run m ps at s).mode
unfolding run every
started_run p m ps at [] r h = h
started_run p m ps at (b ∷ s) r h =
    let w = both (is_run b) (every is_run s) r in
    let m' = step (ltb 0 (length ps)) at m b in
    started_run p m' (noted m' ps) (at + 1) s w.1 (started_step (ltb 0 (length ps)) at p m b w.0 h.known)

-- no file ends there
pub started_ends : (p : ℕ) (m : Mode) → StartedOf p m → may_end m ≡ true → ⊥
started_ends p (Rest r) h e = h
started_ends p (Inside w) h e = h
started_ends p (Name k start) h e = h
started_ends p (Ours o) h e = h
started_ends p (Pair minus n c) h e = h
started_ends p (Date start minus n d) h e = never e refl
started_ends p (Done start minus n month) h e = never e refl
started_ends p (Dead place) h e = never e refl

-- ---- where a name may stand

pub at_rest : (m : Mode) → may_end m ≡ true → (r : Resting) × (m ≡ Rest r)
at_rest (Rest r) e = (r, refl)
at_rest (Inside w) e = never e refl
at_rest (Name k start) e = never e refl
at_rest (Ours o) e = never e refl
at_rest (Pair minus n c) e = never e refl
at_rest (Date start minus n d) e = never e refl
at_rest (Done start minus n month) e = never e refl
at_rest (Dead place) e = never e refl

abbrev pub another : List ℕ
another = ascii "A=1"

-- our name or another's assignment is read there
pub record Names (r : Resting) (ps : R.Pairs) (at : ℕ) : Type 0 where
  pub reads_ours : run (Rest r) ps at ours ≡ standing (Name 15 at) ps
  pub reads_another : run (Rest r) ps at another ≡ standing (Rest Run) ps

pub names : (r : Resting) (ps : R.Pairs) (at : ℕ) → may_name r ≡ true → Names r ps at
unfolding run step matched
names (Text k) ps at e = never e refl
names Fresh ps at e = record { reads_ours = refl; reads_another = refl }
names Gap ps at e = record { reads_ours = refl; reads_another = refl }
names Closed ps at e = never e refl
names Run ps at e = never e refl
names Quoted ps at e = record { reads_ours = refl; reads_another = refl }

-- where another's assignment is read, a name may stand, or text
pub or_text : (r : Resting) (ps : R.Pairs) (at : ℕ) → may_end (run (Rest r) ps at another).mode ≡ true → (may_name r ≡ true) ⊎ ((k : ℕ) × (r ≡ Text k))
unfolding run step
or_text (Text k) ps at e = inr (k, refl)
or_text Fresh ps at e = inl refl
or_text Gap ps at e = inl refl
or_text Closed ps at e = never e refl
or_text Run ps at e = never e refl
or_text Quoted ps at e = inl refl

-- in text our name is text, behind which no byte is a fault
pub text_ours : (k : ℕ) (ps : R.Pairs) (at : ℕ) → (j : ℕ) × ((run (Rest (Text k)) ps at ours).mode ≡ Rest (Text j))
unfolding run step
text_ours k ps at = (_, refl)

pub text_lives : (k b : ℕ) → is_dead (in_text k b) ≡ false
text_lives k b =
    pick (λ m. is_dead m ≡ false) (eqb b 10)
    (λ _. pick (λ m. is_dead m ≡ false) (eqb k 10) (λ _. refl) (λ _. refl))
    (λ _. pick (λ m. is_dead m ≡ false) (is_white b) (λ _. pick (λ m. is_dead m ≡ false) (eqb k 0 || eqb k 10) (λ _. refl) (λ _. refl)) (λ _. refl))
