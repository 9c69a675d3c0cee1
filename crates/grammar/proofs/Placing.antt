-- Where a fault is placed: the automaton dies at the byte that makes a fault certain, and tells the place that the grammar does.
-- Assumes nothing.
use Prim.Native.Nat.{ℕ, ◌+◌, ◌<◌}
use mathlib.Core.Path.{◌≡◌, refl, sym, ap, subst, ◌∙◌}
use mathlib.Core.Logic.{◌⊎◌, inl, inr, ◌↔◌}
use mathlib.Core.Bool.{Bool, true, false, ◌&&◌}
use mathlib.Core.List.{List, [], ◌∷◌, ◌++◌, append_assoc}
use native.Mathlib.Omega.{arith}
use borrow.Author.Tests.{lt-ltb, ltb-true, eqb-true, eq-eqb}
use lib.Dec.{ltb, eqb}
use lib.ListN.{length}
use Rattle.laws.proofs.Cases.{pick, both, join, by_test}
use Rattle.digits.specs.Bytes.{ascii}
use Rattle.automaton.specs.declared.Mode.{Mode}
use Rattle.automaton.specs.declared.Mode.TheVariants.{Rest, Inside, Name, Ours, Pair, Date, Done, Dead}
use Rattle.automaton.specs.declared.Resting.{Resting}
use Rattle.automaton.specs.declared.Resting.TheVariants.{Text}
use Rattle.automaton.specs.declared.Counting.TheVariants.{ToDate}
use Rattle.automaton.specs.declared.Dating.{Dating}
use Rattle.automaton.specs.declared.Dating.TheVariants.{Year}
use Rattle.kinds.specs.Kinds.{is_run, is_name, ours}
use Rattle.kinds.specs.Parts.{matched}
use Rattle.automaton.specs.Step.{in_text, step}
use Rattle.digits.specs.Decimals.{signed}
use Rattle.automaton.specs.Run.{Pairs, may_end, run, scan}
use Rattle.grammar.specs.Grammar as G
use Rattle.grammar.specs.Places.{FirstFault, DateMust, BadDate, SecondName, Place, at_the_date, at_the_name, at_the_byte}
use Rattle.grammar.proofs.Good.{Good}
use Rattle.grammar.proofs.Names.{never}
use Rattle.grammar.proofs.Running.{scan_from, scan_one}
use Rattle.grammar.proofs.Standing.{may_name, NameBehind, DateBehind, BehindOf, Behind, Anywhere, fault_place, behind_step, behind}
use Rattle.grammar.proofs.Complete.{Reads, date}
use Rattle.grammar.proofs.GoingOn.{kernel_is, good_is, live_goes_on, dead_no_more, goes_live, dies}
use Rattle.grammar.proofs.Dates.{date_read}
use Rattle.grammar.proofs.Faults.{Died, is_dead, lives, Asked, asks_where, StartedOf, Started, date_step, started_run, started_ends, at_rest, another, Names, names, or_text, text_ours, text_lives}

-- the automaton from the @ of a date on
date_run : (x : List ℕ) (p : ℕ) (minus : Bool) (n : ℕ) (d : DateBehind x p minus n) → (scan x).mode ≡ (run (Date p minus n (Year 0 0)) (scan d.before).pairs (length d.before + 1) d.date).mode
unfolding run step
date_run x p minus n d =
    ap (λ l. (scan l).mode) d.split ∙ ap (λ r. r.mode) (scan_from d.before (64 ∷ d.date) d.stood)
    ∙ ap (λ i. (run (Date i minus n (Year 0 0)) (scan d.before).pairs (length d.before + 1) d.date).mode) d.placed

-- behind a whole date its pair's parenthesis may close
date_ends : (minus : Bool) (n month : ℕ) (x : List ℕ) → G.Date month x → (ps : Pairs) (at : ℕ) → may_end (run (Pair minus n ToDate) ps at (x ++ 41 ∷ [])).mode ≡ true
unfolding run step
date_ends minus n month x d ps at =
    let closed : (start : ℕ) → Reads (Done start minus n month) (ps ++ (month, signed minus n) ∷ []) (41 ∷ []) (ps ++ (month, signed minus n) ∷ []) = λ start. record { all = λ _. refl; ends = λ _. refl } in
    (date d closed).all at

-- ---- where a date must stand

must_asked : (s : List ℕ) → DateMust s → Asked (scan s).mode
must_asked s w =
    let y = s ++ ascii "@" in
    let d = dies (s ++ ascii "@x") w.1 in
    let dead : (scan (y ++ ascii "x")).mode ≡ Dead d.place = ap (λ l. (scan l).mode) (append_assoc s (ascii "@") (ascii "x")) ∙ d.there in
    let have = ltb 0 (length (scan s).pairs) in
    let have' = ltb 0 (length (scan y).pairs) in
    asks_where have have' (length s) (length y) d.place (scan s).mode (λ p q. goes_live y w.0 p (scan_one s 64 ∙ q))
    (ap (λ m. step have' (length y) m 120) (sym (scan_one s 64)) ∙ sym (scan_one y 120) ∙ dead)

asked_must : (s : List ℕ) (minus : Bool) (n : ℕ) → (scan s).mode ≡ Pair minus n ToDate → DateMust s
unfolding run step
asked_must s minus n e = (
  live_goes_on (s ++ ascii "@") (lives (scan (s ++ ascii "@")).mode (ap (λ r. is_dead r.mode) (scan_from s (ascii "@") e))),
  dead_no_more (s ++ ascii "@x") (length s) (ap (λ r. r.mode) (scan_from s (ascii "@x") e)),
)

module _ (x : List ℕ) (b : ℕ) where
  -- ---- a bad date

  bad_behind : (p : ℕ) (d : BadDate x b p) → (minus : Bool) × ((n : ℕ) × DateBehind x p minus n)
  bad_behind p d =
      let a = must_asked d.before d.must in
      (a.minus, (a.n, record { before = d.before; date = d.date; split = d.split; placed = d.placed; stood = a.asks; item_bytes = d.item_bytes }))

  bad_started : (p : ℕ) → BadDate x b p → Started p (scan x).mode
  bad_started p d =
      let w = bad_behind p d in
      let h = w.1.1 in
      subst (Started p) (sym (date_run x p w.0 w.1.0 h)) (started_run p (Date p w.0 w.1.0 (Year 0 0)) (scan h.before).pairs (length h.before + 1) h.date h.item_bytes (record { known = refl }))

  -- behind a whole date only a run byte makes it bad
  done_bad : (p start : ℕ) (minus : Bool) (n month : ℕ) → (scan x).mode ≡ Done start minus n month → BadDate x b p → is_run b ≡ true
  unfolding bad_behind
  done_bad p start minus n month e d = go d.bad
    where
      w : (minus : Bool) × ((n : ℕ) × DateBehind x p minus n)
      w = bad_behind p d

      go : (is_run b ≡ true) ⊎ ((month : ℕ) → G.Date month (64 ∷ d.date) → ⊥) → is_run b ≡ true
      go (inl r) = r
      go (inr f) = absurd (f month (date_read (scan d.before).pairs month p w.0 w.1.0 (length d.before + 1) d.date start minus n d.item_bytes (sym (date_run x p w.0 w.1.0 w.1.1) ∙ e)))

  -- in a date none is whole
  date_bad : (start : ℕ) (minus : Bool) (n : ℕ) (d : Dating) (h : DateBehind x start minus n) → (scan x).mode ≡ Date start minus n d → (month : ℕ) → G.Date month (64 ∷ h.date) → ⊥
  date_bad start minus n d h e month w = started_ends start (scan (x ++ 41 ∷ [])).mode there.known ends
    where
      there : Started start (scan (x ++ 41 ∷ [])).mode
      there = subst (Started start) (sym (scan_one x 41 ∙ ap (λ m. step (ltb 0 (length (scan x).pairs)) (length x) m 41) e)) (date_step (ltb 0 (length (scan x).pairs)) (length x) start start minus n d 41 refl)

      ends : may_end (scan (x ++ 41 ∷ [])).mode ≡ true
      ends =
          ap (λ l. may_end (scan l).mode) (ap (λ l. l ++ 41 ∷ []) h.split ∙ append_assoc h.before (64 ∷ h.date) (41 ∷ []))
          ∙ ap (λ r. may_end r.mode) (scan_from h.before ((64 ∷ h.date) ++ 41 ∷ []) h.stood)
          ∙ date_ends minus n month (64 ∷ h.date) w (scan h.before).pairs (length h.before)

  bad_date : (start : ℕ) (minus : Bool) (n : ℕ) (h : DateBehind x start minus n) → (is_run b ≡ true) ⊎ ((month : ℕ) → G.Date month (64 ∷ h.date) → ⊥) → BadDate x b start
  bad_date start minus n h f = record { before = h.before; date = h.date; split = h.split; placed = h.placed; must = asked_must h.before minus n h.stood; item_bytes = h.item_bytes; bad = f }

  -- ---- our name a second time

  abbrev have : Bool
  have = ltb 0 (length (scan x).pairs)

  second_is : (p : ℕ) → Died (scan (x ++ b ∷ [])).mode → SecondName x b p → ((scan x).mode ≡ Name 15 p) × (0 < length (scan x).pairs)
  unfolding step
  second_is p died n = go (or_text r ps at (sym (ap (λ s. may_end s.mode) (scan_from n.before another stood)) ∙ (good_is (n.before ++ another) n.may.1).may_end_lem))
    where
      g : Good n.before
      g = good_is n.before n.may.0

      r : Resting
      r = (at_rest (scan n.before).mode g.may_end_lem).0

      stood : (scan n.before).mode ≡ Rest r
      stood = (at_rest (scan n.before).mode g.may_end_lem).1

      ps : Pairs
      ps = (scan n.before).pairs

      at : ℕ
      at = length n.before

      there : scan x ≡ run (Rest r) ps at ours
      there = ap scan n.split ∙ scan_from n.before ours stood

      in_text_lem : (k : ℕ) → r ≡ Text k → ⊥
      in_text_lem k e =
          let t = text_ours k ps at in
          let m : (scan x).mode ≡ Rest (Text t.0) = ap (λ s. s.mode) there ∙ ap (λ r. (run (Rest r) ps at ours).mode) e ∙ t.1 in
          lives (in_text t.0 b) (text_lives t.0 b) died.place (sym (scan_one x b ∙ ap (λ m. step have (length x) m b) m) ∙ died.there)

      go : (may_name r ≡ true) ⊎ ((k : ℕ) × (r ≡ Text k)) → ((scan x).mode ≡ Name 15 p) × (0 < length (scan x).pairs)
      go (inl may) =
          let e = there ∙ (names r ps at may).reads_ours in
          (ap (λ s. s.mode) e ∙ ap (λ i. Name 15 i) n.placed, subst (λ s. 0 < length s.pairs) (sym e) g.some_pair)
      go (inr t) = absurd (in_text_lem t.0 t.1)

  second : (k start : ℕ) → NameBehind x k start → k ≡ 15 → 0 < length (scan x).pairs → is_name b ≡ false → SecondName x b start
  second k start h e c f = record { before = h.before; split = split; placed = h.placed; may = (kernel_is h.before before_good, kernel_is (h.before ++ another) another_good); ends = f }
    where
      split : x ≡ h.before ++ ours
      split = rw e at (h.split (omega arith))

      reads : Names h.rest (scan h.before).pairs (length h.before)
      reads = names h.rest (scan h.before).pairs (length h.before) h.may

      before_good : Good h.before
      before_good = record {
        may_end_lem = ap may_end h.stood;
        some_pair = subst (λ s. 0 < length s.pairs) (ap scan split ∙ scan_from h.before ours h.stood ∙ reads.reads_ours) c;
      }

      another_good : Good (h.before ++ another)
      another_good =
          let e = scan_from h.before another h.stood ∙ reads.reads_another in
          record { may_end_lem = ap (λ s. may_end s.mode) e; some_pair = subst (λ s. 0 < length s.pairs) (sym e) before_good.some_pair }

  -- ---- the place, from where the automaton stands

  module _ (fault : FirstFault x b) where
    died : Died (scan (x ++ b ∷ [])).mode
    died = dies (x ++ b ∷ []) fault.no_more

    -- a fault that is neither
    here : (m : Mode) → (scan x).mode ≡ m → ((q : ℕ) → BadDate x b q → StartedOf q m → ⊥) → ((q : ℕ) → m ≡ Name 15 q → 0 < length (scan x).pairs → ⊥) → Place x b (length x)
    here m e f g = at_the_byte (λ q d. f q d (subst (Started q) e (bad_started q d)).known) (λ q n. let w = second_is q died n in g q (sym e ∙ w.0) w.1)

    name_ends : (k start : ℕ) → (scan x).mode ≡ Name k start → is_name b ≡ false
    unfolding step
    name_ends k start e = by_test (is_name b) (λ f. absurd (go f (sym (scan_one x b ∙ ap (λ m. step have (length x) m b) e) ∙ died.there))) (λ f. f)
      where
        go : is_name b ≡ true → step have (length x) (Name k start) b ≡ Dead died.place → ⊥
        go f q = lives (Name (matched ours k b) start) refl died.place (rw f at q)

    place_at : (m : Mode) → (scan x).mode ≡ m → BehindOf Anywhere x m → Place x b (fault_place have (length x) m b)
    place_at (Rest r) e h = here (Rest r) e (λ q _ z. z) (λ q w _. let z : ◌≡◌ {A = ℕ} 0 1 = cc in omega arith)
    place_at (Inside w) e h = here (Inside w) e (λ q _ z. z) (λ q w _. let z : ◌≡◌ {A = ℕ} 0 1 = cc in omega arith)
    place_at (Name k start) e h = pick (Place x b) (eqb k 15 && have)
        (λ t. let w = both (eqb k 15) have t in at_the_name (second k start h (eqb-true k 15 w.0) (ltb-true 0 (length (scan x).pairs) w.1) (name_ends k start e)))
        (λ t. here (Name k start) e (λ q _ z. z) (λ q w c. let z : k ≡ 15 = cc in never (join (eq-eqb k 15 z) (lt-ltb 0 (length (scan x).pairs) c)) t))
    place_at (Ours o) e h = here (Ours o) e (λ q _ z. z) (λ q w _. let z : ◌≡◌ {A = ℕ} 0 1 = cc in omega arith)
    place_at (Pair minus n c) e h = here (Pair minus n c) e (λ q _ z. z) (λ q w _. let z : ◌≡◌ {A = ℕ} 0 1 = cc in omega arith)
    place_at (Date start minus n d) e h = at_the_date (bad_date start minus n h.1 (inr (date_bad start minus n d h.1 e)))
    place_at (Done start minus n month) e h = pick (Place x b) (is_run b)
        (λ t. at_the_date (bad_date start minus n h (inl t)))
        (λ t. here (Done start minus n month) e (λ q d _. never (done_bad q start minus n month e d) t) (λ q w _. let z : ◌≡◌ {A = ℕ} 0 1 = cc in omega arith))
    place_at (Dead place) e h = absurd (goes_live x fault.goes_on place e)

    -- where the automaton says
    told : (p : ℕ) → (scan (x ++ b ∷ [])).mode ≡ Dead p → p ≡ fault_place have (length x) (scan x).mode b
    told p e =
        let at = fault_place have (length x) (scan x).mode b in
        let g = behind_step (λ q. q ≡ at) x have (scan x).mode b refl (behind x) refl in
        (subst (λ m. Behind (λ q. q ≡ at) (x ++ b ∷ []) m) (sym (scan_one x b) ∙ e) g).known

    there : Place x b (fault_place have (length x) (scan x).mode b)
    there = place_at (scan x).mode refl (behind x).known

    date_place : (p : ℕ) → BadDate x b p → (m : Mode) → (scan x).mode ≡ m → StartedOf p m → fault_place have (length x) m b ≡ p
    date_place p d (Rest r) e h = absurd h
    date_place p d (Inside w) e h = absurd h
    date_place p d (Name k start) e h = absurd h
    date_place p d (Ours o) e h = absurd h
    date_place p d (Pair minus n c) e h = absurd h
    date_place p d (Date start minus n x) e h = h
    date_place p d (Done start minus n month) e h = rw (done_bad p start minus n month e d) h
    date_place p d (Dead place) e h = absurd (goes_live x fault.goes_on place e)

    one_place : (p : ℕ) → Place x b p → fault_place have (length x) (scan x).mode b ≡ p
    one_place p (at_the_date {p = q} d) = date_place p d (scan x).mode refl (bad_started p d).known
    one_place p (at_the_name n) = let w = second_is p died n in rw (w.0, lt-ltb 0 (length (scan x).pairs) w.1)
    one_place p (at_the_byte f g) = same _ there
      where
        same : (q : ℕ) → Place x b q → q ≡ length x
        same q (at_the_date d) = absurd (f q d)
        same q (at_the_name n) = absurd (g q n)
        same q (at_the_byte _ _) = refl

-- the automaton dies where the fault is placed
pub placed : (x : List ℕ) (b p : ℕ) → FirstFault x b → ((scan (x ++ b ∷ [])).mode ≡ Dead p) ↔ Place x b p
placed x b p f = (
  λ e. subst (Place x b) (sym (told x b f p e)) (there x b f),
  λ w. let d = died x b f in d.there ∙ ap (λ q. Dead q) (told x b f d.place d.there ∙ one_place x b f p w),
)
