-- A line of text leads to data exactly when it has nothing but `\begindata` and white.
-- Assumes nothing.
use Prim.Native.Nat.{ℕ, ◌+◌, ◌≤◌, ◌<◌}
use mathlib.Core.Path.{◌≡◌, refl, sym, ap, subst, ◌∙◌}
use mathlib.Core.Logic.{◌⊎◌, inl, inr}
use mathlib.Core.Bool.{Bool, true, false, cond, not, ◌&&◌, ◌||◌}
use mathlib.Core.List.{List, [], ◌∷◌, ◌++◌, append_assoc, append-nil}
use native.Mathlib.Omega.{arith}
use native.Mathlib.Numerals.{add-one}
use borrow.Author.Tests.{ltb-true, eqb-true, not-true}
use lib.Dec.{ltb, eqb}
use lib.ListN.{length, get_or, take}
use lib.Seq.{take-suc}
use Rattle.laws.proofs.Cases.{by_test, both, one_of, join}
use Rattle.leap.specs.Entries.{Entry}
use Rattle.automaton.specs.declared.Mode.{Mode}
use Rattle.automaton.specs.declared.Mode.TheVariants.{Rest}
use Rattle.automaton.specs.declared.Resting.TheVariants.{Text, Fresh}
use Rattle.kinds.specs.Kinds.{is_white, begin_data}
use Rattle.kinds.specs.Parts.{matched}
use Rattle.automaton.specs.Step.{step}
use Rattle.automaton.specs.Run.{run}
use Rattle.grammar.specs.Grammar.{every, not_feed, BeginsData}
use Rattle.grammar.proofs.Running.{run_append, step_on}

pub every_more : (f : ℕ → Bool) (s : List ℕ) (b : ℕ) → every f s ≡ true → f b ≡ true → every f (s ++ b ∷ []) ≡ true
unfolding every
every_more f [] b h e = join e refl
every_more f (c ∷ s) b h e = let w = both (f c) (every f s) h in join w.0 (every_more f s b w.1 e)

-- ---- what stands on the line so far

-- where the automaton stands behind a line of text and its line feed
abbrev pub behind_line : List Entry → ℕ → List ℕ → Mode
behind_line t at l = (run (Rest (Text 0)) t at (l ++ 10 ∷ [])).mode

pub record Far (l : List ℕ) (k : ℕ) : Type 0 where
  before : List ℕ
  behind : List ℕ
  white_before : every is_white before ≡ true
  white_behind : every is_white behind ≡ true
  split : l ≡ before ++ (take k begin_data ++ behind)
  none : k < 10 → behind ≡ []

-- k bytes of the word, where k is no more than it has
abbrev pub FarIf : List ℕ → ℕ → Type 0
FarIf l k = k ≤ 10 → Far l k

record Next (have : Bool) (at k b : ℕ) (l : List ℕ) : Type 0 where
  to : ℕ
  goes : step have at (Rest (Text k)) b ≡ Rest (Text to)
  far : FarIf (l ++ b ∷ []) to

module _ (have : Bool) (at k b : ℕ) (l : List ℕ) (plain : eqb b 10 ≡ false) (h : FarIf l k) where
  white_start : is_white b ≡ true → k ≡ 0 → Next have at k b l
  unfolding step every
  white_start w z = record {
    to = k;
    goes = rw (plain, w, z);
    far = λ m. let f = h m in let e : f.behind ≡ [] = f.none (omega arith) in record {
      before = f.before ++ b ∷ [];
      behind = [];
      white_before = every_more is_white f.before b f.white_before w;
      white_behind = refl;
      split = start f.before f.behind f.split e z;
      none = λ _. refl;
    };
  }
    where
      start : (p q : List ℕ) → l ≡ p ++ (take k begin_data ++ q) → q ≡ [] → k ≡ 0 → l ++ b ∷ [] ≡ (p ++ b ∷ []) ++ (take k begin_data ++ [])
      start p q s e z = rw (z, append-nil) (ap (λ x. x ++ b ∷ []) (s ∙ ap (λ x. p ++ (take k begin_data ++ x)) e ∙ ap (λ n. p ++ (take n begin_data ++ [])) z ∙ append-nil p))

  white_end : is_white b ≡ true → k ≡ 10 → Next have at k b l
  unfolding step
  white_end w z = record {
    to = k;
    goes = rw (plain, w, z);
    far = λ m. let f = h m in record {
      before = f.before;
      behind = f.behind ++ b ∷ [];
      white_before = f.white_before;
      white_behind = every_more is_white f.behind b f.white_behind w;
      split = ap (λ x. x ++ b ∷ []) f.split ∙ append_assoc f.before (take k begin_data ++ f.behind) (b ∷ []) ∙ ap (λ x. f.before ++ x) (append_assoc (take k begin_data) f.behind (b ∷ []));
      none = λ n. absurd (omega arith);
    };
  }

  white_else : is_white b ≡ true → (eqb k 0 || eqb k 10) ≡ false → Next have at k b l
  unfolding step
  white_else w z = record { to = 16; goes = rw (plain, w, z); far = λ m. absurd (omega arith) }

  letter : is_white b ≡ false → Next have at k b l
  unfolding step matched every
  letter w = by_test (ltb k 10 && eqb (get_or begin_data k 0) b)
      (λ e. let v = both (ltb k 10) (eqb (get_or begin_data k 0) b) e in
      let n : k < 10 = ltb-true k 10 v.0 in
      record {
        to = k + 1;
        goes = rw (plain, w, e);
        far = λ m. let f = h (omega arith) in record {
          before = f.before;
          behind = [];
          white_before = f.white_before;
          white_behind = refl;
          split = longer f.before f.behind f.split (f.none n) n (eqb-true (get_or begin_data k 0) b v.1);
          none = λ _. refl;
        };
      })
      (λ e. record { to = 16; goes = rw (plain, w, e); far = λ m. absurd (omega arith) })
    where
      longer : (p q : List ℕ) → l ≡ p ++ (take k begin_data ++ q) → q ≡ [] → k < 10 → get_or begin_data k 0 ≡ b → l ++ b ∷ [] ≡ p ++ (take (k + 1) begin_data ++ [])
      longer p q s e n g =
          let t : take (k + 1) begin_data ≡ take k begin_data ++ b ∷ [] = ap (λ j. take j begin_data) (add-one k) ∙ take-suc begin_data k 0 n ∙ ap (λ x. take k begin_data ++ x ∷ []) g in
          ap (λ x. x ++ b ∷ []) (s ∙ ap (λ x. p ++ (take k begin_data ++ x)) e ∙ ap (λ x. p ++ x) (append-nil (take k begin_data)))
          ∙ append_assoc p (take k begin_data) (b ∷ [])
          ∙ ap (λ x. p ++ x) (sym t ∙ sym (append-nil (take (k + 1) begin_data)))

  next : Next have at k b l
  next = by_test (is_white b)
      (λ w. by_test (eqb k 0) (λ z. white_start w (eqb-true k 0 z)) (λ y. by_test (eqb k 10) (λ z. white_end w (eqb-true k 10 z)) (λ z. white_else w (ap (λ x. x || eqb k 10) y ∙ z))))
      letter

-- ---- along a line

pub record Along (t : List Entry) (at k : ℕ) (s l : List ℕ) : Type 0 where
  pub to : ℕ
  pub goes : (run (Rest (Text k)) t at s).mode ≡ Rest (Text to)
  pub same : (run (Rest (Text k)) t at s).pairs ≡ t
  far : FarIf (l ++ s) to

pub along : (t : List Entry) (at k : ℕ) (s l : List ℕ) → every not_feed s ≡ true → FarIf l k → Along t at k s l
unfolding run every
along t at k [] l e h = record { to = k; goes = refl; same = refl; far = subst (λ x. FarIf x k) (sym (append-nil l)) h }
along t at k (b ∷ s) l e h =
    let v = both (not (eqb b 10)) (every not_feed s) e in
    let n = next (ltb 0 (length t)) at k b l (not-true (eqb b 10) v.0) h in
    let r = along t (at + 1) n.to s (l ++ b ∷ []) v.1 n.far in
    let g = step_on (Rest (Text k)) t at b s n.goes in
    record {
      to = r.to;
      goes = ap (λ x. x.mode) g ∙ r.goes;
      same = ap (λ x. x.pairs) g ∙ r.same;
      far = subst (λ x. FarIf x r.to) (append_assoc l (b ∷ []) s) r.far;
    }

-- ---- the line feed

pub feed : (t : List Entry) (at : ℕ) (l : List ℕ) (k : ℕ) → (run (Rest (Text 0)) t at l).mode ≡ Rest (Text k) → behind_line t at l ≡ cond (eqb k 10) (Rest Fresh) (Rest (Text 0))
unfolding run step
feed t at l k e = ap (λ r. r.mode) (run_append (Rest (Text 0)) t at l (10 ∷ [])) ∙ ap (λ m. step (ltb 0 (length (run (Rest (Text 0)) t at l).pairs)) (at + length l) m 10) e

pub first_far : FarIf [] 0
unfolding every
first_far m = record { before = []; behind = []; white_before = refl; white_behind = refl; split = refl; none = λ _. refl }

pub or_not : (t : List Entry) (at : ℕ) (l : List ℕ) → every not_feed l ≡ true → ((behind_line t at l ≡ (Rest Fresh)) × BeginsData l) ⊎ (behind_line t at l ≡ Rest (Text 0))
or_not t at l e =
    let a = along t at 0 l [] e first_far in
    let f = feed t at l a.to a.goes in
    by_test (eqb a.to 10)
    (λ y. let z = eqb-true a.to 10 y in let d = a.far (omega arith) in inl (f ∙ ap (λ x. cond x (Rest Fresh) (Rest (Text 0))) y, record { first = d.before; rest = begin_data ++ d.behind; is_first = d.white_before; is_rest = record { first = begin_data; rest = d.behind; is_first = refl; is_rest = d.white_behind; split = refl }; split = d.split ∙ ap (λ n. d.before ++ (take n begin_data ++ d.behind)) z }))
    (λ y. inr (f ∙ ap (λ x. cond x (Rest Fresh) (Rest (Text 0))) y))

-- ---- a line with the word

-- white is no line feed
pub white_plain : (b : ℕ) → is_white b ≡ true → eqb b 10 ≡ false
white_plain b e = at_one (one_of (eqb b 32) (eqb b 9 || eqb b 13) e)
  where
    is : (n : ℕ) → eqb n 10 ≡ false → eqb b n ≡ true → eqb b 10 ≡ false
    is n f g = ap (λ x. eqb x 10) (eqb-true b n g) ∙ f

    at_two : (eqb b 9 ≡ true) ⊎ (eqb b 13 ≡ true) → eqb b 10 ≡ false
    at_two (inl g) = is 9 refl g
    at_two (inr g) = is 13 refl g

    at_one : (eqb b 32 ≡ true) ⊎ ((eqb b 9 || eqb b 13) ≡ true) → eqb b 10 ≡ false
    at_one (inl g) = is 32 refl g
    at_one (inr g) = at_two (one_of (eqb b 9) (eqb b 13) g)

still_step : (k : ℕ) → (eqb k 0 || eqb k 10) ≡ true → (have : Bool) (at b : ℕ) → is_white b ≡ true → step have at (Rest (Text k)) b ≡ Rest (Text k)
unfolding step
still_step k c have at b w = rw (white_plain b w, w, c)

still : (k : ℕ) → (eqb k 0 || eqb k 10) ≡ true → (t : List Entry) (at : ℕ) (w : List ℕ) → every is_white w ≡ true → (run (Rest (Text k)) t at w).mode ≡ Rest (Text k)
unfolding run every
still k c t at [] h = refl
still k c t at (b ∷ w) h =
    let v = both (is_white b) (every is_white w) h in
    ap (λ r. r.mode) (step_on (Rest (Text k)) t at b w (still_step k c (ltb 0 (length t)) at b v.0)) ∙ still k c t (at + 1) w v.1

pub mode_append : {m' : Mode} (m : Mode) (t : List Entry) (at : ℕ) (s w : List ℕ) → (run m t at s).mode ≡ m' → (run m t at (s ++ w)).mode ≡ (run m' (run m t at s).pairs (at + length s) w).mode
mode_append m t at s w e = ap (λ r. r.mode) (run_append m t at s w) ∙ ap (λ x. (run x (run m t at s).pairs (at + length s) w).mode) e

word_run : (t : List Entry) (at : ℕ) → (run (Rest (Text 0)) t at begin_data).mode ≡ Rest (Text 10)
unfolding run step matched
word_run t at = refl

pub begins : (t : List Entry) (at : ℕ) (l : List ℕ) → BeginsData l → behind_line t at l ≡ (Rest Fresh)
begins t at l o =
    let before = o.first in
    let behind = o.is_rest.rest in
    let whole : l ≡ before ++ (begin_data ++ behind) = o.split ∙ ap (λ x. before ++ x) (o.is_rest.split ∙ ap (λ x. x ++ behind) o.is_rest.is_first) in
    let u = (run (Rest (Text 0)) t at before).pairs in
    let i = at + length before in
    let e : (run (Rest (Text 0)) t at (before ++ (begin_data ++ behind))).mode ≡ Rest (Text 10) =
    mode_append (Rest (Text 0)) t at before (begin_data ++ behind) (still 0 refl t at before o.is_first)
    ∙ mode_append (Rest (Text 0)) u i begin_data behind (word_run u i)
    ∙ still 10 refl (run (Rest (Text 0)) u i begin_data).pairs (i + length begin_data) behind o.is_rest.is_rest in
    feed t at l 10 (ap (λ x. (run (Rest (Text 0)) t at x).mode) whole ∙ e)
