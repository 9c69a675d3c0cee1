-- The lines of a listing, one behind another: what is stored and what is still to come are the whole.
-- Assumes nothing.
use mathlib.Core.Path.{◌≡◌, refl, sym, ap, subst, ◌∙◌}
use mathlib.Core.Logic.{◌⊎◌, inl, inr}
use mathlib.Core.Bool.{true}
use mathlib.Core.List.{List, [], ◌++◌, append_assoc, append-nil}
use Prim.Native.Nat.{ℕ, suc, ◌+◌, ◌-◌, ◌*◌, ◌≤◌, ◌<◌}
use native.Mathlib.Omega.{arith}
use lib.ListN.{length}
use Rattle.std.specs.Prelude.{Ok, Err}
use Rattle.laws.proofs.Placed.{place_none}
use Rattle.answer.specs.declared.Refusal.{Refusal}
use Rattle.leap.specs.declared.Table.{Table}
use Rattle.leap.specs.Leap.{accepted}
use Rattle.labels.specs.declared.Label.{Label}
use Rattle.clock.specs.Clock.{tick, tick_results}
use Rattle.clock.specs.Promise.{last_label, admits, Follows, ended}
use Rattle.clock.proofs.Promise.{all_tick}
use Rattle.digits.specs.Bytes.{Placed}
use Rattle.digits.proofs.Bytes.{is_placed, then_placed}
use Rattle.listing.specs.Listing.{row_text, row_after, rows_from}

-- what a tick of an admitted label gives is admitted
stays : (t : Table) (l l' : Label) → ((k : Label) × ((tick_results (tick t l) ≡ (0, k)) × Follows t l k)) ⊎ ((l ≡ last_label) × (tick_results (tick t l) ≡ ended)) → tick t l ≡ Ok l' → admits t l' ≡ true
stays t l l' (inl w) e =
    let q : w.0 ≡ l' = ap (λ v. v.1) (sym w.1.0 ∙ ap tick_results e) in
    subst (λ x. admits t x ≡ true) q w.1.1.is_admitted
stays t l l' (inr w) e =
    let z : ◌≡◌ {A = ℕ} 7 0 = ap (λ v. v.0) (sym w.1 ∙ ap tick_results e) in
    absurd (omega arith)

module _ (t : Table) (first : Label) (count from : ℕ) (start : List ℕ) where
  pub record Rowed (out : List ℕ) (l : Label) (at left : ℕ) : Type 0 where
    pub done : List ℕ
    pub stored : Placed start from done at out
    pub whole : done ++ rows_from t left l ≡ rows_from t count first
    pub room : at + 42 * left ≤ length start
    pub good : accepted t ≡ true
    pub there : admits t l ≡ true

  abbrev Whole : ℕ → List ℕ → Type 0
  Whole at out = Placed start from (rows_from t count first) at out

  pub rowed_none : accepted t ≡ true → admits t first ≡ true → from + 42 * count ≤ length start → Rowed start first from count
  rowed_none g h r =
      record {
        done = [];
        stored = is_placed start from [] (omega arith) (omega arith) (sym (place_none start from));
        whole = refl;
        room = r;
        good = g;
        there = h;
      }

  module _ (out : List ℕ) (l : Label) (at left : ℕ) (r : Rowed out l at left) where
    pub rowed_end : left ≡ 0 → Whole at out
    unfolding rows_from
    rowed_end e =
        let w : r.done ≡ rows_from t count first = sym (append-nil r.done) ∙ rw e at r.whole in rw w at r.stored

    module _ (h : 0 < left) {b : ℕ} {o : List ℕ} (p : Placed out at (row_text t l) b o) (few : b ≤ at + 42) where
      more : Placed start from (r.done ++ row_text t l) b o
      more = then_placed start from r.done (row_text t l) r.stored p

      whole_is : (r.done ++ row_text t l) ++ row_after (rows_from t (left - 1)) (tick t l) ≡ rows_from t count first
      unfolding rows_from
      whole_is =
          let n : left ≡ suc (left - 1) = omega arith in
          append_assoc r.done (row_text t l) _ ∙ subst (λ (k : ℕ). r.done ++ rows_from t k l ≡ rows_from t count first) n r.whole

      -- the clock goes on
      pub rowed_more : {next : Label} → tick t l ≡ Ok next → Rowed o next b (left - 1)
      rowed_more {next} e =
          record {
            done = r.done ++ row_text t l;
            stored = more;
            whole = rw e at whole_is;
            room = omega (arith, r.room);
            good = r.good;
            there = stays t l next ((all_tick t r.good).ticks_to_the_next l r.there) e;
          }

      -- the clock ends
      pub rowed_last : {why : Refusal} → tick t l ≡ Err why → Whole b o
      rowed_last {why} e =
          let w : r.done ++ row_text t l ≡ rows_from t count first = sym (append-nil (r.done ++ row_text t l)) ∙ rw e at whole_is in rw w at more
