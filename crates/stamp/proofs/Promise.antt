-- Instants and stamps undo each other, and each is given exactly when a reading stands for the instant.
-- Assumes nothing.
use mathlib.Core.Path.{◌≡◌, refl, sym, ap, ap₂, subst, ◌∙◌}
use mathlib.Core.Logic.{◌↔◌}
use mathlib.Core.Bool.{Bool, true, false, true≢false}
use mathlib.Core.List.{[], ◌∷◌}
use Prim.Native.Nat.{ℕ, ◌+◌, ◌*◌, ◌/◌, ◌%◌}
use native.Mathlib.Omega.{arith}
use borrow.Author.Tests.{le-leb, leb-true}
use lib.Dec.{leb}
use lib.IntN.{ℤ, pos, nat_abs}
use Rattle.std.specs.Prelude.{Result, Ok, Err}
use Rattle.laws.proofs.Cases.{by_test, and_l, and_r, join}
use Rattle.laws.proofs.Offsets.{Steps}
use Rattle.answer.specs.declared.Refusal.{Refusal}
use Rattle.answer.specs.declared.Refusal.TheVariants.{Range as RANGE, Ask as ASK, Table as TABLE}
use Rattle.answer.specs.Refusals.{refusing}
use Rattle.answer.proofs.Orders.{refused, none_refused, number_some}
use Rattle.leap.specs.declared.Table.{Table}
use Rattle.leap.specs.Leap.{accepted}
use Rattle.leap.proofs.Facts.{Accepted, accepted_to}
use Rattle.labels.specs.declared.Label.{Label}
use Rattle.labels.specs.declared.Reading.{Reading}
use Rattle.labels.specs.Labels.{Offsets, label_tests}
use Rattle.labels.specs.Seconds.{axis_of, in_years}
use Rattle.labels.specs.Back.{label_at, reading_at}
use Rattle.labels.proofs.Falls.{Covered}
use Rattle.labels.proofs.Admitted.{Admitted, admitted_to, admitted_from}
use Rattle.labels.proofs.Years.{axis_second, covered_to, covered_from}
use Rattle.labels.proofs.Labelled.{At, at_covered, at_label, standing, label_at_lem}
use Rattle.stamp.specs.declared.Scale.{Scale}
use Rattle.stamp.specs.declared.Stamp.{Stamp}
use Rattle.stamp.specs.Scales.{scale_of, scale_tests, offsets_of, most_second, to_instant, to_axis, instant_for}
use Rattle.stamp.specs.Back.{in_range, axis_count, stamp_at}
use Rattle.stamp.specs.Stamps.{instant_of, instant_results, stamp_of, stamp_results}
use Rattle.stamp.specs.Promise.{Reads, stamp, Converts}
use Rattle.stamp.proofs.First.{was_given, same_given}
use Rattle.stamp.proofs.Scales.{steps, most_of, axis_back, instant_back as axis_instant}
use Rattle.stamp.proofs.Ranges.{range_low, range_high, near_axis, count_in_years}

module _ (t : Table) (acc : Accepted t) (sc : Scale) where
  o : Offsets
  o = offsets_of t sc

  st : Steps o
  unfolding o
  st = steps t acc sc

  -- ---- from a reading to its instant and back

  module _ (r : Reading) (a : Admitted o (most_second sc) r) where
    -- its label's second of the axis, and its microsecond
    at : (s : ℕ) × At o r.label s
    at = standing o st (most_second sc) r a

    c : ℕ
    c = 1000000 * at.0 + r.micro

    second_is : c / 1000000 ≡ at.0
    unfolding c
    second_is = omega (arith, a.on_clock.micro_high)

    axis_is : to_axis sc (instant_for t sc r) ≡ pos c
    unfolding o c
    axis_is = axis_back sc (axis_of (offsets_of t sc) r) ∙ axis_second (offsets_of t sc) r at.0 at.1.stands

    there_in_range : in_range t sc (instant_for t sc r) ≡ true
    unfolding o
    there_in_range =
        subst (λ (z : ℤ). in_years (offsets_of t sc) z ≡ true) (sym axis_is)
        (covered_from o st c (subst (Covered o) (sym second_is) (at_covered o st r.label at.0 at.1)))

    there_back : stamp_at t sc (instant_for t sc r) ≡ stamp sc r
    unfolding o c
    there_back =
        let n : axis_count sc (instant_for t sc r) ≡ 1000000 * at.0 + r.micro = ap (λ (z : ℤ). nat_abs z) axis_is in
        let p : axis_count sc (instant_for t sc r) / 1000000 ≡ at.0 = omega (arith, n, a.on_clock.micro_high) in
        let q : axis_count sc (instant_for t sc r) % 1000000 ≡ r.micro = omega (arith, n, a.on_clock.micro_high) in
        ap₂ (λ (l : Label) (u : ℕ). stamp sc (record { label = l; micro = u })) (ap (label_at (offsets_of t sc)) p ∙ at_label (offsets_of t sc) st r.label at.0 at.1) q

  -- ---- from an instant to its stamp and back

  module _ (x : ℤ) (e : in_range t sc x ≡ true) where
    abbrev k : ℕ
    k = axis_count sc x

    at_count : At o (label_at o (k / 1000000)) (k / 1000000)
    unfolding o
    at_count = label_at_lem (offsets_of t sc) (steps t acc sc) (k / 1000000) (covered_to (offsets_of t sc) (steps t acc sc) k (count_in_years t acc sc x e))

    instant_again : instant_for t sc (reading_at (offsets_of t sc) k) ≡ x
    unfolding o
    instant_again =
        let whole : 1000000 * (k / 1000000) + k % 1000000 ≡ k = omega arith in
        ap (to_instant sc) (axis_second (offsets_of t sc) (reading_at (offsets_of t sc) k) (k / 1000000) at_count.stands ∙ ap pos whole ∙ sym (near_axis sc x (range_low t acc sc x e) (range_high t acc sc x e)))
        ∙ axis_instant sc x

    pub back_reads : Reads t sc (stamp_at t sc x).reading x
    unfolding o
    back_reads =
        let g = at_count.exists in
        record {
          is_admitted = admitted_from (offsets_of t sc) (most_second sc) (reading_at (offsets_of t sc) k)
              (record {
                since_1972 = at_count.since_1972;
                until_9999 = at_count.until_9999;
                exists = g;
                on_clock = record { hour_high = g.hour_high; minute_high = g.minute_high; second_most = most_of t acc sc (label_at (offsets_of t sc) (k / 1000000)) g; micro_high = omega arith };
              });
          instant_is = instant_again;
        }

-- an instant's place on the axis is that of the reading which stands for it
pub on_axis : (t : Table) (s : Scale) (r : Reading) (x : ℤ) → Reads t s r x → to_axis s x ≡ axis_of (offsets_of t s) r
on_axis t s r x h = ap (to_axis s) (sym h.instant_is) ∙ axis_back s (axis_of (offsets_of t s) r)

-- ---- in range are exactly the instants that a reading stands for, and its stamp is that reading

module _ (t : Table) (good : accepted t ≡ true) (s : Scale) where
  there : (r : Reading) (x : ℤ) → Reads t s r x → (in_range t s x ≡ true) × (stamp_at t s x ≡ stamp s r)
  unfolding o
  there r x b =
      let acc = accepted_to t good in
      let a = admitted_to (offsets_of t s) (most_second s) r b.is_admitted in
      subst (λ (y : ℤ). (in_range t s y ≡ true) × (stamp_at t s y ≡ stamp s r)) b.instant_is (there_in_range t acc s r a, there_back t acc s r a)

  pub in_range_reads : (x : ℤ) → (in_range t s x ≡ true) ↔ ((r : Reading) × Reads t s r x)
  in_range_reads x = (λ e. ((stamp_at t s x).reading, back_reads t (accepted_to t good) s x e), λ g. (there g.0 x g.1).0)

  pub reads_stamp : (r : Reading) (x : ℤ) → Reads t s r x → stamp_at t s x ≡ stamp s r
  reads_stamp r x b = (there r x b).1

-- ---- the calls

module _ (t : Table) (k : ℕ) where
  -- what an answer that is no refusal says
  pub instant_given : (r : Reading) (x : ℤ) → instant_of t k r ≡ Ok x → (leb k 3 ≡ true) × ((accepted t ≡ true) × Reads t (scale_of k) r x)
  unfolding instant_of
  instant_given r x e =
      let p = was_given (scale_tests t k) x e in
      let q = was_given (label_tests (offsets_of t (scale_of k)) (most_second (scale_of k)) r) x p.1 in
      (and_l (leb k 3) _ p.0, (search (and_l, and_r), record { is_admitted = q.0; instant_is = same_given q.1 }))

  pub stamp_given : (x : ℤ) (z : Stamp) → stamp_of t x k ≡ Ok z → (leb k 3 ≡ true) × ((accepted t ≡ true) × ((in_range t (scale_of k) x ≡ true) × (stamp_at t (scale_of k) x ≡ z)))
  unfolding stamp_of
  stamp_given x z e =
      let p = was_given (scale_tests t k) z e in
      let q = was_given ((in_range t (scale_of k) x, RANGE) ∷ []) z p.1 in
      (and_l (leb k 3) _ p.0, (search (and_l, and_r), (and_l _ true q.0, same_given q.1)))

  -- what a reading gives that stands for an instant
  pub instant_from : leb k 3 ≡ true → accepted t ≡ true → (r : Reading) (x : ℤ) → Reads t (scale_of k) r x → instant_of t k r ≡ Ok x
  unfolding instant_of
  instant_from known good r x b =
      none_refused Err (scale_tests t k) _ (join known (join good refl))
      ∙ none_refused Err (label_tests (offsets_of t (scale_of k)) (most_second (scale_of k)) r) _ b.is_admitted
      ∙ ap Ok b.instant_is

  pub stamp_from : leb k 3 ≡ true → accepted t ≡ true → (r : Reading) (x : ℤ) → Reads t (scale_of k) r x → stamp_of t x k ≡ Ok (stamp (scale_of k) r)
  unfolding stamp_of
  stamp_from known good r x b =
      none_refused Err (scale_tests t k) _ (join known (join good refl))
      ∙ none_refused Err ((in_range t (scale_of k) x, RANGE) ∷ []) _ (join ((in_range_reads t good (scale_of k) x).1 (r, b)) refl)
      ∙ ap Ok (reads_stamp t good (scale_of k) r x b)

  -- each undoes the other
  pub stamp_back : (r : Reading) (x : ℤ) → instant_of t k r ≡ Ok x → stamp_of t x k ≡ Ok (stamp (scale_of k) r)
  stamp_back r x e = let g = instant_given r x e in stamp_from g.0 g.1.0 r x g.1.1

  pub stamp_reads : (x : ℤ) (z : Stamp) → stamp_of t x k ≡ Ok z → (z.scale ≡ scale_of k) × Reads t (scale_of k) z.reading x
  stamp_reads x z e =
      let g = stamp_given x z e in
      let q = g.1.1.1 in
      (ap (λ (y : Stamp). y.scale) (sym q), subst (λ (y : Stamp). Reads t (scale_of k) y.reading x) q (back_reads t (accepted_to t g.1.0) (scale_of k) x g.1.1.0))

  pub instant_back : (z : Stamp) (x : ℤ) → stamp_of t x k ≡ Ok z → (z.scale ≡ scale_of k) × (instant_of t k z.reading ≡ Ok x)
  instant_back z x e =
      let g = stamp_given x z e in
      let b = stamp_reads x z e in
      (b.0, instant_from g.0 g.1.0 z.reading x b.1)

  -- RANGE: scale and table pass, and the instant is not in range
  pub range_given : (x : ℤ) → (stamp_results (stamp_of t x k)).0 ≡ 7 → (leb k 3 ≡ true) × ((accepted t ≡ true) × (in_range t (scale_of k) x ≡ false))
  unfolding stamp_of
  range_given x e = go (leb k 3) (accepted t) (in_range t (scale_of k) x) e
    where
      go : (a b c : Bool) → (stamp_results (refusing Err ((a, ASK) ∷ (b, TABLE) ∷ (c, RANGE) ∷ []) (Ok (stamp_at t (scale_of k) x)))).0 ≡ 7 → (a ≡ true) × ((b ≡ true) × (c ≡ false))
      go true true false e = (refl, (refl, refl))
      go true true true e = absurd (omega arith)
      go true false c e = absurd (omega arith)
      go false b c e = absurd (omega arith)

  pub range_from : leb k 3 ≡ true → accepted t ≡ true → (x : ℤ) → in_range t (scale_of k) x ≡ false → stamp_of t x k ≡ Err RANGE
  unfolding stamp_of
  range_from known good x e = none_refused Err (scale_tests t k) _ (join known (join good refl)) ∙ sym (refused _ _ e)

-- ---- from an answer's numbers back to the answer: number 0 is no refusal's, and 7 is RANGE's alone

pub at_instant : (a : Result ℤ Refusal) (x : ℤ) → instant_results a ≡ (0, x) → a ≡ Ok x
at_instant (Ok y) x e = ap (λ v. Ok v.1) e
at_instant (Err why) x e = absurd (number_some why (ap (λ v. v.0) e))

pub at_stamp : (a : Result Stamp Refusal) (z : Stamp) → stamp_results a ≡ (0, z) → a ≡ Ok z
at_stamp (Ok u) z e = ap (λ v. Ok v.1) e
at_stamp (Err why) z e = absurd (number_some why (ap (λ v. v.0) e))

pub converts : (t : Table) (k : ℕ) → Converts t k
converts t k =
    record {
      instant_exactly = λ r x. (
        λ e. let g = instant_given t k r x (at_instant _ x e) in (leb-true k 3 g.0, g.1.0, g.1.1),
        λ g. ap instant_results (instant_from t k (le-leb k 3 g.0) g.1 r x g.2),
      );
      stamp_exactly = λ x z. (
        λ e.
            let a = at_stamp _ z e in
            let g = stamp_given t k x z a in
            let b = stamp_reads t k x z a in
            (leb-true k 3 g.0, g.1.0, b.0, b.1),
        λ g.
            ap stamp_results (stamp_from t k (le-leb k 3 g.0) g.1 z.reading x g.3)
            ∙ ap (λ (s : Scale). (0, stamp s z.reading)) (sym g.2),
      );
      out_of_range = λ x. (
        λ e. let g = range_given t k x e in (leb-true k 3 g.0, g.1.0, λ r b. true≢false (sym ((in_range_reads t g.1.0 (scale_of k) x).1 (r, b)) ∙ g.1.1)),
        λ g.
            let none : in_range t (scale_of k) x ≡ false =
            by_test (in_range t (scale_of k) x) (λ e. let b = (in_range_reads t g.1 (scale_of k) x).0 e in absurd (g.2 b.0 b.1)) (λ e. e) in
            ap (λ a. (stamp_results a).0) (range_from t k (le-leb k 3 g.0) g.1 x none),
      );
    }
