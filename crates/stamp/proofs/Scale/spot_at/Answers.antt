-- `stamp::Scale::spot_at` meets its contract, by the laws of Guess.
use mathlib.Core.Path.{◌≡◌, refl, sym, ap, ap₂, ◌∙◌}
use mathlib.Core.Bool.{true, false}
use Prim.Native.Nat.{ℕ, ◌+◌, ◌-◌, ◌*◌, ◌/◌, ◌≤◌, ◌<◌}
use native.Mathlib.Omega.{arith}
use borrow.Author.Rules.{rules, sfits_of}
use borrow.Author.Tests.{lt-leb}
use lib.Dec.{T, leb}
use lib.IntN.{ℤ, pos, nat_abs, ◌-ℤ◌}
use lib.Signed.{le_z, non_neg}
use mir.Syntax.{w32, w64}
use mir.Val.{SFits, Fits, to_z, of_z}
use mir.Facts.{to_z-of_z}
use Rattle.laws.proofs.Branches.{cond_rest}
use Rattle.laws.proofs.Cases.{by_truth}
use Rattle.laws.proofs.Difference.{up, down, le_z_true, diff_is, sum_is, le_le_z}
use Rattle.laws.proofs.Machine.{read1, read2, non_neg_from, one_side}
use Rattle.laws.proofs.Offsets.{Steps}
use Rattle.calendar.specs.declared.Span.{Span}
use Rattle.months.specs.Months.{days_before, month_length}
use Rattle.months.proofs.Laws.{days_next, days_most, length_least, length_most}
use Rattle.leap.proofs.Facts.{accepted_to}
use Rattle.labels.specs.Labels.{Offsets}
use Rattle.labels.specs.Seconds.{last_month}
use Rattle.labels.specs.Lengths.{seconds_in}
use Rattle.labels.specs.Back.{day_begins, begins, since, month_at, label_at}
use Rattle.labels.proofs.Falls.{Begun, Covered, guess}
use Rattle.labels.proofs.Guess.{second_range, guess_most, in_next, next_rest, in_guess, guess_rest, month_is_lem}
use Rattle.labels.proofs.Years.{covered_to}
use Rattle.labels.proofs.Lengths.{place_seconds}
use Rattle.stamp.specs.Scales.{offsets_of}
use Rattle.stamp.specs.Parts.{spot_at}
use Rattle.stamp.proofs.Scales.{steps}
use Rattle.stamp.proofs.Scale.spot_at.Goals as goal
use Rattle.stamp.proofs.Scale.spot_at.Goals.{After-month_of_day-span, Start}

-- what the caller has shown
module _ (c : goal.Start) where
  abbrev o : Offsets
  o = offsets_of c.args.t.now c.args.self

  abbrev s : ℕ
  s = c.args.axis / 1000000

  st : Steps o
  st = steps _ (accepted_to _ c.requires.offsets_value) c.args.self

  covered : Covered o (c.args.axis / 1000000)
  covered = covered_to o st c.args.axis c.requires.axis_value

  range : (128 ≤ s) × (s ≤ 400000000000)
  range = second_range o st s covered

  most : guess s ≤ last_month
  most = guess_most o st s covered

-- the month of 128 seconds before
module _ (c : goal.After-month_of_day-span) where
  number_is : c.month_of_day-span.result.number ≡ guess (s c.before)
  number_is = ap (λ (x : Span). x.number) c.month_of_day-span.ensures

  start_is : c.month_of_day-span.result.start ≡ days_before (guess (s c.before))
  start_is = ap (λ (x : Span). x.start) c.month_of_day-span.ensures

  length_is : c.month_of_day-span.result.length ≡ month_length (guess (s c.before))
  length_is = ap (λ (x : Span). x.length) c.month_of_day-span.ensures

  end_is : c.month_of_day-span.result.start + c.month_of_day-span.result.length ≡ days_before (guess (s c.before) + 1)
  end_is = omega (arith, start_is, length_is, days_next (guess (s c.before)))

  days_few : days_before (guess (s c.before) + 1) ≤ 4000000
  days_few = omega (arith, most c.before, days_most (guess (s c.before) + 1))

-- a time since a month's begin, which reached its callee by the bits of the offset
elapsed_is : (o : Offsets) (s m : ℕ) {y z : ℤ} {d : ℕ} → SFits w32 z → y ≡ pos s -ℤ day_begins d (to_z w32 (of_z w32 z)) → d ≡ days_before m → z ≡ o m → y ≡ pos s -ℤ begins o m
elapsed_is o s m {d = d} f h p q = read1 (λ (x : ℤ). pos s -ℤ day_begins d x) f h ∙ ap₂ (λ (n : ℕ) (x : ℤ). pos s -ℤ day_begins n x) p q

since_is : (o : Offsets) (s m : ℕ) {y : ℤ} → y ≡ pos s -ℤ begins o m → nat_abs y ≡ since (days_before m) (o m) s
unfolding since
since_is o s m e = ap nat_abs e

-- it has begun where this is not negative
begun_is : (y : ℤ) (x n : ℤ) → y ≡ x -ℤ n → le_z (pos 0) y ≡ le_z n x
begun_is y x n e =
    let q = ap up e in
    let r = ap down e in
    by_truth (le_z (pos 0) y) (le_z n x)
    (λ p. le_le_z n x (omega (arith, le_z_true (pos 0) y p, diff_is x n)))
    (λ p. le_le_z (pos 0) y (omega (arith, le_z_true n x p, diff_is x n)))

told : (o : Offsets) (s m : ℕ) {y : ℤ} → SFits w64 y → y ≡ pos s -ℤ begins o m → le_z (pos 0) (to_z w64 (of_z w64 y)) ≡ le_z (begins o m) (pos s)
told o s m {y} f e = ap (le_z (pos 0)) (to_z-of_z f) ∙ begun_is y (pos s) (begins o m) e

le_z_begun : (o : Offsets) (m s : ℕ) → Begun o m s → le_z (begins o m) (pos s) ≡ true
le_z_begun o m s h = le_le_z (begins o m) (pos s) (omega (arith, sum_is (pos (86400 * days_before m)) (o m)))

-- an elapsed time that is not negative is the second of the month, and a short one fits a u32
counts : (z : ℤ) → SFits w64 z → le_z (pos 0) z ≡ true → nat_abs z < 4000000 → T (non_neg (to_z w64 (of_z w64 z))) × Fits w32 (nat_abs (to_z w64 (of_z w64 z)))
counts z f h l =
    let p = le_z_true (pos 0) z h in
    rw (to_z-of_z f) (non_neg_from z (omega (arith, one_side z)), record { fits = omega arith })

module _ (o : Offsets) (st : Steps o) (s : ℕ) (cov : Covered o s) where
  -- the time since the next month's begin, where that has begun
  module _ (y : ℤ) (f : SFits w64 y) (e : y ≡ pos s -ℤ begins o (guess s + 1)) (t : le_z (pos 0) (to_z w64 (of_z w64 y)) ≡ true) where
    yes : le_z (begins o (guess s + 1)) (pos s) ≡ true
    yes = sym (told o s (guess s + 1) f e) ∙ t

    past_few : nat_abs y < 86400
    past_few = omega (arith, since_is o s (guess s + 1) e, next_rest o st s cov yes)

    past_casts : T (non_neg (to_z w64 (of_z w64 y))) × Fits w32 (nat_abs (to_z w64 (of_z w64 y)))
    past_casts = counts y f (ap (le_z (pos 0)) (sym (to_z-of_z f)) ∙ t) (omega (arith, past_few))

  -- and the time since this month's, where it has not
  module _ (z : ℤ) (f : SFits w64 z) (e : z ≡ pos s -ℤ begins o (guess s)) (n : le_z (begins o (guess s + 1)) (pos s) ≡ false) where
    rest_casts : T (non_neg (to_z w64 (of_z w64 z))) × Fits w32 (nat_abs (to_z w64 (of_z w64 z)))
    rest_casts =
        let few : nat_abs z < 3000000 = omega (arith, since_is o s (guess s) e, guess_rest o st s cov n) in
        counts z f (begun_is z (pos s) (begins o (guess s)) e ∙ le_z_begun o (guess s) s (in_guess o st s cov n).begun) (omega (arith, few))

-- the record that the code makes, where it is the definition's month
spotted : (o : Offsets) (s n m d k r z : ℕ) → month_at o s last_month ≡ m → n ≡ m → d ≡ days_before m → k ≡ month_length m → r ≡ since (days_before m) (o m) s → z ≡ seconds_in (leb (86400 * (month_length m - 1)) (since (days_before m) (o m) s)) (o m) (o (m + 1)) → record { place = record { month = n; start = d; days = k; second = r }; seconds = z } ≡ spot_at o s
unfolding label_at
spotted o s n m d k r z e p q f g h = let w = h ∙ place_seconds o s m in rw e (cc)

-- a second of a month's first day
first_day_lem : (m r : ℕ) (x y : ℤ) → r < 86400 → 86400 ≡ seconds_in (leb (86400 * (month_length m - 1)) r) x y
unfolding seconds_in
first_day_lem m r x y h = cond_rest _ (lt-leb (86400 * (month_length m - 1)) r (omega (arith, length_least m))) refl

pub overflow_sub-second : goal.overflow_sub-second
overflow_sub-second c = (range (goal.at.overflow_sub-second c).Start).0

pub overflow_add-end : goal.overflow_add-end
overflow_add-end c = let m = (goal.at.overflow_add-end c).After-month_of_day-span in omega (arith, end_is m, days_few m)

pub elapsed-past-requires : goal.elapsed-past-requires
elapsed-past-requires c = let m = (goal.at.elapsed-past-requires c).After-month_of_day-span in (omega (arith, end_is m, days_few m), omega (arith, range (goal.at.elapsed-past-requires c).Start))

pub overflow_add-result : goal.overflow_add-result
overflow_add-result c = omega (arith, number_is (goal.at.overflow_add-result c).After-month_of_day-span, most (goal.at.overflow_add-result c).Start)

pub overflow_add-m : goal.overflow_add-m
overflow_add-m c = omega (arith, number_is (goal.at.overflow_add-m c).After-month_of_day-span, most (goal.at.overflow_add-m c).Start)

pub overflow_cast-result : goal.overflow_cast-result
overflow_cast-result c =
    let b = (goal.at.overflow_cast-result c).Start in
    let m = (goal.at.overflow_cast-result c).After-month_of_day-span in
    let next : SFits w32 c.near-near.result.next = search rules in
    let f : SFits w64 c.elapsed-past.result = sfits_of c.elapsed-past.type_inv in
    let e : c.elapsed-past.result ≡ pos (s b) -ℤ begins (o b) (guess (s b) + 1) = elapsed_is (o b) (s b) (guess (s b) + 1) next c.elapsed-past.ensures (end_is m) (c.near-near.ensures.1 ∙ ap (λ (k : ℕ). o b (k + 1)) (number_is m)) in
    past_casts (o b) (st b) (s b) (covered b) c.elapsed-past.result f e c.if-past-ge0.true

pub returns-then-past-ge0 : goal.returns-then-past-ge0
returns-then-past-ge0 c =
    let b = (goal.at.returns-then-past-ge0 c).Start in
    let m = (goal.at.returns-then-past-ge0 c).After-month_of_day-span in
    let next : SFits w32 c.near-near.result.next = search rules in
    let f : SFits w64 c.elapsed-past.result = sfits_of c.elapsed-past.type_inv in
    let e : c.elapsed-past.result ≡ pos (s b) -ℤ begins (o b) (guess (s b) + 1) = elapsed_is (o b) (s b) (guess (s b) + 1) next c.elapsed-past.ensures (end_is m) (c.near-near.ensures.1 ∙ ap (λ (k : ℕ). o b (k + 1)) (number_is m)) in
    let g = guess (s b) + 1 in
    let i = in_next (o b) (st b) (s b) (covered b) (yes (o b) (st b) (s b) (covered b) c.elapsed-past.result f e c.if-past-ge0.true) in
    let since = since_is (o b) (s b) g e in
    spotted (o b) (s b) _ g _ _ _ _ (month_is_lem (o b) (st b) (s b) (covered b) g i) (ap (λ (n : ℕ). n + 1) (number_is m)) (end_is m) (c.month_length.ensures ∙ ap (λ (n : ℕ). month_length (n + 1)) (number_is m)) (ap nat_abs (to_z-of_z f) ∙ since)
    (first_day_lem g _ _ _ (omega (arith, since, past_few (o b) (st b) (s b) (covered b) c.elapsed-past.result f e c.if-past-ge0.true)))

pub elapsed-rest-requires : goal.elapsed-rest-requires
elapsed-rest-requires c =
    let b = (goal.at.elapsed-rest-requires c).Start in
    let m = (goal.at.elapsed-rest-requires c).After-month_of_day-span in
    (omega (arith, start_is m, days_next (guess (s b)), days_few m), omega (arith, range b))

pub overflow_cast-rest : goal.overflow_cast-rest
overflow_cast-rest c =
    let b = (goal.at.overflow_cast-rest c).Start in
    let m = (goal.at.overflow_cast-rest c).After-month_of_day-span in
    let next : SFits w32 c.near-near.result.next = search rules in
    let f : SFits w64 c.elapsed-past.result = sfits_of c.elapsed-past.type_inv in
    let e : c.elapsed-past.result ≡ pos (s b) -ℤ begins (o b) (guess (s b) + 1) = elapsed_is (o b) (s b) (guess (s b) + 1) next c.elapsed-past.ensures (end_is m) (c.near-near.ensures.1 ∙ ap (λ (k : ℕ). o b (k + 1)) (number_is m)) in
    let n : le_z (begins (o b) (guess (s b) + 1)) (pos (s b)) ≡ false = sym (told (o b) (s b) (guess (s b) + 1) f e) ∙ c.if-past-ge0.false in
    let here : SFits w32 c.near-near.result.here = search rules in
    let g : SFits w64 c.elapsed-rest.result = sfits_of c.elapsed-rest.type_inv in
    let r : c.elapsed-rest.result ≡ pos (s b) -ℤ begins (o b) (guess (s b)) = elapsed_is (o b) (s b) (guess (s b)) here c.elapsed-rest.ensures (start_is m) (c.near-near.ensures.0 ∙ ap (o b) (number_is m)) in
    rest_casts (o b) (st b) (s b) (covered b) c.elapsed-rest.result g r n

pub overflow_sub-last : goal.overflow_sub-last
overflow_sub-last c = omega (arith, length_is (goal.at.overflow_sub-last c).After-month_of_day-span, length_least (guess (s (goal.at.overflow_sub-last c).Start)))

pub overflow_mul-last : goal.overflow_mul-last
overflow_mul-last c = record { fits = omega (arith, length_is (goal.at.overflow_mul-last c).After-month_of_day-span, length_most (guess (s (goal.at.overflow_mul-last c).Start))) }

pub returns : goal.returns
returns c =
    let b = (goal.at.returns c).Start in
    let m = (goal.at.returns c).After-month_of_day-span in
    let next : SFits w32 c.near-near.result.next = search rules in
    let f : SFits w64 c.elapsed-past.result = sfits_of c.elapsed-past.type_inv in
    let e : c.elapsed-past.result ≡ pos (s b) -ℤ begins (o b) (guess (s b) + 1) = elapsed_is (o b) (s b) (guess (s b) + 1) next c.elapsed-past.ensures (end_is m) (c.near-near.ensures.1 ∙ ap (λ (k : ℕ). o b (k + 1)) (number_is m)) in
    let n : le_z (begins (o b) (guess (s b) + 1)) (pos (s b)) ≡ false = sym (told (o b) (s b) (guess (s b) + 1) f e) ∙ c.if-past-ge0.false in
    let here : SFits w32 c.near-near.result.here = search rules in
    let g : SFits w64 c.elapsed-rest.result = sfits_of c.elapsed-rest.type_inv in
    let r : c.elapsed-rest.result ≡ pos (s b) -ℤ begins (o b) (guess (s b)) = elapsed_is (o b) (s b) (guess (s b)) here c.elapsed-rest.ensures (start_is m) (c.near-near.ensures.0 ∙ ap (o b) (number_is m)) in
    let i = in_guess (o b) (st b) (s b) (covered b) n in
    let second = ap nat_abs (to_z-of_z g) ∙ since_is (o b) (s b) (guess (s b)) r in
    let fst : c.near-near.result.here ≡ o b (guess (s b)) = c.near-near.ensures.0 ∙ ap (o b) (number_is m) in
    let snd : c.near-near.result.next ≡ o b (guess (s b) + 1) = c.near-near.ensures.1 ∙ ap (λ (k : ℕ). o b (k + 1)) (number_is m) in
    let day : c.day_seconds-seconds.result ≡ seconds_in (leb (86400 * (month_length (guess (s b)) - 1)) (since (days_before (guess (s b))) (o b (guess (s b))) (s b))) (o b (guess (s b))) (o b (guess (s b) + 1)) =
    read2 (seconds_in (leb (86400 * (c.month_of_day-span.result.length - 1)) (nat_abs (to_z w64 (of_z w64 c.elapsed-rest.result))))) here next c.day_seconds-seconds.ensures
    ∙ cc (length_is m, second, fst, snd) in
    spotted (o b) (s b) _ (guess (s b)) _ _ _ _ (month_is_lem (o b) (st b) (s b) (covered b) (guess (s b)) i) (number_is m) (start_is m) (length_is m) second day
