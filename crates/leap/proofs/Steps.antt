-- TAI-UTC moves with the entries: which is the last that has begun in a month, and in the next.
-- Assumes nothing.
use mathlib.Core.Path.{◌≡◌, refl, sym, ap, subst, ◌∙◌}
use mathlib.Core.Logic.{◌⊎◌, inl, inr, ⊎_elim}
use Prim.Native.Nat.{ℕ, zero, suc, ◌+◌, ◌≤◌, ◌<◌}
use native.Mathlib.Numerals.{add-one}
use native.Mathlib.Omega.{arith}
use lib.IntN.{ℤ, suc_ℤ}
use Rattle.laws.proofs.Cases.{by_order, lt_cases}
use Rattle.laws.proofs.Difference.{eq_to, suc_is}
use Rattle.leap.specs.declared.Table.{Table}
use Rattle.leap.specs.Leap.{last_entry_month, entry_month, entry_offset, epoch, last_begun, top, offset_in, offset_at}
use Rattle.leap.specs.Entries.{entry}
use Rattle.leap.specs.Steps.{EntryAfter, MovesWithEntries, AllMove}
use Rattle.leap.proofs.Facts.{Later, Accepted, accepted_to}
use Rattle.leap.proofs.Begun.{begun_all, begun_less, begun_first}

not_its_next : (x : ℤ) → x ≡ suc_ℤ x → ⊥
not_its_next x e = omega (arith, eq_to e, suc_is x)

module _ (t : Table) (acc : Accepted t) where
  pub top_is : top t.count + 1 ≡ t.count
  top_is = omega (arith, acc.some_entry, acc.few)

  rises : (k : ℕ) → suc k < t.count → Later (entry t k) (entry t (suc k))
  rises k h = rw (add-one k) at (acc.later k (omega arith))

  -- a later entry's month is not before
  pub grow : (k n : ℕ) → k ≤ n → n < t.count → entry_month t k ≤ entry_month t n
  grow k zero h l = let e : k ≡ 0 = omega arith in rw e (omega arith)
  grow k (suc n) h l =
      by_order k (suc n)
      (λ q. omega (arith, grow k n (omega arith) (omega arith), (rises n l).rises))
      (λ q. let e : k ≡ suc n = omega arith in rw e (omega arith))

  -- of the entries 0 to n entry k is the last that has begun in month m
  pub record Last (m n k : ℕ) : Type 0 where
    pub inside : k ≤ n
    pub has_begun : 0 < k → epoch + entry_month t k ≤ m
    pub not_yet : k < n → m < epoch + entry_month t (k + 1)

  begun_last : (m n k : ℕ) → n < t.count → last_begun t.months m n ≡ k → Last m n k
  begun_last m zero k l e =
      let z = begun_first t.months m 0 (omega arith) in
      record { inside = omega arith; has_begun = λ h. absurd (omega arith); not_yet = λ h. absurd (omega arith) }
  begun_last m (suc n) k l e =
      by_order m (epoch + entry_month t (suc n))
      (λ q.
      let ih = begun_last m n k (omega arith) (sym (begun_less t.months m n q) ∙ e) in
      record {
        inside = omega (arith, ih.inside);
        has_begun = ih.has_begun;
        not_yet = λ h. by_order k n ih.not_yet (λ g. let s : k + 1 ≡ suc n = omega (arith, ih.inside) in rw s q);
      })
      (λ q.
      subst (Last m (suc n)) (sym (begun_all t.months m (suc n) q) ∙ e)
      (record { inside = omega arith; has_begun = λ h. q; not_yet = λ h. absurd (omega arith) }))

  one_last : (m n j k : ℕ) → n < t.count → Last m n j → Last m n k → j ≡ k
  one_last m n j k l a b =
      ⊎_elim
      (λ h. absurd (omega (arith, a.not_yet (omega (arith, b.inside)), b.has_begun (omega arith), grow (j + 1) k (omega arith) (omega (arith, b.inside)))))
      (⊎_elim (λ h. h)
      (λ h. absurd (omega (arith, b.not_yet (omega (arith, a.inside)), a.has_begun (omega arith), grow (k + 1) j (omega arith) (omega (arith, a.inside))))))
      (lt_cases j k)

  -- the offset in a month whose last entry that has begun is entry k
  pub offset_is : (m k : ℕ) → Last m (top t.count) k → offset_at t m ≡ entry_offset t k
  unfolding offset_in
  offset_is m k a =
      let l : top t.count < t.count = omega (arith, top_is) in
      ap (entry_offset t) (one_last m (top t.count) (last_begun t.months m (top t.count)) k l (begun_last m (top t.count) (last_begun t.months m (top t.count)) l refl) a)

  -- ---- the month before an entry, and the entry's

  pub at_entry : (m k : ℕ) → EntryAfter t k (m + 1) → (offset_at t m ≡ entry_offset t k) × (offset_at t (m + 1) ≡ entry_offset t (k + 1))
  at_entry m k w =
      let r = (acc.later k w.0).rises in (
        offset_is m k (record { inside = omega (arith, top_is); has_begun = λ h. omega arith; not_yet = λ h. omega arith }),
        offset_is (m + 1) (k + 1) (record { inside = omega (arith, top_is); has_begun = λ h. omega arith; not_yet = λ h. omega (arith, (acc.later (k + 1) (omega (arith, top_is))).rises) }),
      )

  -- the months of entries after the first are February 1972 to December 9999
  pub entry_within : (m k : ℕ) → EntryAfter t k m → (epoch < m) × (m ≤ epoch + last_entry_month)
  entry_within m k w = let a = acc.later k w.0 in omega (arith, a.rises, a.early)

  -- a month has an entry, or the offset of the month before
  pub entry_or_rest : (m : ℕ) → ((k : ℕ) × EntryAfter t k (m + 1)) ⊎ (offset_at t (m + 1) ≡ offset_at t m)
  entry_or_rest m = go (begun m) (begun (m + 1)) (last_at m) (last_at (m + 1))
    where
      begun : ℕ → ℕ
      begun n = last_begun t.months n (top t.count)

      last_at : (n : ℕ) → Last n (top t.count) (begun n)
      last_at n = begun_last n (top t.count) (begun n) (omega (arith, top_is)) refl

      go : (j k : ℕ) → Last m (top t.count) j → Last (m + 1) (top t.count) k → ((i : ℕ) × EntryAfter t i (m + 1)) ⊎ (offset_at t (m + 1) ≡ offset_at t m)
      go j k a b =
          ⊎_elim
          (λ h. inl (j, (omega (arith, b.inside, top_is), omega (arith, a.not_yet (omega (arith, b.inside)), b.has_begun (omega arith), grow (j + 1) k (omega arith) (omega (arith, b.inside, top_is))))))
          (⊎_elim (λ e. inr (offset_is (m + 1) k b ∙ ap (entry_offset t) (sym e) ∙ sym (offset_is m j a)))
          (λ h. absurd (omega (arith, b.not_yet (omega (arith, a.inside)), a.has_begun (omega arith), grow (k + 1) j (omega arith) (omega (arith, a.inside, top_is))))))
          (lt_cases j k)

  pub moves : MovesWithEntries t
  moves =
      record {
        goes_up = λ m. (
          λ e. ⊎_elim (λ w. let o = at_entry m w.0 w.1 in (w.0, (w.1, (cc)))) (λ s. absurd (not_its_next (offset_at t m) (sym s ∙ e))) (entry_or_rest m),
          λ w. let o = at_entry m w.0 w.1.0 in let s = w.1.1 in cc,
        );
        goes_down = λ m. (
          λ e. ⊎_elim (λ w. let o = at_entry m w.0 w.1 in (w.0, (w.1, (cc)))) (λ s. absurd (not_its_next (offset_at t (m + 1)) (s ∙ e))) (entry_or_rest m),
          λ w. let o = at_entry m w.0 w.1.0 in let s = w.1.1 in cc,
        );
        else_rests = λ m no_up no_down. ⊎_elim (λ w. ⊎_elim (λ s. absurd (no_up (w.0, (w.1, s)))) (λ s. absurd (no_down (w.0, (w.1, s)))) (acc.later w.0 w.1.0).step) (λ s. s) (entry_or_rest m);
      }

pub all_move : AllMove
all_move t ok = moves t (accepted_to t ok)
