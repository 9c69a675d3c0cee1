-- What is written reads back: as the last instant not after it that the digits can show.
-- Assumes nothing.
use mathlib.Core.Path.{◌≡◌, refl, sym, ap, subst, ◌∙◌}
use mathlib.Core.Bool.{true}
use mathlib.Core.List.{List, ◌++◌}
use Prim.Native.Nat.{ℕ, zero, suc, ◌+◌, ◌-◌, ◌%◌, ◌^◌, ◌≤◌}
use native.Mathlib.Nat.{div-add-mod'}
use native.Mathlib.Omega.{arith}
use borrow.Author.Tests.{le-leb}
use lib.IntN.{ℤ}
use lib.Signed.{◌≤ℤ◌}
use Rattle.laws.proofs.Cases.{and_l, and_r, join}
use Rattle.laws.proofs.Difference.{up, down, integers, le_from}
use Rattle.leap.specs.declared.Table.{Table}
use Rattle.leap.proofs.Facts.{accepted_to}
use Rattle.stamp.specs.declared.Scale.{Scale}
use Rattle.labels.specs.declared.Reading.{Reading}
use Rattle.stamp.specs.declared.Stamp.{Stamp}
use Rattle.labels.specs.Labels.{Offsets, month_of, real_year, real_month, real_day, real_clock, has_second, admitted}
use Rattle.labels.specs.Seconds.{micro_of}
use Rattle.stamp.specs.Scales.{scale_of, offsets_of, most_second, instant_for}
use Rattle.stamp.specs.Back.{axis_count}
use Rattle.stamp.specs.Promise.{Reads, stamp}
use Rattle.labels.proofs.Facts.{clock_to}
use Rattle.stamp.proofs.Scales.{instant_is}
use Rattle.stamp.proofs.Ranges.{range_count}
use Rattle.pictures.specs.Pictures.{date_text, clock_text, picture_text}
use Rattle.text.specs.Text.{date_as, text_of, read_text, text_results}
use Rattle.stamp.proofs.Promise.{in_range_reads, reads_stamp}
use Rattle.text.specs.Promise.{AcceptedAs, Names, WritesText, Showable, Latest, ReadsBack}
use Rattle.pictures.proofs.Fraction.{fraction_cut}
use Rattle.text.proofs.Exactly.{read_exactly}
use Rattle.text.proofs.Writing.{Written, written_is, is_written}

-- ---- a reading cut to its first digits

cut_to : ℕ → Reading → Reading
cut_to d r = record { label = r.label; micro = r.micro - r.micro % 10 ^ (6 - d) }

text_cut : (p d : ℕ) (r : Reading) → d ≤ 6 → text_of p d r ≡ text_of p d (cut_to d r)
unfolding picture_text cut_to
text_cut p d r h =
    ap (λ (l : List ℕ). date_text r.label.year (date_as p r.label) ++ (clock_text r.label.hour r.label.minute r.label.second ++ l)) (fraction_cut d r.micro h)

-- a fraction of a second, by the digits that are not shown
by_digits : (P : ℕ → Type 0) → P 1000000 → P 100000 → P 10000 → P 1000 → P 100 → P 10 → P 1 → (d : ℕ) → d ≤ 6 → P (10 ^ (6 - d))
by_digits P a b c e f g h zero l = a
by_digits P a b c e f g h (suc zero) l = b
by_digits P a b c e f g h (suc (suc zero)) l = c
by_digits P a b c e f g h (suc (suc (suc zero))) l = e
by_digits P a b c e f g h (suc (suc (suc (suc zero)))) l = f
by_digits P a b c e f g h (suc (suc (suc (suc (suc zero))))) l = g
by_digits P a b c e f g h (suc (suc (suc (suc (suc (suc zero)))))) l = h
by_digits P a b c e f g h (suc (suc (suc (suc (suc (suc (suc d))))))) l = absurd (omega arith)

cut_shown : (d u : ℕ) → d ≤ 6 → (u - u % 10 ^ (6 - d)) % 10 ^ (6 - d) ≡ 0
cut_shown d u h = by_digits (λ (q : ℕ). (u - u % q) % q ≡ 0) (omega arith) (omega arith) (omega arith) (omega arith) (omega arith) (omega arith) (omega arith) d h

-- of the counts not past b that so many digits can show, b less what is cut is the last
last_count : (d a b : ℕ) → d ≤ 6 → a % 1000000 % 10 ^ (6 - d) ≡ 0 → a ≤ b → a + b % 1000000 % 10 ^ (6 - d) ≤ b
last_count d a b h e l =
    by_digits (λ (q : ℕ). a % 1000000 % q ≡ 0 → a + b % 1000000 % q ≤ b) (λ e. omega arith) (λ e. omega arith) (λ e. omega arith) (λ e. omega arith) (λ e. omega arith) (λ e. omega arith) (λ e. omega arith) d h e

cut_admitted : (o : Offsets) (most d : ℕ) (r : Reading) → admitted o most r ≡ true → admitted o most (cut_to d r) ≡ true
unfolding cut_to real_clock
cut_admitted o most d r e =
    let c = clock_to most r (search (and_l, and_r)) in
    let y : real_year r.label ≡ true = search (and_l) in
    let m : real_month r.label ≡ true = search (and_l, and_r) in
    let g : real_day r.label ≡ true = search (and_l, and_r) in
    let h : has_second o r.label ≡ true = search (and_l, and_r) in
    join y (join m (join g (join (join (le-leb _ _ c.hour_high) (join (le-leb _ _ c.minute_high) (join (le-leb _ _ c.second_most) (le-leb (r.micro - r.micro % 10 ^ (6 - d)) 999999 (omega (arith, c.micro_high)))))) (join h refl))))

mod_le : (u q : ℕ) → u % q ≤ u
mod_le u q = omega (arith, div-add-mod' u q)

-- ---- an instant that is written

module _ (t : Table) (x : ℤ) (p k d : ℕ) (text : List ℕ) (v : Written t x p k d text) where
  r : Reading
  r = v.reading

  sc : Scale
  sc = scale_of k

  reads : Reads t sc r x
  unfolding r sc
  reads = v.reads

  r' : Reading
  r' = cut_to d r

  y : ℤ
  y = instant_for t sc r'

  cut_reads : Reads t sc r' y
  unfolding y r'
  cut_reads = record { is_admitted = cut_admitted (offsets_of t sc) (most_second sc) d r reads.is_admitted; instant_is = refl }

  names : Names t k (text_of p d r) y r'
  unfolding r' sc cut_to
  names = record { picture = p; digits = d; known = v.known; reads = cut_reads; enough = cut_shown d r.micro v.known.a_number; text_is = text_cut p d r v.known.a_number }

  answer : AcceptedAs t k text y (stamp (scale_of k) r')
  unfolding r
  answer = ap (λ (l : List ℕ). text_results (read_text t k l)) v.text_is ∙ ((read_exactly t k (text_of p d r)).success y (stamp (scale_of k) r')).1 (refl, names)

  -- what is cut lies between the two
  apart : up y + (down x + r.micro % 10 ^ (6 - d)) ≡ up x + down y
  unfolding y r' cut_to
  apart =
      let o = offsets_of t sc (month_of r.label) in
      let i = reads.instant_is in
      omega (arith, ap up i, ap down i, instant_is sc (micro_of r) o, instant_is sc (micro_of r') o, mod_le r.micro (10 ^ (6 - d)))

  last : (w : ℤ) → Showable t sc d w → w ≤ℤ x → w ≤ℤ y
  unfolding sc
  last w s h =
      let good = v.known.a_table in
      let acc = accepted_to t good in
      let m : axis_count sc w % 1000000 ≡ s.reading.micro = ap (λ (z : Stamp). z.reading.micro) (reads_stamp t good sc s.reading w s.reads) in
      let m' : axis_count sc x % 1000000 ≡ r.micro = ap (λ (z : Stamp). z.reading.micro) (reads_stamp t good sc r x reads) in
      let a = range_count t acc sc w ((in_range_reads t good sc w).1 (s.reading, s.reads)) in
      let c = range_count t acc sc x ((in_range_reads t good sc x).1 (r, reads)) in
      let l = subst (λ (u : ℕ). axis_count sc w + u % 10 ^ (6 - d) ≤ axis_count sc x) m' (last_count d (axis_count sc w) (axis_count sc x) v.known.a_number (rw m s.enough) (omega (arith, integers))) in
      le_from w y (omega (arith, apart))

  latest : Latest t sc d x y
  unfolding r' cut_to
  latest =
      record { showable = record { reading = r'; reads = cut_reads; enough = cut_shown d r.micro v.known.a_number }; not_after = le_from y x (omega (arith, apart)); last = last }

-- with six digits nothing is cut
whole : (r : Reading) → cut_to 6 r ≡ r
unfolding cut_to
whole r = let e : r.micro - r.micro % 1 ≡ r.micro = omega arith in ap (λ (u : ℕ). record { label = r.label; micro = u }) e

-- a text that is read is that of its reading, and so is written
given : (t : Table) (k : ℕ) (x : ℤ) (text : List ℕ) (z : Stamp) → AcceptedAs t k text x z → (p : ℕ) × (d : ℕ) × WritesText t x p k d text
given t k x text z e =
    let n = (((read_exactly t k text).success x z).0 e).1 in
    (n.picture, n.digits, subst (WritesText t x n.picture k n.digits) (sym n.text_is) (is_written t x n.picture k n.digits z.reading n.known n.reads))

pub back : (t : Table) (k : ℕ) → ReadsBack t k
unfolding r' y sc
back t k =
    record {
      six = λ x p text e.
          let v = written_is t x p k 6 text e in
          let q = r t x p k 6 text v in
          let i = ap (instant_for t (scale_of k)) (whole q) ∙ (reads t x p k 6 text v).instant_is in
          (stamp (scale_of k) (cut_to 6 q), answer t x p k 6 text v ∙ ap (λ (w : ℤ). (0, w, stamp (scale_of k) (cut_to 6 q))) i);
      cut = λ x p d text e. let v = written_is t x p k d text e in (y t x p k d text v, stamp (scale_of k) (r' t x p k d text v), answer t x p k d text v, latest t x p k d text v);
      given = given t k;
    }
