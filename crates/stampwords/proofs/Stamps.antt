-- A stamp that is read: its instant lies near 2000 and its month before the end of 9999; what tests on bytes and on signs say.
-- Assumes nothing.
use mathlib.Core.Path.{◌≡◌, refl, ap}
use mathlib.Core.Bool.{true, false}
use mathlib.Core.List.{List}
use Prim.Native.Nat.{ℕ, ◌+◌, ◌≤◌}
use native.Mathlib.Omega.{arith}
use borrow.Author.Tests.{ltb-true}
use lib.IntN.{ℤ, pos, negsuc, ◌+ℤ◌, ◌-ℤ◌}
use lib.ListN.{length, take, drop}
use lib.Signed.{lt_z}
use mir.Syntax.{w32, w64}
use mir.Val.{SFits}
use Rattle.laws.proofs.Difference.{sum_is, diff_is, integers}
use Rattle.laws.proofs.Machine.{one_side, fits_to, fits_from}
use Rattle.leap.specs.declared.Table.{Table}
use Rattle.leap.specs.Leap.{accepted}
use Rattle.leap.proofs.Facts.{accepted_to}
use Rattle.labels.specs.Labels.{month_of}
use Rattle.labels.proofs.Admitted.{admitted_to}
use Rattle.std.specs.Prelude.{Ok}
use Rattle.stamp.specs.declared.Stamp.{Stamp}
use Rattle.stamp.specs.Scales.{scale_of, offsets_of, most_second}
use Rattle.stamp.specs.Promise.{Reads}
use Rattle.stamp.proofs.Promise.{in_range_reads}
use Rattle.stamp.proofs.Ranges.{range_low, range_high}
use Rattle.text.specs.Text.{read_text, text_results}
use Rattle.text.specs.Promise.{Names}
use Rattle.text.proofs.Promise.{promised}
use Rattle.digits.specs.Bytes.{ascii}
use Rattle.lines.specs.Words.{before}
use Rattle.lines.proofs.Words.{before_front}
use Rattle.stampwords.specs.Stamps.{clock_of, stamp_read, Near}
use Rattle.stampwords.specs.Spans.{step_word}

-- ---- tests

-- what a slice up to the first b holds
pub front_is : (b : ℕ) (s : List ℕ) {e : ℕ} → e ≡ 0 + length (before b s) → take e s ≡ before b s
front_is b s {e} h = let n : e ≡ length (before b s) = omega arith in rw n (before_front b s)

pub word_low : (z : ℤ) → lt_z z (pos 0) ≡ true → ascii "taken out" ≡ step_word z
word_low (pos n) e = absurd (omega (arith, ltb-true n 0 e))
word_low (negsuc n) e = refl

pub word_high : (z : ℤ) → lt_z z (pos 0) ≡ false → ascii "added" ≡ step_word z
word_high (pos n) e = refl
word_high (negsuc n) e = let z : true ≡ false = e in cc

-- ---- sums and differences near 2000

pub diff_fits : (x y : ℤ) → Near x → Near y → SFits w64 (y -ℤ x)
diff_fits x y a b =
    let s = diff_is y x in
    let d = one_side (y -ℤ x) in
    fits_from (y -ℤ x) (omega (arith, integers, a.0, a.1, b.0, b.1, one_side x, one_side y)) (omega (arith, integers, a.0, a.1, b.0, b.1, one_side x, one_side y))

pub apart_fits : {x y : ℤ} → SFits w32 x → SFits w32 y → SFits w64 (y -ℤ x)
apart_fits {x} {y} f g =
    let a = fits_to f in
    let b = fits_to g in
    let s = diff_is y x in
    let d = one_side (y -ℤ x) in
    fits_from (y -ℤ x) (omega (arith, one_side x, one_side y)) (omega (arith, one_side x, one_side y))

module _ (x : ℤ) (near : Near x) (n : ℕ) (h : n ≤ 999999999999999999) where
  pub on_fits : SFits w64 (x +ℤ pos n)
  on_fits =
      let s = sum_is x (pos n) in
      let d = one_side (x +ℤ pos n) in
      fits_from (x +ℤ pos n) (omega (arith, integers, near.0, near.1, one_side x)) (omega (arith, integers, near.0, near.1, one_side x))

  pub back_fits : SFits w64 (x -ℤ pos n)
  back_fits =
      let s = diff_is x (pos n) in
      let d = one_side (x -ℤ pos n) in
      fits_from (x -ℤ pos n) (omega (arith, integers, near.0, near.1, one_side x)) (omega (arith, integers, near.0, near.1, one_side x))

-- ---- a stamp that is read

module _ (t : Table) (k : ℕ) (s : List ℕ) (x : ℤ) (z : Stamp) (e : read_text t k s ≡ Ok (x, z)) where
  named : (z.scale ≡ scale_of k) × Names t k s x z.reading
  named = (((promised t k).read s).success x z).0 (ap text_results e)

  pub read_stands : Reads t (scale_of k) z.reading x
  read_stands = named.1.reads

  pub read_accepted : accepted t ≡ true
  read_accepted = named.1.known.a_table

  pub read_near : Near x
  read_near =
      let acc = accepted_to t read_accepted in
      let e = (in_range_reads t read_accepted (scale_of k) x).1 (z.reading, read_stands) in
      (range_low t acc (scale_of k) x e, range_high t acc (scale_of k) x e)

  pub read_month : month_of z.reading.label ≤ 119999
  read_month =
      let a = admitted_to (offsets_of t (scale_of k)) (most_second (scale_of k)) z.reading read_stands.is_admitted in
      omega (arith, a.until_9999, a.exists.month_high)

module _ (t : Table) (given : List ℕ) {x : ℤ} {z : Stamp} (e : (stamp_read t given).answer ≡ Ok (x, z)) where
  pub stamp_near : Near x
  unfolding stamp_read
  stamp_near = read_near t (clock_of given) (drop (length (before 32 given) + 1) given) x z e

  pub stamp_month : month_of z.reading.label ≤ 119999
  unfolding stamp_read
  stamp_month = read_month t (clock_of given) (drop (length (before 32 given) + 1) given) x z e
