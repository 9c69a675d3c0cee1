-- Texts sort as instants, but for names of months and for texts of unlike kinds.
-- Assumes nothing.
use mathlib.Core.Path.{refl}
use mathlib.Core.Logic.{inl}
use mathlib.Core.List.{[]}
use Prim.Native.Nat.{ℕ, ◌≤◌}
use native.Mathlib.Omega.{arith}
use lib.IntN.{ℤ, pos, neg_ℤ}
use Rattle.laws.specs.Order.{Less}
use Rattle.laws.proofs.Difference.{lt_from}
use Rattle.laws.proofs.Order.{less_behind}
use Rattle.months.specs.Months.{leap_year, month_length, days_before}
use Rattle.digits.specs.Bytes.{ascii}
use Rattle.leap.specs.Leap.{bulletin_c, last_begun, offset_in}
use Rattle.leap.proofs.BulletinC.{bulletin_accepted}
use Rattle.labels.specs.declared.Reading.{Reading}
use Rattle.labels.specs.Labels.{at, last_minute, minute_in, real_year, real_month, real_day, real_clock, has_second}
use Rattle.labels.specs.Seconds.{axis_at}
use Rattle.stamp.specs.Scales.{scale_of, to_instant}
use Rattle.stamp.specs.Promise.{Reads}
use Rattle.stamp.proofs.Cycles.{quick_instant_lem}
use Rattle.pictures.specs.Pictures.{picture_text}
use Rattle.pictures.proofs.Sorted.{texts_sorted}
use Rattle.text.specs.Text.{text_of}
use Rattle.text.specs.Promise.{WritesText}
use Rattle.text.proofs.Writing.{is_written}
use Rattle.text.proofs.Sorted.{sorts_as_text}
use Rattle.promises.specs.Sorting.{RequestA5}

-- ---- moments of 1986, and that each of their texts is written

abbrev IsAt : ℕ → Reading → Type 0
IsAt n r = Reads bulletin_c (scale_of 0) r (neg_ℤ (pos n))

record Moments : Type 0 where
  march : IsAt 435698908000000 (at 1986 3 12 16 31 9 0)
  april : IsAt 433020508000000 (at 1986 4 12 16 31 9 0)
  half_past : IsAt 433020507500000 (at 1986 4 12 16 31 9 500000)
  nine_tenths_past : IsAt 433020507100000 (at 1986 4 12 16 31 9 900000)
  a_day_later : IsAt 432934108000000 (at 1986 4 13 16 31 9 0)

moments : Moments
unfolding leap_year month_length days_before last_begun offset_in last_minute minute_in real_year real_month real_day real_clock has_second to_instant axis_at
moments =
    record {
      march = record { is_admitted = refl; instant_is = quick_instant_lem bulletin_c (scale_of 0) (at 1986 3 12 16 31 9 0) };
      april = record { is_admitted = refl; instant_is = quick_instant_lem bulletin_c (scale_of 0) (at 1986 4 12 16 31 9 0) };
      half_past = record { is_admitted = refl; instant_is = quick_instant_lem bulletin_c (scale_of 0) (at 1986 4 12 16 31 9 500000) };
      nine_tenths_past = record { is_admitted = refl; instant_is = quick_instant_lem bulletin_c (scale_of 0) (at 1986 4 12 16 31 9 900000) };
      a_day_later = record { is_admitted = refl; instant_is = quick_instant_lem bulletin_c (scale_of 0) (at 1986 4 13 16 31 9 0) };
    }

written : {x : ℤ} {r : Reading} (p d : ℕ) → p ≤ 2 → d ≤ 6 → Reads bulletin_c (scale_of 0) r x → WritesText bulletin_c x p 0 d (text_of p d r)
written {x} {r} p d a b h = is_written bulletin_c x p 0 d r (record { a_scale = omega arith; a_picture = a; a_number = b; a_table = bulletin_accepted }) h

-- ---- all of it

pub request_a5 : RequestA5
unfolding Less picture_text month_length days_before leap_year
request_a5 =
    record {
      texts_sorted = texts_sorted;
      sorts_as_text = sorts_as_text;
      names_break_it = record {
        first_written = written 2 6 (omega arith) (omega arith) moments.march;
        second_written = written 2 6 (omega arith) (omega arith) moments.april;
        first_earlier = lt_from _ _ (omega arith);
        first_greater = less_behind (ascii "1986 ") (ascii "APR 12 16:31:09.000000") (ascii "MAR 12 16:31:09.000000") (inl (omega arith));
      };
      digits_break_it = record {
        first_written = written 0 6 (omega arith) (omega arith) moments.half_past;
        second_written = written 0 0 (omega arith) (omega arith) moments.nine_tenths_past;
        first_earlier = lt_from _ _ (omega arith);
        first_greater = less_behind (ascii "1986-04-12T16:31:09") [] (ascii ".500000") tt;
      };
      pictures_break_it = record {
        first_written = written 1 6 (omega arith) (omega arith) moments.april;
        second_written = written 0 6 (omega arith) (omega arith) moments.a_day_later;
        first_earlier = lt_from _ _ (omega arith);
        first_greater = less_behind (ascii "1986-") (ascii "04-13T16:31:09.000000") (ascii "102T16:31:09.000000") (inl (omega arith));
      };
    }
