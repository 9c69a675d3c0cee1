-- The night desk's rows are right.
-- Assumes nothing.
use mathlib.Core.Path.{◌≡◌, refl, ap, ◌∙◌}
use mathlib.Core.Bool.{true, false}
use mathlib.Core.List.{List}
use Prim.Native.Nat.{ℕ}
use native.Mathlib.Omega.{arith}
use borrow.Author.Tests.{le-leb}
use lib.IntN.{pos, neg_ℤ}
use lib.ListN.{length}
use Rattle.std.specs.Prelude.{Option, Some, None, Result, Ok, Err, ℤ}
use Rattle.pictures.specs.declared.Fields.{Fields}
use Rattle.laws.specs.Tests.{eq_z, all_below, All}
use Rattle.answer.specs.declared.Refusal.TheVariants.{Shape as SHAPE}
use Rattle.answer.specs.Refusals.{refusing}
use Rattle.months.specs.Months.{leap_year, month_length, days_before}
use Rattle.digits.specs.Bytes.{ascii}
use Rattle.digits.specs.Decimals.{digit_value, spelled}
use Rattle.digits.specs.Months.{among_months, month_named}
use Rattle.leap.specs.declared.Table.{Table}
use Rattle.leap.specs.Leap.{bulletin_c, one_apart, place_right, vouched_right, accepted, last_begun, offset_in}
use Rattle.leap.proofs.BulletinC.{bulletin_accepted}
use Rattle.labels.specs.declared.Reading.{Reading}
use Rattle.labels.specs.Labels.{at, label_tests, last_minute, minute_in, real_year, real_month, real_day, real_clock, has_second}
use Rattle.labels.specs.Seconds.{axis_at, in_years}
use Rattle.labels.proofs.Years.{first_micro}
use Rattle.answer.specs.declared.Refusal.{Refusal}
use Rattle.stamp.specs.declared.Scale.{Scale}
use Rattle.stamp.specs.declared.Stamp.{Stamp}
use Rattle.stamp.specs.Scales.{scale_of, scale_tests, offsets_of, most_second, to_instant, to_axis}
use Rattle.stamp.specs.Back.{in_range, stamp_at}
use Rattle.stamp.specs.Promise.{Reads, stamp}
use Rattle.stamp.proofs.Promise.{in_range_reads, reads_stamp}
use Rattle.stamp.proofs.Cycles.{quick_instant, quick_instant_lem}
use Rattle.block.specs.Desk.{block_b, block_t, block_n, table_t, table_n}
use Rattle.block.specs.Reading.{read_groups, read_entries, in_block}
use Rattle.block.proofs.Desk.{named_right, edged}
use Rattle.pictures.specs.Pictures.{picture_text}
use Rattle.pictures.specs.Reading.{like, read_numbered, read_of_year, read_named, read_fields}
use Rattle.text.specs.Text.{reading_of, fields_read, text_of, text_at, read_text, text_results}
use Rattle.text.proofs.Exactly.{reads_as}
use Rattle.text.proofs.Desk.{without_shape}
use Rattle.julian.specs.Dates.{write_julian, julian_results}
use Rattle.fraction.proofs.Desk.{desk as doubles}
use Rattle.julian.proofs.Desk.{julian_row, desk as pairs}
use Rattle.promises.specs.Worked.{reads, writes, writes_not, rows, further_rows, table_in, Right, Worked}

-- ---- the tables of the desk's blocks

is_b : table_in block_b ≡ bulletin_c
is_b = ap (λ r. r.2) named_right.1.0.1

is_t : table_in block_t ≡ table_t
is_t = ap (λ r. r.2) named_right.1.1.0.1

is_n : table_in block_n ≡ table_n
is_n = ap (λ r. r.2) named_right.1.1.1.0.1

-- ---- rows that are read

-- with the short way to an instant
abbrev quickly : Table → Scale → Option Fields → (Result (ℤ × Stamp) Refusal)
quickly t s (Some f) = let r = reading_of f in refusing Err (label_tests (offsets_of t s) (most_second s) r) (Ok (quick_instant t s r, stamp s r))
quickly t s None = Err SHAPE

quick_fields : (t : Table) (s : Scale) (a : Option Fields) → fields_read t s a ≡ quickly t s a
quick_fields t s (Some f) = rw (quick_instant_lem t s (reading_of f)) refl
quick_fields t s None = refl

quick : {b t : Table} → b ≡ t → (k : ℕ) (text : List ℕ) → text_results (read_text b k text) ≡ text_results (refusing Err (scale_tests t k) (quickly t (scale_of k) (read_fields text)))
unfolding read_text
quick {b} {t} e k text =
    ap (λ (u : Table). text_results (read_text u k text)) e
    ∙ ap (λ (a : Result (ℤ × Stamp) Refusal). text_results (refusing Err (scale_tests t k) a)) (quick_fields t (scale_of k) (read_fields text))

-- the last second of 2016, by its day of the year
end_of_2016 : Right (reads block_b 0 "2016-366T23:59:60" (pos 536500836000000) (at 2016 12 31 23 59 60 0))
unfolding leap_year month_length days_before last_begun offset_in last_minute minute_in real_year real_month real_day real_clock has_second to_instant axis_at picture_text
end_of_2016 =
    ap (λ (t : Table). text_results (read_text t 0 (ascii "2016-366T23:59:60"))) is_b
    ∙ ap text_results (reads_as bulletin_c 0 (ascii "2016-366T23:59:60") (pos 536500836000000) (at 2016 12 31 23 59 60 0)
    (record {
      picture = 1;
      digits = 0;
      known = record { a_scale = omega arith; a_picture = omega arith; a_number = omega arith; a_table = bulletin_accepted };
      enough = refl;
      text_is = refl;
      reads = record { is_admitted = refl; instant_is = quick_instant_lem bulletin_c (scale_of 0) (at 2016 12 31 23 59 60 0) };
    }))

-- ---- rows that are written

-- the last microsecond before 2000-01-01 12:00:00 is in range, and has this stamp
abbrev noon_reading : Reading
noon_reading = at 2000 1 1 11 59 59 999999

noon : (in_range bulletin_c (scale_of 1) (neg_ℤ (pos 1)) ≡ true) × (stamp_at bulletin_c (scale_of 1) (neg_ℤ (pos 1)) ≡ stamp (scale_of 1) noon_reading)
unfolding leap_year month_length days_before last_minute minute_in real_year real_month real_day real_clock has_second to_instant axis_at
noon =
    let r : Reads bulletin_c (scale_of 1) noon_reading (neg_ℤ (pos 1)) = record { is_admitted = refl; instant_is = quick_instant_lem bulletin_c (scale_of 1) noon_reading } in
    ((in_range_reads bulletin_c bulletin_accepted (scale_of 1) (neg_ℤ (pos 1))).1 (noon_reading, r), reads_stamp bulletin_c bulletin_accepted (scale_of 1) noon_reading (neg_ℤ (pos 1)) r)

text_before_noon : text_at bulletin_c (neg_ℤ (pos 1)) 0 1 0 ≡ ascii "2000-01-01T11:59:59"
unfolding picture_text
text_before_noon = ap (λ (z : Stamp). text_of 0 0 z.reading) noon.1

written_noon : Right (writes block_b 1 (neg_ℤ (pos 1)) "2000-01-01T11:59:59")
written_noon buffer l = rw (is_b, bulletin_accepted, noon.0, text_before_noon, le-leb 19 (length buffer) l) (refl, refl)

-- no label on TAI is as early as the first on TDT
too_early : in_range bulletin_c (scale_of 1) (neg_ℤ (pos 883656032184000)) ≡ false
unfolding in_years to_axis axis_at
too_early = rw first_micro refl

refused_early : Right (writes_not block_b 1 (neg_ℤ (pos 883656032184000)) 7)
refused_early buffer = rw (is_b, bulletin_accepted, too_early) (refl, refl)

-- ---- all of them

proved_set : All Right rows
unfolding eq_z all_below leap_year month_length days_before one_apart place_right vouched_right accepted last_begun offset_in last_minute minute_in real_year real_month real_day real_clock has_second to_instant axis_at like read_numbered read_of_year read_named digit_value spelled month_named among_months read_groups read_entries in_block
proved_set = (quick is_b _ _, (quick is_t _ _, (quick is_t _ _, (quick is_n _ _, (quick is_n _ _, (quick is_n _ _, (end_of_2016, (quick is_b _ _, (quick is_b _ _, (quick is_b _ _, (refl, (refl, (refl, (refl, (refl, tt)))))))))))))))

further_rows_lem : All Right further_rows
unfolding eq_z all_below leap_year month_length days_before one_apart place_right vouched_right accepted last_begun offset_in last_minute minute_in real_year real_month real_day real_clock has_second to_instant axis_at like read_numbered read_of_year read_named digit_value spelled
further_rows_lem = (quick is_b _ _, (written_noon, (quick is_b _ _, (refused_early, (ap (λ (t : Table). julian_results (write_julian t (pos 0) 1)) is_b ∙ julian_row, tt)))))

pub worked : Worked
worked = record { named_blocks = named_right; proved_set = proved_set; further_rows_lem = further_rows_lem; block_edges = edged; no_picture = without_shape; pairs = pairs; doubles = doubles }
