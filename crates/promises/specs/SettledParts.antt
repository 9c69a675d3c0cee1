-- What the crates ask of each other is settled too: every other public function, by its own contract.
-- Assumes nothing.
use mathlib.Core.List.{Mem}
use base.Fml.{Lft}
use denote.Param.Laws.{Laws, IsCopy}
use denote.RattleType.{RattleType}
use mir.Syntax.{Dict}
use Rattle.std.specs.Prelude.{List, [], ◌∷◌, Bool, false, cond, ◌&&◌, ℕ, ◌+◌, ◌-◌, ◌^◌, min, ℤ, nat_abs, eqb, Float, length, drop, get_or, Result, Err}
use Rattle.std.specs.declared.clone.Clone.{Ghosts as CloneGhosts}
use Rattle.std.specs.Float.{binary64}
use Rattle.std.specs.Float.Ieee.{of_bits, to_bits}
use Rattle.answer.specs.declared.Refusal.{Refusal}
use Rattle.answer.specs.Refusals.{number}
use Rattle.answer.specs.Faults.{unplaced}
use Rattle.answer.specs.Marks.{marked, marks}
use Rattle.answer.specs.Buffers.{written, buffer_after}
use Rattle.columns.specs.Columns.{all_blank, passed_over}
use Rattle.columns.specs.Decimals.{decimal_in, whole_of}
use Rattle.digits.specs.Bytes.{end_of, appended}
use Rattle.digits.specs.Decimals.{is_digit, digit_value, digits_of, signed, decimal_of, decimal_text, signed_text}
use Rattle.digits.specs.Months.{month_name, month_named}
use Rattle.months.specs.Months.{days_before, month_length}
use Rattle.calendar.specs.Days.{day_of_year}
use Rattle.calendar.specs.Dates.{span_of_day, date_in_year}
use Rattle.leap.specs.declared.Table.{Table}
use Rattle.leap.specs.Leap.{tabled, vouched_to, vouched_right, accepted, offset_at, near_at, beyond}
use Rattle.leap.specs.Readers.{no_table, found, refused_at, judged as judged_table}
use Rattle.block.specs.Reading.{read_either}
use Rattle.labels.specs.declared.Label.{Label}
use Rattle.labels.specs.declared.Reading.{Reading}
use Rattle.labels.specs.declared.Place.{Place}
use Rattle.labels.specs.Labels.{month_of, judged, in_last_minute, minute_in}
use Rattle.labels.specs.Lengths.{seconds_in}
use Rattle.labels.specs.Back.{day_of, label_of}
use Rattle.stamp.specs.declared.Scale.{Scale}
use Rattle.stamp.specs.declared.DayStart.{DayStart}
use Rattle.stamp.specs.Scales.{scale_of, scale_number, scale_known, asked, offsets_of}
use Rattle.stamp.specs.Days.{day_on}
use Rattle.stamp.specs.Stamps.{instant_in}
use Rattle.stamp.specs.Marks.{beyond_on, stamp_of_marked, shown_of_marked, instant_on_marked}
use Rattle.fraction.specs.Fraction.{fraction_of, is_fraction, is_half, nearest_at}
use Rattle.kinds.specs.Kinds.{is_white, is_gap, is_between, is_run, is_name, upper, begin_data, begin_text, ours}
use Rattle.kinds.specs.Parts.{matched, grown, years_begin, grown_year, month_on, month_number}
use Rattle.automaton.specs.declared.Mode.{Mode}
use Rattle.automaton.specs.Step.{step}
use Rattle.pictures.specs.declared.Fields.{Fields}
use Rattle.pictures.specs.Pictures.{picture_text}
use Rattle.pictures.specs.Reading.{read_fields}
use Rattle.lines.specs.Words.{before, leading, is_blank, past, line_start}
use Rattle.lines.specs.Cuts.{piece_at, cut_at, held_in}
use Rattle.lines.specs.Pairs.{nibble, hex_of, hex_into, hex_shown}
use Rattle.fields.specs.declared.Cursor.{Cursor}
use Rattle.fields.specs.declared.Field.{Field}
use Rattle.fields.specs.Words.{word_at}
use Rattle.fields.specs.Fields.{natural_at, integer_at, hex_at, pattern_at}
use Rattle.laws.specs.Settles.{◌&◌, Lent, Shown, ◌becomes◌, Settles, Returns, Leaves}
use Rattle.answer.proofs.U32FromRefusal.from.Reads as answer_number_of
use Rattle.answer.proofs.FaultFromRefusal.from.Reads as answer_fault_from
use Rattle.answer.proofs.Marked.new.Reads as answer_marked_new
use Rattle.answer.proofs.Marked.refused.Reads as answer_marked_refused
use Rattle.answer.proofs.marks_of.Reads as answer_marks_of
use Rattle.answer.proofs.write.Reads as answer_write
use Rattle.digits.proofs.byte_at.Reads as digits_byte_at
use Rattle.digits.proofs.append.Reads as digits_append
use Rattle.digits.proofs.is_digit.Reads as digits_is_digit
use Rattle.digits.proofs.digit_value.Reads as digits_digit_value
use Rattle.digits.proofs.decimal.Reads as digits_decimal
use Rattle.digits.proofs.with_sign.Reads as digits_with_sign
use Rattle.digits.proofs.digits.Reads as digits_digits
use Rattle.digits.proofs.magnitude.Reads as digits_magnitude
use Rattle.digits.proofs.append_unsigned.Reads as digits_append_unsigned
use Rattle.digits.proofs.append_signed.Reads as digits_append_signed
use Rattle.digits.proofs.month_name.Reads as digits_month_name
use Rattle.digits.proofs.month_named.Reads as digits_month_named
use Rattle.months.proofs.days_before.Reads as months_days_before
use Rattle.calendar.proofs.month_length.Reads as calendar_month_length
use Rattle.calendar.proofs.month_of_day.Reads as calendar_month_of_day
use Rattle.calendar.proofs.day_of_year.Reads as calendar_day_of_year
use Rattle.calendar.proofs.date_in_year.Reads as calendar_date_in_year
use Rattle.leap.proofs.Table.new.Reads as leap_tabled
use Rattle.leap.proofs.Table.empty.Reads as leap_empty
use Rattle.leap.proofs.found.Reads as leap_found
use Rattle.leap.proofs.refused_at.Reads as leap_refused_at
use Rattle.leap.proofs.judge.Reads as leap_judge
use Rattle.leap.proofs.Table.is_accepted.Reads as leap_is_accepted
use Rattle.leap.proofs.vouched_right.Reads as leap_vouched_right
use Rattle.leap.proofs.beyond.Reads as leap_beyond
use Rattle.leap.proofs.Table.offset_at.Reads as leap_offset_at
use Rattle.leap.proofs.Table.near.Reads as leap_near
use Rattle.block.proofs.read_either.Reads as block_read_either
use Rattle.labels.proofs.month_of.Reads as labels_month_of
use Rattle.labels.proofs.judge.Reads as labels_judge
use Rattle.labels.proofs.in_last_minute.Reads as labels_in_last_minute
use Rattle.labels.proofs.minute_length.Reads as labels_minute_length
use Rattle.labels.proofs.day_seconds.Reads as labels_day_seconds
use Rattle.labels.proofs.day_of.Reads as labels_day_of
use Rattle.labels.proofs.label_of.Reads as labels_label_of
use Rattle.stamp.proofs.Scale.numbered.Reads as stamp_scale_numbered
use Rattle.stamp.proofs.U32FromScale.from.Reads as stamp_scale_number
use Rattle.stamp.proofs.refused_instant.Reads as stamp_refused_instant
use Rattle.stamp.proofs.Scale.beyond_on.Reads as stamp_beyond_on
use Rattle.stamp.proofs.ScaleTryFromU32.try_from.Reads as stamp_scale_known
use Rattle.stamp.proofs.asked.Reads as stamp_asked
use Rattle.stamp.proofs.Scale.instant_in.Reads as stamp_instant_in
use Rattle.stamp.proofs.stamp_of.Reads as stamp_stamp_of_in
use Rattle.stamp.proofs.shown_of.Reads as stamp_shown_of
use Rattle.stamp.proofs.Scale.day_on.Reads as stamp_day_on
use Rattle.stamp.proofs.Scale.instant_on.Reads as stamp_instant_on
use Rattle.fraction.proofs.fraction_of.Reads as fraction_fraction_of
use Rattle.fraction.proofs.is_fraction.Reads as fraction_is_fraction
use Rattle.fraction.proofs.is_half.Reads as fraction_is_half
use Rattle.fraction.proofs.nearest_of.Reads as fraction_nearest_of
use Rattle.pictures.proofs.write_fields.Reads as pictures_write_fields
use Rattle.pictures.proofs.read_fields.Reads as pictures_read_fields
use Rattle.kinds.proofs.is_white.Reads as kinds_is_white
use Rattle.kinds.proofs.is_gap.Reads as kinds_is_gap
use Rattle.kinds.proofs.is_between.Reads as kinds_is_between
use Rattle.kinds.proofs.is_run.Reads as kinds_is_run
use Rattle.kinds.proofs.is_name.Reads as kinds_is_name
use Rattle.kinds.proofs.pick.Reads as kinds_pick
use Rattle.kinds.proofs.ours_next.Reads as kinds_ours_next
use Rattle.kinds.proofs.data_next.Reads as kinds_data_next
use Rattle.kinds.proofs.text_next.Reads as kinds_text_next
use Rattle.kinds.proofs.grow.Reads as kinds_grow
use Rattle.kinds.proofs.grow_year.Reads as kinds_grow_year
use Rattle.kinds.proofs.years_begin.Reads as kinds_years_begin
use Rattle.kinds.proofs.capital.Reads as kinds_capital
use Rattle.kinds.proofs.month_on.Reads as kinds_month_on
use Rattle.kinds.proofs.month_number.Reads as kinds_month_number
use Rattle.automaton.proofs.step.Reads as automaton_step
use Rattle.columns.proofs.all_blank.Reads as columns_all_blank
use Rattle.columns.proofs.passed_over.Reads as columns_passed_over
use Rattle.columns.proofs.decimal_in.Reads as columns_decimal_in
use Rattle.columns.proofs.whole.Reads as columns_whole
use Rattle.lines.proofs.until.Reads as lines_until
use Rattle.lines.proofs.past_blanks.Reads as lines_past_blanks
use Rattle.lines.proofs.past.Reads as lines_past
use Rattle.lines.proofs.line_start.Reads as lines_line_start
use Rattle.lines.proofs.front.Reads as lines_front
use Rattle.lines.proofs.hold.Reads as lines_hold
use Rattle.lines.proofs.take_line.Reads as lines_take_line
use Rattle.lines.proofs.hex_digit.Reads as lines_hex_digit
use Rattle.lines.proofs.hex.Reads as lines_hex
use Rattle.lines.proofs.append_hex.Reads as lines_append_hex
use Rattle.fields.proofs.ended.Reads as fields_ended
use Rattle.fields.proofs.number_field.Reads as fields_number_field
use Rattle.fields.proofs.u32_field.Reads as fields_u32_field
use Rattle.fields.proofs.i64_field.Reads as fields_i64_field
use Rattle.fields.proofs.i32_field.Reads as fields_i32_field
use Rattle.fields.proofs.hex_field.Reads as fields_hex_field
use Rattle.fields.proofs.pattern_field.Reads as fields_pattern_field
use Rattle.fields.proofs.double.Reads as fields_double
use Rattle.fields.proofs.pattern.Reads as fields_pattern

-- refusals and buffers; months, dates, labels and scales; parts of a whole
pub record SettledParts : Type 0 where
  pub refusal_number : (why : Refusal) → Returns answer_number_of.Pre answer_number_of.Post (why & tt) (number why)
  pub fault : (why : Refusal) → Returns answer_fault_from.Pre answer_fault_from.Post (why & tt) (unplaced why)
  pub marks_of : (beyond : Bool) → Returns answer_marks_of.Pre answer_marks_of.Post (beyond & tt) (marks beyond)
  pub write : (bytes : Shown (List ℕ)) (out : Lent (List ℕ)) →
      Leaves answer_write.Pre answer_write.Post (bytes & out & tt) (λ after. bytes & out becomes after & tt)
      (written [] bytes.now out.now, buffer_after [] bytes.now out.now)
  pub tabled : (count : ℕ) (months : List ℕ) (offsets : List ℤ) (vouched : ℕ) →
      Returns leap_tabled.Pre leap_tabled.Post (count & months & offsets & vouched & tt) (vouched_to vouched (tabled count months offsets))
  pub no_table_lem : Returns leap_empty.Pre leap_empty.Post tt no_table
  pub refused_at_lem : (why : Refusal) (at : ℕ) → Returns leap_refused_at.Pre leap_refused_at.Post (why & at & tt) (refused_at why at)
  pub days_before_lem : (m : ℕ) → Returns months_days_before.Pre months_days_before.Post (m & tt) (days_before m)
  pub month_length_lem : (m : ℕ) → Returns calendar_month_length.Pre calendar_month_length.Post (m & tt) (month_length m)
  pub month_of_day_lem : (day : ℕ) → Returns calendar_month_of_day.Pre calendar_month_of_day.Post (day & tt) (span_of_day day)
  pub day_of_year_lem : (m day : ℕ) → Returns calendar_day_of_year.Pre calendar_day_of_year.Post (m & day & tt) (day_of_year m day)
  pub date_in_year_lem : (year day : ℕ) → Returns calendar_date_in_year.Pre calendar_date_in_year.Post (year & day & tt) (date_in_year year day)
  pub vouched_right_lem : (last v : ℕ) → Returns leap_vouched_right.Pre leap_vouched_right.Post (last & v & tt) (vouched_right last v)
  pub beyond : (v m : ℕ) → Returns leap_beyond.Pre leap_beyond.Post (v & m & tt) (beyond v m)
  pub month_of_lem : (l : Label) → Returns labels_month_of.Pre labels_month_of.Post (l & tt) (month_of l)
  pub read_either_lem : (s : Shown (List ℕ)) → Returns block_read_either.Pre block_read_either.Post (s & tt) (read_either s.now)
  pub judge : (most : ℕ) (r : Reading) → Returns labels_judge.Pre labels_judge.Post (most & r & tt) (judged most r)
  pub in_last_minute_lem : (days : ℕ) (l : Label) → Returns labels_in_last_minute.Pre labels_in_last_minute.Post (days & l & tt) (in_last_minute days l)
  pub minute_length_lem : (days : ℕ) (here after : ℤ) (l : Label) → Returns labels_minute_length.Pre labels_minute_length.Post (days & here & after & l & tt) (minute_in days here after l)
  pub day_seconds_lem : (last : Bool) (here after : ℤ) → Returns labels_day_seconds.Pre labels_day_seconds.Post (last & here & after & tt) (seconds_in last here after)
  pub day_of_lem : (days rest : ℕ) → Returns labels_day_of.Pre labels_day_of.Post (days & rest & tt) (day_of days rest)
  pub label_of_lem : (p : Place) → Returns labels_label_of.Pre labels_label_of.Post (p & tt) (label_of p)
  pub scale_numbered : (k : ℕ) → Returns stamp_scale_numbered.Pre stamp_scale_numbered.Post (k & tt) (scale_of k)
  pub scale_number_lem : (s : Scale) → Returns stamp_scale_number.Pre stamp_scale_number.Post (s & tt) (scale_number s)
  pub scale_known_lem : (k : ℕ) → Returns stamp_scale_known.Pre stamp_scale_known.Post (k & tt) (scale_known k)
  pub refused_instant : (why : Refusal) → Returns stamp_refused_instant.Pre stamp_refused_instant.Post (why & tt) (marked (Err why) false)
  pub beyond_on_lem : (s : Scale) (v m : ℕ) → Returns stamp_beyond_on.Pre stamp_beyond_on.Post (s & v & m & tt) (beyond_on v s m)
  pub instant_on : (s : Scale) (v : ℕ) (day : DayStart) (micro : ℕ) → Returns stamp_instant_on.Pre stamp_instant_on.Post (s & v & day & micro & tt) (instant_on_marked v s day micro)
  pub fraction_of_lem : (part whole : ℕ) → Returns fraction_fraction_of.Pre fraction_fraction_of.Post (part & whole & tt) (fraction_of whole part)
  pub is_fraction_lem : (x : Float) → Returns fraction_is_fraction.Pre fraction_is_fraction.Post (x & tt) (is_fraction x)
  pub is_half_lem : (x : Float) → Returns fraction_is_half.Pre fraction_is_half.Post (x & tt) (is_half x)
  pub nearest_of_lem : (x : Float) (factor shift : ℕ) → Returns fraction_nearest_of.Pre fraction_nearest_of.Post (x & factor & shift & tt) (nearest_at factor shift x)

-- What is asked of a generic function at a type whose values are copied. It asks for nothing but that the borrows in such a value, if it has any, last as long as the call.
module _ (T : RattleType) (laws : Laws T) (copied : IsCopy T) (cloned : CloneGhosts T.Denot) (dict : Dict) where
  abbrev ReturnsAt : {A R : RattleType → Type 0}
      → ((U : RattleType) → Laws U → IsCopy U → CloneGhosts U.Denot → Dict → Lft × Unit {0} → A U → Type 0)
      → ((U : RattleType) → Laws U → IsCopy U → CloneGhosts U.Denot → Dict → Lft × Unit {0} → A U → R U → A U → Type 0) → A T → R T → Type 0
  ReturnsAt pre post arguments answer =
      (lifetimes : Lft × Unit {0}) → ((k : ℕ) → Mem k T.lives → Mem k lifetimes.0)
      → Settles (pre T laws copied cloned dict lifetimes arguments) (λ r. post T laws copied cloned dict lifetimes arguments r arguments) answer

  pub record SettledMarks : Type 0 where
    pub new : (answer : Result T.Denot Refusal) (beyond : Bool) → ReturnsAt answer_marked_new.Pre answer_marked_new.Post (answer & beyond & tt) (marked answer beyond)
    pub refused : (why : Refusal) → ReturnsAt answer_marked_refused.Pre answer_marked_refused.Post (why & tt) (marked {A = T.Denot} (Err why) false)

-- what is asked of a table that is lent
module _ (t : Shown Table) where
  pub record SettledTables : Type 0 where
    pub found : Returns leap_found.Pre leap_found.Post (t & tt) (found t.now)
    pub is_accepted : Returns leap_is_accepted.Pre leap_is_accepted.Post (t & tt) (accepted t.now)
    pub judge : Returns leap_judge.Pre leap_judge.Post (t & tt) (judged_table t.now)
    pub offset_at : (m : ℕ) → Returns leap_offset_at.Pre leap_offset_at.Post (t & m & tt) (offset_at t.now m)
    pub near : (m : ℕ) → Returns leap_near.Pre leap_near.Post (t & m & tt) (near_at t.now m)
    pub asked : (scale : ℕ) → Returns stamp_asked.Pre stamp_asked.Post (t & scale & tt) (asked t.now scale)
    pub instant_in_lem : (s : Scale) (r : Reading) → Returns stamp_instant_in.Pre stamp_instant_in.Post (s & t & r & tt) (instant_in t.now s r)
    pub stamp_of_lem : (instant : ℤ) (scale : ℕ) → Returns stamp_stamp_of_in.Pre stamp_stamp_of_in.Post (t & instant & scale & tt) (stamp_of_marked t.now instant scale)
    pub shown_of : (instant : ℤ) (scale : ℕ) → Returns stamp_shown_of.Pre stamp_shown_of.Post (t & instant & scale & tt) (shown_of_marked t.now instant scale)
    pub day_on_lem : (s : Scale) (day : ℕ) → Returns stamp_day_on.Pre stamp_day_on.Post (s & t & day & tt) (day_on (offsets_of t.now s) day)

-- bytes: digits, pictures, lines and their fields
pub record SettledBytes : Type 0 where
  pub byte_at : (s : Shown (List ℕ)) (i : ℕ) → Returns digits_byte_at.Pre digits_byte_at.Post (s & i & tt) (get_or s.now i 0)
  pub append : (out : Lent (List ℕ)) (at : ℕ) (text : Shown (List ℕ)) →
      Leaves digits_append.Pre digits_append.Post (out & at & text & tt) (λ after. out becomes after & at & text & tt)
      (end_of out.now at text.now, appended out.now at text.now)
  pub append_unsigned : (out : Lent (List ℕ)) (at n : ℕ) →
      Leaves digits_append_unsigned.Pre digits_append_unsigned.Post (out & at & n & tt) (λ after. out becomes after & at & n & tt)
      (end_of out.now at (decimal_text n), appended out.now at (decimal_text n))
  pub append_signed : (out : Lent (List ℕ)) (at : ℕ) (z : ℤ) →
      Leaves digits_append_signed.Pre digits_append_signed.Post (out & at & z & tt) (λ after. out becomes after & at & z & tt)
      (end_of out.now at (signed_text z), appended out.now at (signed_text z))
  pub append_hex : (out : Lent (List ℕ)) (at : ℕ) (bytes : Shown (List ℕ)) →
      Leaves lines_append_hex.Pre lines_append_hex.Post (out & at & bytes & tt) (λ after. out becomes after & at & bytes & tt)
      (end_of out.now at (hex_shown bytes.now), appended out.now at (hex_shown bytes.now))
  pub is_digit_lem : (b : ℕ) → Returns digits_is_digit.Pre digits_is_digit.Post (b & tt) (is_digit b)
  pub digit_value_lem : (b : ℕ) → Returns digits_digit_value.Pre digits_digit_value.Post (b & tt) (digit_value b)
  pub decimal : (word : Shown (List ℕ)) (most : ℕ) → Returns digits_decimal.Pre digits_decimal.Post (word & most & tt) (decimal_of most word.now)
  pub with_sign : (minus : Bool) (n : ℕ) → Returns digits_with_sign.Pre digits_with_sign.Post (minus & n & tt) (signed minus n)
  pub magnitude : (z : ℤ) → Returns digits_magnitude.Pre digits_magnitude.Post (z & tt) (nat_abs z)
  pub digits : (n : ℕ) → Returns digits_digits.Pre digits_digits.Post (n & tt) (digits_of 9 n)
  pub month_name_lem : (month : ℕ) → Returns digits_month_name.Pre digits_month_name.Post (month & tt) (month_name month)
  pub month_named_lem : (a b c : ℕ) → Returns digits_month_named.Pre digits_month_named.Post (a & b & c & tt) (month_named (a ∷ b ∷ c ∷ []))
  pub write_fields : (f : Fields) (out : Lent (List ℕ)) →
      Leaves pictures_write_fields.Pre pictures_write_fields.Post (f & out & tt) (λ after. f & out becomes after & tt)
      (written [] (picture_text f) out.now, buffer_after [] (picture_text f) out.now)
  pub read_fields_lem : (text : Shown (List ℕ)) → Returns pictures_read_fields.Pre pictures_read_fields.Post (text & tt) (read_fields text.now)
  pub until : (s : Shown (List ℕ)) (from b : ℕ) → Returns lines_until.Pre lines_until.Post (s & from & b & tt) (from + length (before b (drop from s.now)))
  pub past_blanks : (s : Shown (List ℕ)) (from : ℕ) → Returns lines_past_blanks.Pre lines_past_blanks.Post (s & from & tt) (from + length (leading is_blank (drop from s.now)))
  pub past : (s : Shown (List ℕ)) (from b : ℕ) → Returns lines_past.Pre lines_past.Post (s & from & b & tt) (past b s.now from)
  pub all_blank_lem : (s : Shown (List ℕ)) → Returns columns_all_blank.Pre columns_all_blank.Post (s & tt) (all_blank s.now)
  pub passed_over : (line : Shown (List ℕ)) → Returns columns_passed_over.Pre columns_passed_over.Post (line & tt) (passed_over line.now)
  pub decimal_in_lem : (s : Shown (List ℕ)) → Returns columns_decimal_in.Pre columns_decimal_in.Post (s & tt) (decimal_in s.now)
  pub whole : (number places : ℕ) → Returns columns_whole.Pre columns_whole.Post (number & places & tt) (whole_of number places)
  pub line_start_lem : (s : Shown (List ℕ)) (k : ℕ) → Returns lines_line_start.Pre lines_line_start.Post (s & k & tt) (line_start s.now k)
  pub front : (s : Shown (List ℕ)) (n : ℕ) → Returns lines_front.Pre lines_front.Post (s & n & tt) (min n (length s.now))
  pub hold : (line : Lent (List ℕ)) (held : ℕ) (piece : Shown (List ℕ)) →
      Leaves lines_hold.Pre lines_hold.Post (line & held & piece & tt) (λ after. line becomes after & held & piece & tt)
      (min (held + length piece.now) (length line.now), held_in line.now held piece.now)
  pub take_line : (chunk : Shown (List ℕ)) (from : ℕ) (line : Lent (List ℕ)) (held : ℕ) →
      Leaves lines_take_line.Pre lines_take_line.Post (chunk & from & line & held & tt) (λ after. chunk & from & line becomes after & held & tt)
      (cut_at chunk.now from (length line.now) held, held_in line.now held (piece_at chunk.now from))
  pub hex_digit : (b : ℕ) → Returns lines_hex_digit.Pre lines_hex_digit.Post (b & tt) (nibble b)
  pub hex : (word : Shown (List ℕ)) (out : Lent (List ℕ)) →
      Leaves lines_hex.Pre lines_hex.Post (word & out & tt) (λ after. word & out becomes after & tt)
      (hex_of (length out.now) word.now, hex_into out.now word.now)
  pub ended : (line : Shown (List ℕ)) (c : Cursor) → Returns fields_ended.Pre fields_ended.Post (line & c & tt) (c.fine && eqb c.at (length line.now))
  pub number_field : (line : Shown (List ℕ)) (c : Cursor) (most : ℕ) → Returns fields_number_field.Pre fields_number_field.Post (line & c & most & tt) (natural_at most line.now c)
  pub u32_field_lem : (line : Shown (List ℕ)) (c : Cursor) →
      Returns {R = Field ℕ} fields_u32_field.Pre fields_u32_field.Post (line & c & tt)
      (record { value = (natural_at (2 ^ 32 - 1) line.now c).value; next = (natural_at (2 ^ 32 - 1) line.now c).next })
  pub i64_field : (line : Shown (List ℕ)) (c : Cursor) → Returns fields_i64_field.Pre fields_i64_field.Post (line & c & tt) (integer_at (2 ^ 63 - 1) line.now c)
  pub i32_field_lem : (line : Shown (List ℕ)) (c : Cursor) →
      Returns {R = Field ℤ} fields_i32_field.Pre fields_i32_field.Post (line & c & tt)
      (record { value = (integer_at (2 ^ 31 - 1) line.now c).value; next = (integer_at (2 ^ 31 - 1) line.now c).next })
  pub hex_field : (line : Shown (List ℕ)) (c : Cursor) (out : Lent (List ℕ)) →
      Leaves fields_hex_field.Pre fields_hex_field.Post (line & c & out & tt) (λ after. line & c & out becomes after & tt)
      (hex_at (length out.now) line.now c, hex_into out.now (word_at line.now c.at))
  pub pattern_field : (line : Shown (List ℕ)) (c : Cursor) → Returns fields_pattern_field.Pre fields_pattern_field.Post (line & c & tt) (pattern_at line.now c)
  pub double : (bits : ℕ) → Returns fields_double.Pre fields_double.Post (bits & tt) (of_bits binary64 bits)
  pub pattern : (x : Float) → Returns fields_pattern.Pre fields_pattern.Post (x & tt) (to_bits binary64 x)

-- a kernel's bytes: of which kind one is, and what is read in part with one byte more
pub record SettledKinds : Type 0 where
  pub is_white_lem : (b : ℕ) → Returns kinds_is_white.Pre kinds_is_white.Post (b & tt) (is_white b)
  pub is_gap_lem : (b : ℕ) → Returns kinds_is_gap.Pre kinds_is_gap.Post (b & tt) (is_gap b)
  pub is_between_lem : (b : ℕ) → Returns kinds_is_between.Pre kinds_is_between.Post (b & tt) (is_between b)
  pub is_run_lem : (b : ℕ) → Returns kinds_is_run.Pre kinds_is_run.Post (b & tt) (is_run b)
  pub is_name_lem : (b : ℕ) → Returns kinds_is_name.Pre kinds_is_name.Post (b & tt) (is_name b)
  pub pick : (test : Bool) (yes other : ℕ) → Returns kinds_pick.Pre kinds_pick.Post (test & yes & other & tt) (cond test yes other)
  pub ours_next : (k b : ℕ) → Returns kinds_ours_next.Pre kinds_ours_next.Post (k & b & tt) (matched ours k b)
  pub data_next : (k b : ℕ) → Returns kinds_data_next.Pre kinds_data_next.Post (k & b & tt) (matched begin_data k b)
  pub text_next : (k b : ℕ) → Returns kinds_text_next.Pre kinds_text_next.Post (k & b & tt) (matched begin_text k b)
  pub grow : (n b : ℕ) → Returns kinds_grow.Pre kinds_grow.Post (n & b & tt) (grown n b)
  pub grow_year : (year b : ℕ) → Returns kinds_grow_year.Pre kinds_grow_year.Post (year & b & tt) (grown_year year b)
  pub years_begin_lem : (k year : ℕ) → Returns kinds_years_begin.Pre kinds_years_begin.Post (k & year & tt) (years_begin k year)
  pub capital : (b : ℕ) → Returns kinds_capital.Pre kinds_capital.Post (b & tt) (upper b)
  pub month_on_lem : (from k c : ℕ) → Returns kinds_month_on.Pre kinds_month_on.Post (from & k & c & tt) (month_on from k c 12)
  pub month_number_lem : (year m : ℕ) → Returns kinds_month_number.Pre kinds_month_number.Post (year & m & tt) (month_number year m)
  pub step : (have : Bool) (at : ℕ) (m : Mode) (b : ℕ) → Returns automaton_step.Pre automaton_step.Post (have & at & m & b & tt) (step have at m b)
