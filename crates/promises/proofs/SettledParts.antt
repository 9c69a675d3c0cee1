-- Most contracts are equations. Some also say what follows from theirs: that a count stands within a buffer, that a digit is at most 16.
-- Assumes nothing.
use mathlib.Core.Path.{◌≡◌, refl, sym, ap, ap₂, subst, ◌∙◌}
use mathlib.Core.Bool.{Bool, true, false, cond, ◌&&◌}
use mathlib.Core.List.{List, [], ◌∷◌}
use Prim.Native.Nat.{ℕ, zero, suc, ◌+◌, min, ◌≤◌}
use native.Mathlib.Omega.{arith}
use denote.Param.Laws.{Laws, IsCopy}
use denote.RattleType.{RattleType}
use mir.Syntax.{Dict}
use borrow.Author.Tests.{leb-true, leb-false}
use lib.Dec.{eqb, leb}
use lib.IntN.{ℤ}
use lib.ListN.{length, drop, length-drop}
use lib.Seq.{length-take-le}
use Rattle.laws.proofs.Cases.{and_r}
use Rattle.laws.specs.Placed.{place}
use Rattle.digits.specs.Bytes.{end_of, appended, Counts, Appended}
use Rattle.digits.proofs.Bytes.{room_yes, room_no}
use Rattle.digits.proofs.Decimals.{value_most}
use Rattle.lines.specs.Words.{before, is_blank, past, line_of, line_start}
use Rattle.lines.specs.Cuts.{cut_at}
use Rattle.lines.specs.Pairs.{nibble}
use Rattle.lines.proofs.Words.{leading_short}
use Rattle.lines.proofs.Lines.{line_next}
use Rattle.leap.specs.declared.Table.{Table}
use Rattle.fields.specs.declared.Cursor.{Cursor}
use Rattle.fields.specs.declared.Field.{Field}
use Rattle.std.specs.declared.clone.Clone.{Ghosts as CloneGhosts}
use Rattle.laws.specs.Settles.{Shown, Settles}
use Rattle.laws.proofs.Settles.{equal, each, following}
use Rattle.promises.specs.SettledParts.{SettledParts, SettledMarks, SettledTables, SettledBytes, SettledKinds}

pub settled_parts : SettledParts
settled_parts =
    record {
      refusal_number = λ why k. equal;
      fault = λ why k. equal;
      marks_of = λ beyond k. equal;
      write = λ bytes out k. each;
      tabled = λ count months offsets vouched k. equal;
      no_table_lem = λ k. equal;
      refused_at_lem = λ why at k. equal;
      days_before_lem = λ m k. equal;
      month_length_lem = λ m k. equal;
      month_of_day_lem = λ day k. equal;
      day_of_year_lem = λ m day k. equal;
      date_in_year_lem = λ year day k. equal;
      vouched_right_lem = λ last v k. equal;
      beyond = λ v m k. equal;
      month_of_lem = λ l k. equal;
      read_either_lem = λ s k. equal;
      judge = λ most r k. equal;
      in_last_minute_lem = λ days l k. equal;
      minute_length_lem = λ days here after l k. equal;
      day_seconds_lem = λ last here after k. equal;
      day_of_lem = λ days rest k. equal;
      label_of_lem = λ p k. equal;
      scale_numbered = λ n k. equal;
      scale_number_lem = λ s k. equal;
      scale_known_lem = λ n k. equal;
      refused_instant = λ why k. equal;
      beyond_on_lem = λ s v m k. equal;
      instant_on = λ s v day micro k. equal;
      fraction_of_lem = λ part whole k. equal;
      is_fraction_lem = λ x k. equal;
      is_half_lem = λ x k. equal;
      nearest_of_lem = λ x factor shift k. equal;
    }

-- an equation, where what is asked for is there
there : {A asked : Type 0} {v : A} → asked → Settles asked (λ (a : A). a ≡ v) v
there given = record { asks_nothing = given; allows_it_alone = λ a. (λ p. p, λ p. p) }

pub settled_marks : (T : RattleType) (laws : Laws T) (copied : IsCopy T) (cloned : CloneGhosts T.Denot) (dict : Dict) → SettledMarks T laws copied cloned dict
settled_marks T laws copied cloned dict = record { new = λ a b k lasts. there lasts; refused = λ why k lasts. there lasts }

pub settled_tables : (t : Shown Table) → SettledTables t
settled_tables t =
    record {
      found = λ k. equal;
      is_accepted = λ k. equal;
      judge = λ k. equal;
      offset_at = λ m k. equal;
      near = λ m k. equal;
      asked = λ scale k. equal;
      instant_in_lem = λ s r k. equal;
      stamp_of_lem = λ x scale k. equal;
      shown_of = λ x scale k. equal;
      day_on_lem = λ s day k. equal;
    }

-- ---- what follows

-- a text appended: where the next goes stands within the buffer
appends_so : (l : List ℕ) (i : ℕ) (v : List ℕ) → Appended l i v (end_of l i v) (appended l i v)
unfolding end_of appended
appends_so l i v = go (leb (i + length v) (length l)) refl
  where
    go : (t : Bool) → leb (i + length v) (length l) ≡ t → Appended l i v (cond t (i + length v) (min i (length l))) (cond t (place l i v) l)
    go true e = room_yes l i v (leb-true (i + length v) (length l) e) refl
    go false e = room_no l i v (leb-false (i + length v) (length l) e) refl

appends : {l : List ℕ} {i : ℕ} {v : List ℕ} → Settles Unit (λ (a : ℕ × List ℕ). Appended l i v a.0 a.1) (end_of l i v, appended l i v)
appends {l} {i} {v} =
    record {
      asks_nothing = tt;
      allows_it_alone = λ a. (λ p. ap₂ (λ x y. (x, y)) p.end p.text, λ p. subst (λ (b : ℕ × List ℕ). Appended l i v b.0 b.1) (sym p) (appends_so l i v));
    }

-- the bytes before the first b are no more than all
few_before : (b : ℕ) (s : List ℕ) → length (before b s) ≤ length s
unfolding before
few_before b [] = omega arith
few_before b (x ∷ s) = go (eqb x b) (few_before b s)
  where
    go : (t : Bool) → length (before b s) ≤ length s → length (cond t [] (x ∷ before b s)) ≤ length (x ∷ s)
    go true h = omega arith
    go false h = omega arith

-- so many bytes behind `from` end within the text, where that begins there
within : (s : List ℕ) (from n : ℕ) → n ≤ length (drop from s) → (from ≤ length s → from + n ≤ length s) × (from ≤ from + n)
within s from n h = (λ f. omega (arith, h, length-drop from s), omega arith)

-- the front of a list ends within it
front_counts : (n : ℕ) (s : List ℕ) → Counts (min n (length s)) s
front_counts n s = (omega arith, sym (length-take-le (min n (length s)) s (omega arith)))

-- the lines of a text from where line k begins
lines_from : (s : List ℕ) (k j : ℕ) → line_of (drop (line_start s k) s) j ≡ line_of s (k + j)
unfolding line_start
lines_from s zero j = let e : j ≡ 0 + j = omega arith in ap (line_of s) e
lines_from s (suc k) j = let e : k + suc j ≡ suc k + j = omega arith in line_next s (line_start s k) j ∙ lines_from s k (suc j) ∙ ap (line_of s) e

start_inside : (s : List ℕ) (k : ℕ) → line_start s k ≤ length s
unfolding line_start
start_inside s zero = omega arith
start_inside s (suc k) = omega arith

-- line k begins there, and the start stands within the text
starts_line : (s : List ℕ) (k : ℕ) → (before 10 (drop (line_start s k) s) ≡ line_of s k) × (line_start s k ≤ length s)
unfolding line_of
starts_line s k = let e : k + 0 ≡ k = omega arith in (lines_from s k 0 ∙ ap (line_of s) e, start_inside s k)

-- where a chunk goes on, by its name
goes_on : (chunk : List ℕ) (from size held : ℕ) → (cut_at chunk from size held).at ≡ past 10 chunk from
unfolding cut_at
goes_on chunk from size held = refl

low : {x y : ℕ} (t : Bool) → (t ≡ true → x ≤ 16) → y ≤ 16 → cond t x y ≤ 16
low true h k = h refl
low false h k = k

nibble_low : (b : ℕ) → nibble b ≤ 16
unfolding nibble
nibble_low b =
    low (leb 48 b && leb b 57) (λ e. omega (arith, leb-true b 57 (and_r (leb 48 b) _ e)))
    (low (leb 65 b && leb b 70) (λ e. omega (arith, leb-true b 70 (and_r (leb 65 b) _ e)))
    (low (leb 97 b && leb b 102) (λ e. omega (arith, leb-true b 102 (and_r (leb 97 b) _ e))) (omega arith)))

abbrev u32_field : ℕ → Cursor → Field ℕ
u32_field v n = record { value = v; next = n }

abbrev i32_field : ℤ → Cursor → Field ℤ
i32_field v n = record { value = v; next = n }

pub settled_bytes : SettledBytes
settled_bytes =
    record {
      byte_at = λ s i k. equal;
      append = λ out at text k. appends;
      append_unsigned = λ out at n k. appends;
      append_signed = λ out at z k. appends;
      append_hex = λ out at bytes k. appends;
      is_digit_lem = λ b k. equal;
      digit_value_lem = λ b k. following (λ r. r ≤ 9) (value_most b);
      decimal = λ word most k. equal;
      with_sign = λ minus n k. equal;
      magnitude = λ z k. equal;
      digits = λ n k. equal;
      month_name_lem = λ m k. equal;
      month_named_lem = λ a b c k. equal;
      write_fields = λ f out k. each;
      read_fields_lem = λ text k. equal;
      until = λ s from b k. following (λ r. (from ≤ length s.now → r ≤ length s.now) × (from ≤ r)) (within s.now from _ (few_before b (drop from s.now)));
      past_blanks = λ s from k.
          following (λ r. (from ≤ length s.now → r ≤ length s.now) × (from ≤ r)) (within s.now from _ (leading_short is_blank (drop from s.now)));
      past = λ s from b k. following (λ r. r ≤ length s.now) (omega arith);
      all_blank_lem = λ s k. equal;
      passed_over = λ line k. equal;
      decimal_in_lem = λ s k. equal;
      whole = λ number places k. equal;
      line_start_lem = λ s n k. following (λ r. (before 10 (drop r s.now) ≡ line_of s.now n) × (r ≤ length s.now)) (starts_line s.now n);
      front = λ s n k.
          record { asks_nothing = tt; allows_it_alone = λ r. (λ p. p.1, λ p. (subst (λ (x : ℕ). Counts x s.now) (sym p) (front_counts n s.now), p)) };
      hold = λ line held piece k. each;
      take_line = λ chunk from line held k.
          record {
            asks_nothing = tt;
            allows_it_alone = λ o. (λ p. ap₂ (λ x y. (x, y)) p.0.0 p.0.1, λ p. ((ap (λ q. q.0) p, ap (λ q. q.1) p), ap (λ q. q.0.at) p ∙ goes_on chunk.now from (length line.now) held));
          };
      hex_digit = λ b k. following (λ r. r ≤ 16) (nibble_low b);
      hex = λ word out k. each;
      ended = λ line c k. equal;
      number_field = λ line c most k. equal;
      u32_field_lem = λ line c k.
          record { asks_nothing = tt; allows_it_alone = λ r. (λ p. ap₂ u32_field p.0 p.1, λ p. (ap (λ (r : Field ℕ). r.value) p, ap (λ (r : Field ℕ). r.next) p)) };
      i64_field = λ line c k. equal;
      i32_field_lem = λ line c k.
          record { asks_nothing = tt; allows_it_alone = λ r. (λ p. ap₂ i32_field p.0 p.1, λ p. (ap (λ (r : Field ℤ). r.value) p, ap (λ (r : Field ℤ). r.next) p)) };
      hex_field = λ line c out k. each;
      pattern_field = λ line c k. equal;
      double = λ bits k. equal;
      pattern = λ x k. equal;
    }

pub settled_kinds : SettledKinds
settled_kinds =
    record {
      is_white_lem = λ b k. equal;
      is_gap_lem = λ b k. equal;
      is_between_lem = λ b k. equal;
      is_run_lem = λ b k. equal;
      is_name_lem = λ b k. equal;
      pick = λ test yes other k. equal;
      ours_next = λ j b k. equal;
      data_next = λ j b k. equal;
      text_next = λ j b k. equal;
      grow = λ n b k. equal;
      grow_year = λ year b k. equal;
      years_begin_lem = λ j year k. equal;
      capital = λ b k. equal;
      month_on_lem = λ from j c k. equal;
      month_number_lem = λ year m k. equal;
      step = λ have at m b k. equal;
    }
