-- What loading a leap table and vouching for it answers, and the table afterwards: none, all zero, where loading is refused.
-- Assumes nothing.
use Rattle.std.specs.Prelude.{ℕ, ◌+◌, ◌-◌, ◌*◌, ◌/◌, ◌≡◌, Bool, false, cond, ◌&&◌, List, ◌++◌, eqb, leb, length, take, drop, get_or, Option, Some, None, Result, Ok, Err}
use Rattle.answer.specs.declared.Refusal.{Refusal}
use Rattle.answer.specs.declared.Refusal.TheVariants.{Table as TABLE}
use Rattle.answer.specs.Refusals.{number}
use Rattle.digits.specs.Bytes.{ascii}
use Rattle.digits.specs.Decimals.{decimal_text, decimal_of}
use Rattle.lines.specs.Pairs.{paired, all_pairs}
use Rattle.leap.specs.declared.Table.{Table}
use Rattle.answer.specs.declared.Fault.{Fault}
use Rattle.leap.specs.Leap.{vouched_to, accepted}
use Rattle.leap.specs.Readers.{no_table}
use Rattle.block.specs.Reading.{read_either}
use Rattle.kernel.specs.Reading.{read_kernel}
use Rattle.cards.specs.Reading.{read_cards}
use Rattle.phrases.specs.Texts.{refusal_text, no_month, no_hex, no_file, long_file}
use Rattle.phrases.specs.Replies.{Reply, answering, refusing_as, refusal, Says}
use Rattle.tablewords.specs.declared.Loaded.{Loaded}
use Rattle.tablewords.specs.Words.{table_words}

-- a reply, and the table afterwards
pub record Load : Type 0 where
  pub reply : Reply
  pub table : Table

-- this table from now on, in words
abbrev pub taking : Table → Load
taking t = record { reply = answering (table_words t); table = t }

-- this table from now on, whatever is said
abbrev pub leaving : Table → Reply → Load
leaving t r = record { reply = r; table = t }

-- ---- a table that was read

-- a refusal of what was given, with the place
abbrev pub placed_refusal : Fault → List ℕ → Reply
placed_refusal fault given = record {
  text = refusal_text (number fault.why) (number fault.why) given ++ (ascii " at byte " ++ decimal_text fault.at);
  good = false;
}

-- where none was read there is none from now on: no line is answered by another table than the one that was asked for
abbrev pub loaded_by : List ℕ → Result Table Fault → Load
loaded_by given (Ok table) = taking table
loaded_by given (Err fault) = leaving no_table (placed_refusal fault given)

-- pairs of hex digits alone, 512 of them at most: a line has no more
unfoldable pub is_hex : List ℕ → Bool
is_hex s = leb (length s / 2) 512 && all_pairs s

-- a block of either form
unfoldable pub load_block : List ℕ → Load
load_block hex = cond (is_hex hex) (loaded_by hex (read_either (paired hex))) (leaving no_table (refusing_as 8 no_hex hex))

-- a file of this name that is not read, refused with the number of its kind and a sentence
abbrev pub not_read : ℕ → ℕ → List ℕ → Load
not_read n sentence given = leaving no_table (refusing_as n sentence given)

-- a file of this name, which can be read or not
unfoldable pub load_kernel : List ℕ → Bool → List ℕ → Load
load_kernel given readable file = cond readable (loaded_by given (read_kernel file)) (not_read 14 no_file given)

-- cards have no limit of their own, but no more of a file is read than a kernel may have
unfoldable pub load_cards : List ℕ → Bool → List ℕ → Load
load_cards given readable file =
    cond readable
    (cond (leb (length file) 65536) (loaded_by given (read_cards file)) (not_read 15 long_file given))
    (not_read 15 no_file given)

-- ---- the month that it is vouched for

-- its number by a year and a month: the month plus one, where January 1972 is 0
abbrev pub month_number : Option ℕ → Option ℕ → Option ℕ
month_number (Some y) (Some m) = cond (leb 1972 y) (cond (leb 1 m) (Some (12 * (y - 1972) + m)) None) None
month_number (Some y) None = None
month_number None m = None

-- four digits of a year, `-` (45), and two of a month
unfoldable pub month_given : List ℕ → Option ℕ
month_given s =
    cond (eqb (length s) 7)
    (cond (eqb (get_or s 4 0) 45) (month_number (decimal_of 9999 (take 4 s)) (decimal_of 12 (drop 5 s))) None)
    None

abbrev pub vouched_by : Table → List ℕ → Option ℕ → Load
vouched_by t s (Some v) = cond (accepted (vouched_to v t)) (taking (vouched_to v t)) (leaving t (refusal TABLE s))
vouched_by t s None = leaving t (refusing_as 8 no_month s)

unfoldable pub vouch : Table → List ℕ → Load
vouch t s = vouched_by t s (month_given s)

-- ---- a reply put into a buffer, and the table with it

pub record Loads (l : List ℕ) (i : ℕ) (load : Load) (r : Loaded) (now : List ℕ) : Type 0 where
  pub says : Says l i load.reply r.said now
  pub table : r.table ≡ load.table
