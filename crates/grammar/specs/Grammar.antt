-- What a kernel is. Nothing here knows the reader; the kinds of bytes and the fixed words are in `Kinds` of `kinds`.
-- Assumes nothing.
use Rattle.std.specs.Prelude.{◌≡◌, Bool, true, false, not, ◌&&◌, ◌||◌, List, [], ◌∷◌, ◌++◌, map, ℕ, ◌+◌, ◌-◌, ◌*◌, ◌<◌, ◌≤◌, eqb, ℤ, pos, neg_ℤ, length}
use Rattle.digits.specs.Bytes.{ascii}
use Rattle.digits.specs.Decimals.{is_digit, spelled}
use Rattle.digits.specs.Months.{month_name}
use Rattle.leap.specs.Entries.{Entry}
use Rattle.kinds.specs.Kinds.{is_white, is_gap, is_between, is_run, is_name, upper, begin_data, begin_text, ours}

infixr 20 ◌▸◌
-- ---- rows of bytes

-- every byte is of a kind
unfoldable pub every : (ℕ → Bool) → List ℕ → Bool
every f [] = true
every f (b ∷ s) = f b && every f s

-- bytes of a kind: any number, one or more, one
abbrev pub Row : (ℕ → Bool) → List ℕ → Type 0
Row f x = every f x ≡ true

pub data Some (f : ℕ → Bool) : List ℕ → Type 0 where
  some : {b : ℕ} {x : List ℕ} → f b ≡ true → Row f x → Some f (b ∷ x)

pub data One (f : ℕ → Bool) : List ℕ → Type 0 where
  one : {b : ℕ} → f b ≡ true → One f (b ∷ [])

-- these bytes
abbrev pub Is : List ℕ → List ℕ → Type 0
Is w x = x ≡ w

-- one part and then another: A ▸ B ▸ C is A, then B, then C
pub record ◌▸◌ (A B : List ℕ → Type 0) (s : List ℕ) : Type 0 where
  pub first : List ℕ
  pub rest : List ℕ
  pub is_first : A first
  pub is_rest : B rest
  pub split : s ≡ first ++ rest

-- ---- another's assignment

-- a name that is not ours
pub record Another (x : List ℕ) : Type 0 where
  pub name : Some is_name x
  pub not_ours : x ≡ ours → ⊥

pub data Operator : List ℕ → Type 0 where
  equals : Operator (ascii "=")
  plus_equals : Operator (ascii "+=")

-- a text in quotes, behind the first quote (39): any bytes but a line feed, a backslash and a quote, which is doubled
abbrev pub is_plain : ℕ → Bool
is_plain b = not (eqb b 39) && not (eqb b 10 || eqb b 92)

pub data Quoted : List ℕ → Type 0 where
  closes : Quoted (39 ∷ [])
  doubled : {x : List ℕ} → Quoted x → Quoted (39 ∷ 39 ∷ x)
  plain : {b : ℕ} {x : List ℕ} → is_plain b ≡ true → Quoted x → Quoted (b ∷ x)

-- a run, or a text in quotes
pub data Item : List ℕ → Type 0 where
  a_run : {x : List ℕ} → Some is_run x → Item x
  a_text : {x : List ℕ} → Quoted x → Item (39 ∷ x)

-- one or more items, behind the parenthesis that opens and with the one that closes; something stands between two
pub data Items : List ℕ → Type 0 where
  last : {x : List ℕ} → (Row is_between ▸ Item ▸ Row is_between ▸ Is (ascii ")")) x → Items x
  more : {x s : List ℕ} → (Row is_between ▸ Item ▸ One is_between) x → Items s → Items (x ++ s)

-- a value that shows its own end: a text in quotes, or items in parentheses
pub data Closed : List ℕ → Type 0 where
  a_text : {x : List ℕ} → Quoted x → Closed (39 ∷ x)
  items : {x : List ℕ} → Items x → Closed (40 ∷ x)

-- such a name, = or +=, and a value; white and line ends are free between them
abbrev pub Assigns : (List ℕ → Type 0) → List ℕ → Type 0
Assigns A = Another ▸ Row is_gap ▸ Operator ▸ Row is_gap ▸ A

-- a run ends only at a byte that it cannot have
abbrev pub Stops : List ℕ → Type 0
Stops [] = Unit {0}
Stops (b ∷ s) = is_run b ≡ false

-- ---- our assignment

-- a whole number of any size: a sign or none, and digits
pub data Whole : ℤ → List ℕ → Type 0 where
  bare : {x : List ℕ} → Some is_digit x → Whole (pos (spelled 0 x)) x
  plus : {x : List ℕ} → Some is_digit x → Whole (pos (spelled 0 x)) (43 ∷ x)
  minus : {x : List ℕ} → Some is_digit x → Whole (neg_ℤ (pos (spelled 0 x))) (45 ∷ x)

-- four digits, from 1972 on
pub record Year (y : ℕ) (x : List ℕ) : Type 0 where
  pub four : length x ≡ 4
  pub digits : Row is_digit x
  pub value : spelled 0 x ≡ y
  pub late : 1972 ≤ y

-- the three letters of month m, each in either case
pub record MonthName (m : ℕ) (x : List ℕ) : Type 0 where
  pub some_month : 1 ≤ m
  pub of_year : m ≤ 12
  pub letters : map upper x ≡ month_name m

pub data Day : List ℕ → Type 0 where
  short : Day (ascii "1")
  long : Day (ascii "01")

-- @, a year, -, a month, - and a day; its month number, where January 1972 is 0
pub record Date (month : ℕ) (x : List ℕ) : Type 0 where
  pub y : ℕ
  pub m : ℕ
  pub number : month ≡ (y - 1972) * 12 + (m - 1)
  pub parts : (Is (ascii "@") ▸ Year y ▸ Is (ascii "-") ▸ MonthName m ▸ Is (ascii "-") ▸ Day) x

-- a pair, which is an entry of a table: a number, what parts it from its date, and the date
abbrev pub Pair : Entry → List ℕ → Type 0
Pair e = Whole e.1 ▸ Some is_between ▸ Date e.0

-- one or more pairs, as items are
pub data Pairs : List Entry → List ℕ → Type 0 where
  last : {e : Entry} {x : List ℕ} → (Row is_between ▸ Pair e ▸ Row is_between ▸ Is (ascii ")")) x → Pairs (e ∷ []) x
  more : {e : Entry} {es : List Entry} {x s : List ℕ} → (Row is_between ▸ Pair e ▸ One is_between) x → Pairs es s → Pairs (e ∷ es) (x ++ s)

-- our name, =, and pairs in parentheses
abbrev pub Ours : List Entry → List ℕ → Type 0
Ours es = Is ours ▸ Row is_gap ▸ Is (ascii "=") ▸ Row is_gap ▸ Is (ascii "(") ▸ Pairs es

-- ---- the file

-- where a part of the file begins: at a line of text; in data, with nothing but white before it on its line or not
pub data Stand : Type 0 where
  text : Stand
  data_on : Bool → Stand

abbrev pub not_feed : ℕ → Bool
not_feed b = not (eqb b 10)

-- a line with nothing but `\begindata` and white
abbrev pub BeginsData : List ℕ → Type 0
BeginsData = Row is_white ▸ Is begin_data ▸ Row is_white

-- s goes from there to the end of the file, and es are the pairs of our assignment in it: none where it does not stand there
pub data File : Stand → List Entry → List ℕ → Type 0 where
  -- the last line of text, without a line feed; a line with nothing but `\begindata` and white; any other line
  text_ends : (l : List ℕ) → Row not_feed l → File text [] l
  data_begins : {es : List Entry} {l s : List ℕ} → BeginsData l → File (data_on true) es s → File text es (l ++ 10 ∷ s)
  text_goes_on : {es : List Entry} {l s : List ℕ} → Row not_feed l → (BeginsData l → ⊥) → File text es s → File text es (l ++ 10 ∷ s)
  -- in data: its end; white and line ends; a line with nothing but `\begintext` and white, with its line feed or at the end
  data_ends : {f : Bool} → File (data_on f) [] []
  white : {f : Bool} {es : List Entry} {b : ℕ} {s : List ℕ} → is_white b ≡ true → File (data_on f) es s → File (data_on f) es (b ∷ s)
  line_ends : {f : Bool} {es : List Entry} {s : List ℕ} → File (data_on true) es s → File (data_on f) es (10 ∷ s)
  text_begins : {es : List Entry} {l s : List ℕ} → (Is begin_text ▸ Row is_white) l → File text es s → File (data_on true) es (l ++ 10 ∷ s)
  text_begins_last : {l : List ℕ} → (Is begin_text ▸ Row is_white) l → File (data_on true) [] l
  -- another's assignment, of a run or of a value that shows its end; ours, behind which it stands no more
  a_run : {f : Bool} {es : List Entry} {x s : List ℕ} → Assigns (Some is_run) x → Stops s → File (data_on false) es s → File (data_on f) es (x ++ s)
  a_value : {f : Bool} {es : List Entry} {x s : List ℕ} → Assigns Closed x → File (data_on false) es s → File (data_on f) es (x ++ s)
  our_pairs : {f : Bool} {es : List Entry} {x s : List ℕ} → Ours es x → File (data_on false) [] s → File (data_on f) es (x ++ s)

-- a kernel with these pairs: our assignment stands in it
pub record Kernel (es : List Entry) (s : List ℕ) : Type 0 where
  pub file : File text es s
  pub stands : 0 < length es
