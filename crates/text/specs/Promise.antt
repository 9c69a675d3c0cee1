-- What is promised of text, in the scope's numbers: how long a text is, what each text is read as or refused for, what is written for each instant, that it reads back, and that it sorts.
-- Nothing here speaks of the reader's own steps, or of the way from an instant to its stamp.
-- Assumes nothing.
use Rattle.std.specs.Prelude.{◌≡◌, true, cond, List, [], ◌∷◌, ◌↔◌, ℕ, ◌+◌, ◌-◌, ◌%◌, ◌^◌, ◌≤◌, ◌<◌, eqb, ℤ, length, take, get_or, ◌≤ℤ◌, Err}
use Rattle.laws.specs.Order.{Compare, NotGreater}
use Rattle.laws.specs.Placed.{over}
use Rattle.answer.specs.Refusals.{refusing}
use Rattle.answer.specs.Buffers.{written_results}
use Rattle.leap.specs.declared.Table.{Table}
use Rattle.leap.specs.Leap.{accepted}
use Rattle.labels.specs.declared.Reading.{Reading}
use Rattle.pictures.specs.declared.Fields.{Fields}
use Rattle.pictures.specs.Pictures.{picture_text, WellFormed}
use Rattle.stamp.specs.declared.Scale.{Scale}
use Rattle.stamp.specs.declared.Stamp.{Stamp}
use Rattle.stamp.specs.Scales.{scale_of, scale_tests}
use Rattle.stamp.specs.Promise.{Reads}
use Rattle.text.specs.Text.{reading_of, read_answer, read_text, text_results, text_of, write_text, write_text_after}

-- ---- length

-- the scope's length of a picture, and the point with its digits
abbrev pub text_length : ℕ → ℕ → ℕ
text_length p digits = get_or (19 ∷ 17 ∷ 20 ∷ []) p 0 + cond (eqb digits 0) 0 (1 + digits)

-- how long a text is
abbrev pub Sized : Type 0
Sized = (p digits : ℕ) (r : Reading) → p ≤ 2 → digits ≤ 6 → length (text_of p digits r) ≡ text_length p digits

-- scale, picture and number of digits are known, and the table is accepted
pub record Known (t : Table) (k p digits : ℕ) : Type 0 where
  pub a_scale : k ≤ 3
  pub a_picture : p ≤ 2
  pub a_number : digits ≤ 6
  pub a_table : accepted t ≡ true

-- ---- reading

-- under table t on scale k the text is read with number 0, as the instant x and the stamp z
abbrev pub AcceptedAs : Table → ℕ → List ℕ → ℤ → Stamp → Type 0
AcceptedAs t k text x z = text_results (read_text t k text) ≡ (0, x, z)

-- the text names the moment r, which exists on scale k and is the instant x: it is that reading's, in some picture, with digits enough for its microsecond
pub record Names (t : Table) (k : ℕ) (text : List ℕ) (x : ℤ) (r : Reading) : Type 0 where
  pub picture : ℕ
  pub digits : ℕ
  pub known : Known t k picture digits
  pub reads : Reads t (scale_of k) r x
  pub enough : r.micro % 10 ^ (6 - digits) ≡ 0
  pub text_is : text ≡ text_of picture digits r

pub record ReadExactly (t : Table) (k : ℕ) (text : List ℕ) : Type 0 where
  -- a text is accepted exactly when it names a moment, and then as that moment
  pub success : (x : ℤ) (z : Stamp) → AcceptedAs t k text x z ↔ ((z.scale ≡ scale_of k) × Names t k text x z.reading)
  -- SHAPE, 2, is for a text that is the picture of no fields
  pub shape : ((text_results (read_text t k text)).0 ≡ 2) ↔ ((k ≤ 3) × (accepted t ≡ true) × ((f : Fields) → WellFormed f → text ≡ picture_text f → ⊥))
  -- for one that is the picture of fields, scale and table are judged and then these, as a stamp's fields are
  pub fields : (f : Fields) → WellFormed f → text ≡ picture_text f → text_results (read_text t k text) ≡ text_results (refusing Err (scale_tests t k) (read_answer t (scale_of k) (reading_of f)))

-- ---- writing

pub record WrittenExactly (t : Table) (k : ℕ) (x : ℤ) (p digits : ℕ) (buffer : List ℕ) : Type 0 where
  -- success, 0: a reading has the instant, and the buffer has room for its text
  pub success : ((written_results (write_text t x p k digits buffer)).0 ≡ 0) ↔ (Known t k p digits × ((r : Reading) × Reads t (scale_of k) r x × (length (text_of p digits r) ≤ length buffer)))
  -- ROOM, 1: a reading has the instant, and its text is longer than the buffer
  pub room : ((written_results (write_text t x p k digits buffer)).0 ≡ 1) ↔ (Known t k p digits × ((r : Reading) × Reads t (scale_of k) r x × (length buffer < length (text_of p digits r))))
  -- RANGE, 7: no reading has the instant
  pub range : ((written_results (write_text t x p k digits buffer)).0 ≡ 7) ↔ (Known t k p digits × ((r : Reading) → Reads t (scale_of k) r x → ⊥))
  -- what a success is: the length of the text of the instant's reading, its bytes, and past them the buffer's own
  pub as_text : (r : Reading) → Reads t (scale_of k) r x → (written_results (write_text t x p k digits buffer)).0 ≡ 0
      → (written_results (write_text t x p k digits buffer) ≡ (0, length (text_of p digits r))) × (write_text_after t x p k digits buffer ≡ over (text_of p digits r) buffer)
  -- a refusal leaves every byte of the buffer
  pub or_nothing : ((written_results (write_text t x p k digits buffer)).0 ≡ 0 → ⊥) → write_text_after t x p k digits buffer ≡ buffer

-- `write_text` writes this text for the instant x, to some buffer: these are as many bytes in front as it answers
pub record WritesText (t : Table) (x : ℤ) (p k digits : ℕ) (text : List ℕ) : Type 0 where
  pub buffer : List ℕ
  pub size : ℕ
  pub answer : written_results (write_text t x p k digits buffer) ≡ (0, size)
  pub bytes : take size (write_text_after t x p k digits buffer) ≡ text

-- ---- reading what is written

-- an instant that so many digits can show
pub record Showable (t : Table) (s : Scale) (digits : ℕ) (x : ℤ) : Type 0 where
  pub reading : Reading
  pub reads : Reads t s reading x
  pub enough : reading.micro % 10 ^ (6 - digits) ≡ 0

-- y is the last of these that is not after x
pub record Latest (t : Table) (s : Scale) (digits : ℕ) (x y : ℤ) : Type 0 where
  pub showable : Showable t s digits y
  pub not_after : y ≤ℤ x
  pub last : (w : ℤ) → Showable t s digits w → w ≤ℤ x → w ≤ℤ y

-- in any picture, on any scale
pub record ReadsBack (t : Table) (k : ℕ) : Type 0 where
  -- what is written with six digits reads back as the instant
  pub six : (x : ℤ) (p : ℕ) (text : List ℕ) → WritesText t x p k 6 text → (z : Stamp) × AcceptedAs t k text x z
  -- with any number of digits as the last instant not after it that they can show
  pub cut : (x : ℤ) (p digits : ℕ) (text : List ℕ) → WritesText t x p k digits text → (y : ℤ) × (z : Stamp) × AcceptedAs t k text y z × Latest t (scale_of k) digits x y
  -- and a text that is read is what is written for the instant that it is read as
  pub given : (x : ℤ) (text : List ℕ) (z : Stamp) → AcceptedAs t k text x z → (p : ℕ) × (digits : ℕ) × WritesText t x p k digits text

-- ---- sorting what is written

-- the texts a and b that are written for the instants x and y, both in picture 0 or both in picture 1, and with one number of digits
pub record SortsAsText (t : Table) (k : ℕ) : Type 0 where
  -- with six digits they compare exactly as the instants do
  pub six : (p : ℕ) → p ≤ 1 → (x y : ℤ) (a b : List ℕ) → WritesText t x p k 6 a → WritesText t y p k 6 b → Compare a b x y
  -- with any number of digits the text of the instant that is not later is never the greater
  pub any : (p digits : ℕ) → p ≤ 1 → (x y : ℤ) (a b : List ℕ) → WritesText t x p k digits a → WritesText t y p k digits b → x ≤ℤ y → NotGreater a b

-- ---- reading and writing, for each table and scale number

pub record Promised (t : Table) (k : ℕ) : Type 0 where
  pub read : (text : List ℕ) → ReadExactly t k text
  pub written : (x : ℤ) (p digits : ℕ) (buffer : List ℕ) → WrittenExactly t k x p digits buffer
  pub back : ReadsBack t k
