-- Bytes: those of a plain text, some at an index, and text appended to a lent buffer, whole or not at all.
-- Assumes nothing.
use Prim.Native.Char.{code}
use Prim.Native.String.{String, [] as []ˢ, ◌∷◌ as ◌∷ˢ◌}
use Rattle.std.specs.Prelude.{ℕ, zero, suc, ◌+◌, min, ◌≤◌, ◌≡◌, Bool, true, false, cond, ◌&&◌, List, [], ◌∷◌, eqb, leb, length, take, drop, get_or}
use Rattle.laws.specs.Placed.{place}

-- the bytes of a plain text
abbrev pub ascii : String → List ℕ
ascii []ˢ = []
ascii (c ∷ˢ s) = code c ∷ ascii s

-- w bytes from index i on, 0 for one past the end
abbrev pub bytes_at : List ℕ → ℕ → ℕ → List ℕ
bytes_at s i zero = []
bytes_at s i (suc w) = get_or s i 0 ∷ bytes_at s (i + 1) w

abbrev pub same_bytes : List ℕ → List ℕ → Bool
same_bytes [] [] = true
same_bytes [] (b ∷ t) = false
same_bytes (a ∷ s) [] = false
same_bytes (a ∷ s) (b ∷ t) = eqb a b && same_bytes s t

-- ---- text appended

abbrev pub fits : List ℕ → ℕ → List ℕ → Bool
fits l i vs = leb (i + length vs) (length l)

-- where the next text goes
unfoldable pub end_of : List ℕ → ℕ → List ℕ → ℕ
end_of l i vs = cond (fits l i vs) (i + length vs) (min i (length l))

unfoldable pub appended : List ℕ → ℕ → List ℕ → List ℕ
appended l i vs = cond (fits l i vs) (place l i vs) l

-- n counts bytes at the start of a list. The second part follows from the first; the proof that Rattle makes of `&out[..n]` looks for both.
abbrev pub Counts : ℕ → List ℕ → Type 0
Counts n l = (n ≤ length l) × (n ≡ length (take n l))

-- a text appended: where the next goes, and the buffer. The third part follows, and spares callers that proof.
pub record Appended (l : List ℕ) (i : ℕ) (vs : List ℕ) (r : ℕ) (now : List ℕ) : Type 0 where
  pub end : r ≡ end_of l i vs
  pub text : now ≡ appended l i vs
  pub counts : Counts r now

-- a text stored from index i on, in a buffer with room for it. The last two follow from the others, and spare callers that proof.
pub record Placed (l : List ℕ) (i : ℕ) (vs : List ℕ) (r : ℕ) (now : List ℕ) : Type 0 where
  pub end : r ≡ i + length vs
  pub text : now ≡ place l i vs
  pub size : length now ≡ length l
  pub inside : r ≤ length l

-- 21 bytes that end with a text, with one before it for a sign
pub record EndsWith (bytes : List ℕ) (from : ℕ) (text : List ℕ) : Type 0 where
  pub behind : drop from bytes ≡ text
  pub whole : length bytes ≡ 21
  pub low : 1 ≤ from
  pub high : from ≤ 20
