-- A text put into a buffer from a place on: as much of it as the buffer holds.
-- Assumes nothing.
use Rattle.std.specs.Prelude.{ℕ, ◌+◌, min, ◌≡◌, List, length, take}
use Rattle.laws.specs.Placed.{place}
use Rattle.digits.specs.Bytes.{Counts}

-- where the next text goes
unfoldable pub put_end : List ℕ → ℕ → List ℕ → ℕ
put_end l i text = min (i + length text) (length l)

-- the buffer afterwards: what does not fit is cut off
unfoldable pub put_into : List ℕ → ℕ → List ℕ → List ℕ
put_into l i text = take (length l) (place l i text)

-- The last part follows from the others, and spares callers that proof.
pub record Puts (l : List ℕ) (i : ℕ) (text : List ℕ) (r : ℕ) (now : List ℕ) : Type 0 where
  pub end : r ≡ put_end l i text
  pub bytes : now ≡ put_into l i text
  pub counts : Counts r now
