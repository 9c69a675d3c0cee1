-- A line cut out of chunks, piece by piece, into a buffer that keeps what fits.
-- Assumes nothing.
use Rattle.std.specs.Prelude.{ℕ, ◌+◌, ◌-◌, min, List, ltb, length, take, drop}
use Rattle.laws.specs.Placed.{place}
use Rattle.lines.specs.declared.Cut.{Cut}
use Rattle.lines.specs.Words.{before, past}

-- the bytes of a chunk from a place on, up to the next line end
abbrev pub piece_at : List ℕ → ℕ → List ℕ
piece_at chunk from = before 10 (drop from chunk)

-- past the piece and its line end, or at the end of the chunk; the bytes held, at most as many as the buffer has; whether the line ended
unfoldable pub cut_at : List ℕ → ℕ → ℕ → ℕ → Cut
cut_at chunk from size held = record {
  at = past 10 chunk from;
  len = min (held + length (piece_at chunk from)) size;
  ended = ltb (from + length (piece_at chunk from)) (length chunk);
}

-- the buffer with a piece behind the bytes held, as much of it as fits
unfoldable pub held_in : List ℕ → ℕ → List ℕ → List ℕ
held_in line held piece = place line held (take (length line - held) piece)
