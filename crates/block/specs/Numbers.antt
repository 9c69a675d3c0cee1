-- A number of a block: groups of seven bits, lowest group first, one group to a byte; the top bit (128) is set on all but the last.
-- One to three groups, the shortest form only.
-- Assumes nothing.
use Rattle.std.specs.Prelude.{ℕ, zero, suc, ◌+◌, ◌/◌, ◌%◌, List, [], ◌∷◌, cond, ltb}

-- n, which is below 128 ^ k, in its groups
unfoldable pub groups_of : ℕ → ℕ → List ℕ
groups_of zero n = []
groups_of (suc k) n = cond (ltb n 128) (n ∷ []) ((128 + n % 128) ∷ groups_of k (n / 128))

-- the bytes of a number
abbrev pub number_bytes : ℕ → List ℕ
number_bytes n = groups_of 3 n
