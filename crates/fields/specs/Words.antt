-- The words of a line, and what each gives: a number, bytes or the bits of a double. A cursor stands at the blank before the next word.
-- Assumes nothing.
use Rattle.std.specs.Prelude.{ℕ, ◌+◌, ◌*◌, Bool, cond, List, [], ◌∷◌, eqb, ltb, pos, neg_ℤ, length, drop, get_or, Option, Some, None, ℤ}
use Rattle.digits.specs.Decimals.{decimal_of}
use Rattle.lines.specs.Words.{before}
use Rattle.lines.specs.Pairs.{nibble, hex_of}

abbrev pub blank_at : List ℕ → ℕ → Bool
blank_at s i = eqb (get_or s i 0) 32

-- the next word: after the blank at the cursor, up to the next one; empty where there is no blank
unfoldable pub word_at : List ℕ → ℕ → List ℕ
word_at s i = cond (blank_at s i) (before 32 (drop (i + 1) s)) []

-- and where it ends
unfoldable pub end_at : List ℕ → ℕ → ℕ
end_at s i = cond (blank_at s i) (i + 1 + length (before 32 (drop (i + 1) s))) 0

-- a word is empty, or begins with `-`, or does not
unfoldable pub dashed : {A : Type 0} → A → (List ℕ → A) → (List ℕ → A) → List ℕ → A
dashed none minus plain [] = none
dashed none minus plain (b ∷ s) = cond (eqb b 45) (minus s) (plain (b ∷ s))

-- ---- numbers

-- a decimal number up to most, and `-0` is 0
unfoldable pub natural_of : ℕ → List ℕ → Option ℕ
natural_of most s = dashed None (decimal_of 0) (decimal_of most) s

-- `-` in front where it is negative: from -(most + 1) to most
abbrev pub negative : Option ℕ → Option ℤ
negative (Some n) = Some (neg_ℤ (pos n))
negative None = None

abbrev pub positive : Option ℕ → Option ℤ
positive (Some n) = Some (pos n)
positive None = None

unfoldable pub integer_of : ℕ → List ℕ → Option ℤ
integer_of most s = dashed None (λ digits. negative (decimal_of (most + 1) digits)) (λ digits. positive (decimal_of most digits)) s

-- ---- hex

-- how many bytes a word of pairs gives, and `-` alone for no bytes
unfoldable pub hex_word : ℕ → List ℕ → Option ℕ
hex_word room s = dashed None (λ rest. cond (eqb (length rest) 0) (Some 0) None) (hex_of room) s

-- n and the hex digits after it
unfoldable pub nibbled : ℕ → List ℕ → Option ℕ
nibbled n [] = Some n
nibbled n (b ∷ s) = cond (ltb (nibble b) 16) (nibbled (n * 16 + nibble b) s) None

-- the bits of a double: sixteen digits
unfoldable pub pattern_of : List ℕ → Option ℕ
pattern_of s = cond (eqb (length s) 16) (nibbled 0 s) None
