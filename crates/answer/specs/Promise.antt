-- What is promised of every call that writes, whatever it asks before ROOM and whatever its bytes are.
-- Assumes nothing.
use Rattle.std.specs.Prelude.{◌≡◌, ◌↔◌, Bool, true, List, ℕ, ◌≤◌, length, take, drop}
use Rattle.answer.specs.declared.Refusal.{Refusal}
use Rattle.answer.specs.Refusals.{all_pass}
use Rattle.answer.specs.Buffers.{written, buffer_after, written_results}

-- what a success of n bytes leaves in the buffer: the bytes in front, past them its own, and its length
pub record Kept (bytes buffer after : List ℕ) (n : ℕ) : Type 0 where
  pub the_bytes : take n after ≡ bytes
  pub the_rest : drop n after ≡ drop n buffer
  pub the_length : length after ≡ length buffer

pub record Writer (tests : List (Bool × Refusal)) (bytes buffer : List ℕ) : Type 0 where
  -- it succeeds exactly when none of its tests fails and the bytes fit, and then reports how many they are
  pub succeeds : (n : ℕ) → (written_results (written tests bytes buffer) ≡ (0, n)) ↔ ((all_pass tests ≡ true) × (length bytes ≡ n) × (n ≤ length buffer))
  pub writes_the_bytes : (n : ℕ) → written_results (written tests bytes buffer) ≡ (0, n) → Kept bytes buffer (buffer_after tests bytes buffer) n
  -- a refusal leaves every byte as it was
  pub or_nothing : ((written_results (written tests bytes buffer)).0 ≡ 0 → ⊥) → buffer_after tests bytes buffer ≡ buffer
