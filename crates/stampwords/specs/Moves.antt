-- The instant of a stamp, or one before or after it, on a clock.
-- Assumes nothing.
use Rattle.std.specs.Prelude.{ℕ, Bool, ◌||◌, List, ◌++◌, ℤ, Option, Some, None, Result, Ok, Err}
use Rattle.answer.specs.Refusals.{refusing}
use Rattle.answer.specs.declared.Refusal.{Refusal}
use Rattle.stamp.specs.declared.Stamp.{Stamp}
use Rattle.leap.specs.declared.Table.{Table}
use Rattle.stamp.specs.Scales.{scale_of}
use Rattle.stamp.specs.Marks.{beyond_at}
use Rattle.text.specs.Text.{write_tests, text_at}
use Rattle.digits.specs.Bytes.{ascii}
use Rattle.phrases.specs.Texts.{no_seconds}
use Rattle.phrases.specs.Replies.{Reply, answering, refusing_as, refusal}
use Rattle.seconds.specs.declared.Move.{Move}
use Rattle.seconds.specs.declared.Move.TheVariants.{On}
use Rattle.seconds.specs.Seconds.{move_given, moved_by}
use Rattle.stampwords.specs.Stamps.{clock_name, clock_named, clock_of, stamp_read, beyond_text}

-- a clock's name, a blank and a text
abbrev pub clock_text : ℕ → List ℕ → Bool → List ℕ
clock_text k text beyond = clock_name k ++ (ascii " " ++ (text ++ beyond_text beyond))

-- the instant x on clock k in picture 0, or the line's refusal; `mark` is that of the stamp which was read
unfoldable pub shown_reply : Table → List ℕ → ℤ → ℕ → ℕ → Bool → Reply
shown_reply t line x k digits mark =
    refusing (λ why. refusal why line) (write_tests t x 0 k digits) (answering (clock_text k (text_at t x 0 k digits) (mark || beyond_at t (scale_of k) x)))

abbrev pub moved_answer : Table → List ℕ → List ℕ → Move → ℕ → ℕ → Result (ℤ × Stamp) Refusal → Bool → Reply
moved_answer t line given move k digits (Ok (x, z)) mark = shown_reply t line (moved_by move x) k digits mark
moved_answer t line given move k digits (Err why) mark = refusal why given

-- the instant of a given stamp, moved, on clock k
unfoldable pub moved_reply : Table → List ℕ → List ℕ → Move → ℕ → ℕ → Reply
moved_reply t line given move k digits = moved_answer t line given move k digits (stamp_read t given).answer (stamp_read t given).beyond

-- ---- the requests

abbrev pub show_reply : Table → List ℕ → List ℕ → List ℕ → Reply
show_reply t line given clock = moved_reply t line given (On 0) (clock_named clock) 6

-- the second after it: no digit is written
abbrev pub after_reply : Table → List ℕ → List ℕ → Reply
after_reply t line given = moved_reply t line given (On 1000000) (clock_of given) 0

abbrev pub add_answer : Table → List ℕ → List ℕ → List ℕ → Option Move → Reply
add_answer t line seconds given (Some move) = moved_reply t line given move (clock_of given) 6
add_answer t line seconds given None = refusing_as 8 no_seconds seconds

unfoldable pub add_reply : Table → List ℕ → List ℕ → List ℕ → Reply
add_reply t line seconds given = add_answer t line seconds given (move_given seconds)
