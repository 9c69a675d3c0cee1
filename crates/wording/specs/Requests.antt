-- Which request a line is, but for those that change the table.
-- Assumes nothing.
use Rattle.std.specs.Prelude.{ℕ, cond, List, []}
use Rattle.digits.specs.Bytes.{ascii, same_bytes}
use Rattle.phrases.specs.Parts.{begins_with}
use Rattle.wording.specs.declared.Request.{Request}
use Rattle.wording.specs.declared.Request.TheVariants.{Between, Show, After, Add, Pass, Entries, Why, Help, Nothing, Unknown}

-- not about stamps
unfoldable pub plain_request : List ℕ → Request
plain_request line =
    cond (begins_with (ascii "why ") line) Why
    (cond (same_bytes line (ascii "table")) Entries
    (cond (same_bytes line (ascii "help")) Help
    (cond (same_bytes line []) Nothing Unknown)))

-- any of them
unfoldable pub request_of : List ℕ → Request
request_of line =
    cond (begins_with (ascii "between ") line) Between
    (cond (begins_with (ascii "show ") line) Show
    (cond (begins_with (ascii "after ") line) After
    (cond (begins_with (ascii "add ") line) Add
    (cond (begins_with (ascii "pass ") line) Pass
    (plain_request line)))))
