-- What the desk answers to a line, and the table afterwards.
-- Assumes nothing.
use Rattle.std.specs.Prelude.{ℕ, Bool, cond, List, [], ◌∷◌, ◌++◌, leb, length, take, drop, Option, Some, None}
use Prim.Native.String.{String}
use Rattle.answer.specs.declared.Refusal.TheVariants.{Ask as ASK}
use Rattle.digits.specs.Bytes.{ascii}
use Rattle.digits.specs.Decimals.{decimal_of}
use Rattle.leap.specs.declared.Table.{Table}
use Rattle.phrases.specs.Parts.{begins_with, up_to, behind}
use Rattle.phrases.specs.Texts.{long_line, no_number, why_text, help}
use Rattle.phrases.specs.Replies.{Reply, answering, refusing_as, refusal}
use Rattle.stampwords.specs.Spans.{between_reply, pass_reply}
use Rattle.stampwords.specs.Moves.{show_reply, after_reply, add_reply}
use Rattle.tablewords.specs.Words.{entries_text}
use Rattle.tablewords.specs.Loading.{Load, leaving, load_block, load_kernel, load_cards, vouch}
use Rattle.wording.specs.declared.Request.{Request}
use Rattle.wording.specs.declared.Request.TheVariants.{Between, Show, After, Add, Pass, Entries, Why, Help, Nothing, Unknown}
use Rattle.wording.specs.Requests.{request_of}

-- ---- requests of two parts and more

abbrev pub ask_between : Table → List ℕ → Reply
ask_between t s = between_reply t (up_to (ascii " and ") s) (behind (ascii " and ") s)

abbrev pub ask_show : Table → List ℕ → List ℕ → Reply
ask_show t line s = show_reply t line (up_to (ascii " on ") s) (behind (ascii " on ") s)

abbrev pub ask_add : Table → List ℕ → List ℕ → Reply
ask_add t line s = add_reply t line (up_to (ascii " to ") s) (behind (ascii " to ") s)

abbrev pub ask_pass : Table → List ℕ → List ℕ → Reply
ask_pass t name stamps = pass_reply t name (up_to (ascii " to ") stamps) (behind (ascii " to ") stamps)

-- the name stands first
abbrev pub ask_named : Table → List ℕ → Reply
ask_named t s = ask_pass t (up_to (ascii " from ") s) (behind (ascii " from ") s)

abbrev pub why_answer : List ℕ → Option ℕ → Reply
why_answer given (Some n) = cond (leb 1 n) (answering (why_text n)) (refusing_as 8 no_number given)
why_answer given None = refusing_as 8 no_number given

-- the number of a refusal
unfoldable pub ask_why : List ℕ → Reply
ask_why given = why_answer given (decimal_of 15 given)

-- ---- a line

-- what stands behind a request's word
abbrev pub rest : String → List ℕ → List ℕ
rest word line = drop (length (ascii word)) line

-- that is asked about
abbrev pub reply_to : Table → List ℕ → Request → Reply
reply_to t line Between = ask_between t (rest "between " line)
reply_to t line Show = ask_show t line (rest "show " line)
reply_to t line After = after_reply t line (rest "after " line)
reply_to t line Add = ask_add t line (rest "add " line)
reply_to t line Pass = ask_named t (rest "pass " line)
reply_to t line Entries = answering (entries_text t)
reply_to t line Why = ask_why (rest "why " line)
reply_to t line Help = answering help
reply_to t line Nothing = answering []
reply_to t line Unknown = refusal ASK line

-- `file` is what the file that a line of a kernel or of cards names holds, if it can be read
unfoldable pub requested : Table → Bool → List ℕ → List ℕ → Load
requested t readable file line =
    cond (begins_with (ascii "table block ") line) (load_block (rest "table block " line))
    (cond (begins_with (ascii "table kernel ") line) (load_kernel (rest "table kernel " line) readable file)
    (cond (begins_with (ascii "table cards ") line) (load_cards (rest "table cards " line) readable file)
    (cond (begins_with (ascii "vouched ") line) (vouch t (rest "vouched " line))
    (leaving t (reply_to t line (request_of line))))))

-- a line of over 1,024 bytes is refused
unfoldable pub judged : Table → Bool → List ℕ → List ℕ → Load
judged t readable file line = cond (leb (length line) 1024) (requested t readable file line) (leaving t (refusing_as 8 long_line (take 40 line)))

-- an answer ends with a line feed
abbrev pub ended : Reply → Reply
ended r = record { text = r.text ++ (10 ∷ []); good = r.good }

unfoldable pub answered : Table → Bool → List ℕ → List ℕ → Load
answered t readable file line =
    record { reply = ended (judged t readable file line).reply; table = (judged t readable file line).table }
