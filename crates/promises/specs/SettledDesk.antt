-- What a desk's answers are made of, each function settled by its own contract: texts put one behind another, the parts of a line, the refusals in words, the answers about stamps and tables, and the answer to a line.
-- `put_end` is where the next text goes, and `put_into` the buffer afterwards, as much of the text in it as it holds.
-- Assumes nothing.
use Rattle.std.specs.Prelude.{Bool, List, ℕ, ℤ, length}
use Rattle.answer.specs.declared.Refusal.{Refusal}
use Rattle.answer.specs.declared.Refusal.TheVariants.{Ask}
use Rattle.answer.specs.Refusals.{number}
use Rattle.digits.specs.Decimals.{decimal_text, signed_text}
use Rattle.lines.specs.Words.{line_of}
use Rattle.phrases.specs.declared.Said.{Said}
use Rattle.phrases.specs.declared.Wrong.{Wrong}
use Rattle.phrases.specs.Puts.{put_end, put_into}
use Rattle.phrases.specs.Parts.{begins_with, up_to, quoted}
use Rattle.phrases.specs.Replies.{Reply, refusing_as, refusal}
use Rattle.phrases.specs.Texts.{months, help, sentence, why_text}
use Rattle.leap.specs.declared.Table.{Table}
use Rattle.seconds.specs.Seconds.{seconds_text, move_given}
use Rattle.stampwords.specs.Spans.{between_reply, pass_reply}
use Rattle.stampwords.specs.Moves.{show_reply, after_reply, add_reply}
use Rattle.tablewords.specs.declared.Loaded.{Loaded}
use Rattle.tablewords.specs.Words.{entries_text, table_words}
use Rattle.tablewords.specs.Loading.{Load, load_block, load_kernel, load_cards, vouch as vouch_for}
use Rattle.wording.specs.Wording.{answered}
use Rattle.wording.specs.Summary.{summary_text, file_of}
use Rattle.laws.specs.Settles.{◌&◌, Lent, Shown, ◌becomes◌, Returns, Leaves}
use Rattle.phrases.proofs.put.Reads as phrases_put
use Rattle.phrases.proofs.put_unsigned.Reads as phrases_put_unsigned
use Rattle.phrases.proofs.put_signed.Reads as phrases_put_signed
use Rattle.phrases.proofs.put_quoted.Reads as phrases_put_quoted
use Rattle.phrases.proofs.begins_with.Reads as phrases_begins_with
use Rattle.phrases.proofs.up_to.Reads as phrases_up_to
use Rattle.phrases.proofs.refuse_as.Reads as phrases_refuse_as
use Rattle.phrases.proofs.refuse.Reads as phrases_refuse
use Rattle.phrases.proofs.refuse_request.Reads as phrases_refuse_request
use Rattle.phrases.proofs.U32FromWrong.from.Reads as phrases_sentence
use Rattle.phrases.proofs.put_why.Reads as phrases_put_why
use Rattle.phrases.proofs.put_month.Reads as phrases_put_month
use Rattle.phrases.proofs.put_help.Reads as phrases_put_help
use Rattle.seconds.proofs.put_seconds.Reads as seconds_put_seconds
use Rattle.seconds.proofs.move_given.Reads as seconds_move_given
use Rattle.stampwords.proofs.say_between.Reads as stampwords_say_between
use Rattle.stampwords.proofs.say_pass.Reads as stampwords_say_pass
use Rattle.stampwords.proofs.say_show.Reads as stampwords_say_show
use Rattle.stampwords.proofs.say_after.Reads as stampwords_say_after
use Rattle.stampwords.proofs.say_add.Reads as stampwords_say_add
use Rattle.tablewords.proofs.put_entries.Reads as tablewords_put_entries
use Rattle.tablewords.proofs.put_words.Reads as tablewords_put_words
use Rattle.tablewords.proofs.load_block.Reads as tablewords_load_block
use Rattle.tablewords.proofs.load_kernel.Reads as tablewords_load_kernel
use Rattle.tablewords.proofs.load_cards.Reads as tablewords_load_cards
use Rattle.tablewords.proofs.vouch.Reads as tablewords_vouch
use Rattle.wording.proofs.answer.Reads as wording_answer
use Rattle.wording.proofs.file_of.Reads as wording_file_of
use Rattle.wording.proofs.summary.Reads as wording_summary

-- a text put at a place of a buffer: where the next one goes, and the buffer
abbrev pub put_at : List ℕ → ℕ → List ℕ → ℕ × List ℕ
put_at l i text = (put_end l i text, put_into l i text)

-- and a reply, with whether it is good
abbrev pub said_at : List ℕ → ℕ → Reply → Said × List ℕ
said_at l i reply = (record { at = put_end l i reply.text; good = reply.good }, put_into l i reply.text)

-- and one with the table from then on
abbrev pub loaded_at : List ℕ → ℕ → Load → Loaded × List ℕ
loaded_at l i load = let p = said_at l i load.reply in (record { said = p.0; table = load.table }, p.1)

pub record SettledPhrases : Type 0 where
  pub put : (out : Lent (List ℕ)) (at : ℕ) (text : Shown (List ℕ)) →
      Leaves phrases_put.Pre phrases_put.Post (out & at & text & tt) (λ after. out becomes after & at & text & tt) (put_at out.now at text.now)
  pub put_unsigned : (out : Lent (List ℕ)) (at n : ℕ) →
      Leaves phrases_put_unsigned.Pre phrases_put_unsigned.Post (out & at & n & tt) (λ after. out becomes after & at & n & tt) (put_at out.now at (decimal_text n))
  pub put_signed : (out : Lent (List ℕ)) (at : ℕ) (z : ℤ) →
      Leaves phrases_put_signed.Pre phrases_put_signed.Post (out & at & z & tt) (λ after. out becomes after & at & z & tt) (put_at out.now at (signed_text z))
  pub put_quoted : (out : Lent (List ℕ)) (at : ℕ) (given : Shown (List ℕ)) →
      Leaves phrases_put_quoted.Pre phrases_put_quoted.Post (out & at & given & tt) (λ after. out becomes after & at & given & tt) (put_at out.now at (quoted given.now))
  pub begins_with_lem : (s word : Shown (List ℕ)) → Returns phrases_begins_with.Pre phrases_begins_with.Post (s & word & tt) (begins_with word.now s.now)
  pub up_to_lem : (s word : Shown (List ℕ)) → Returns phrases_up_to.Pre phrases_up_to.Post (s & word & tt) (length (up_to word.now s.now))
  pub refuse_as : (out : Lent (List ℕ)) (at number sentence : ℕ) (given : Shown (List ℕ)) →
      Leaves phrases_refuse_as.Pre phrases_refuse_as.Post (out & at & number & sentence & given & tt) (λ after. out becomes after & at & number & sentence & given & tt)
      (said_at out.now at (refusing_as number sentence given.now))
  pub sentence_lem : (wrong : Wrong) → Returns phrases_sentence.Pre phrases_sentence.Post (wrong & tt) (sentence wrong)
  pub refuse_request : (out : Lent (List ℕ)) (at : ℕ) (wrong : Wrong) (given : Shown (List ℕ)) →
      Leaves phrases_refuse_request.Pre phrases_refuse_request.Post (out & at & wrong & given & tt) (λ after. out becomes after & at & wrong & given & tt)
      (said_at out.now at (refusing_as (number Ask) (sentence wrong) given.now))
  pub refuse : (out : Lent (List ℕ)) (at : ℕ) (why : Refusal) (given : Shown (List ℕ)) →
      Leaves phrases_refuse.Pre phrases_refuse.Post (out & at & why & given & tt) (λ after. out becomes after & at & why & given & tt) (said_at out.now at (refusal why given.now))
  pub put_why : (out : Lent (List ℕ)) (at number : ℕ) →
      Leaves phrases_put_why.Pre phrases_put_why.Post (out & at & number & tt) (λ after. out becomes after & at & number & tt) (put_at out.now at (why_text number))
  pub put_month : (out : Lent (List ℕ)) (at month : ℕ) →
      Leaves phrases_put_month.Pre phrases_put_month.Post (out & at & month & tt) (λ after. out becomes after & at & month & tt) (put_at out.now at (line_of months month))
  pub put_help : (out : Lent (List ℕ)) (at : ℕ) →
      Leaves phrases_put_help.Pre phrases_put_help.Post (out & at & tt) (λ after. out becomes after & at & tt) (put_at out.now at help)

pub record SettledSeconds : Type 0 where
  pub put_seconds : (out : Lent (List ℕ)) (at : ℕ) (z : ℤ) →
      Leaves seconds_put_seconds.Pre seconds_put_seconds.Post (out & at & z & tt) (λ after. out becomes after & at & z & tt) (put_at out.now at (seconds_text z))
  pub move_given_lem : (given : Shown (List ℕ)) → Returns seconds_move_given.Pre seconds_move_given.Post (given & tt) (move_given given.now)

-- the line, or the part of it, that is at fault is quoted
pub record SettledStampwords : Type 0 where
  pub say_between : (t : Shown Table) (a b : Shown (List ℕ)) (out : Lent (List ℕ)) (at : ℕ) →
      Leaves stampwords_say_between.Pre stampwords_say_between.Post (t & a & b & out & at & tt) (λ after. t & a & b & out becomes after & at & tt)
      (said_at out.now at (between_reply t.now a.now b.now))
  pub say_pass : (t : Shown Table) (name a b : Shown (List ℕ)) (out : Lent (List ℕ)) (at : ℕ) →
      Leaves stampwords_say_pass.Pre stampwords_say_pass.Post (t & name & a & b & out & at & tt) (λ after. t & name & a & b & out becomes after & at & tt)
      (said_at out.now at (pass_reply t.now name.now a.now b.now))
  pub say_show : (t : Shown Table) (line given clock : Shown (List ℕ)) (out : Lent (List ℕ)) (at : ℕ) →
      Leaves stampwords_say_show.Pre stampwords_say_show.Post (t & line & given & clock & out & at & tt) (λ after. t & line & given & clock & out becomes after & at & tt)
      (said_at out.now at (show_reply t.now line.now given.now clock.now))
  pub say_after : (t : Shown Table) (line given : Shown (List ℕ)) (out : Lent (List ℕ)) (at : ℕ) →
      Leaves stampwords_say_after.Pre stampwords_say_after.Post (t & line & given & out & at & tt) (λ after. t & line & given & out becomes after & at & tt)
      (said_at out.now at (after_reply t.now line.now given.now))
  pub say_add : (t : Shown Table) (line by given : Shown (List ℕ)) (out : Lent (List ℕ)) (at : ℕ) →
      Leaves stampwords_say_add.Pre stampwords_say_add.Post (t & line & by & given & out & at & tt) (λ after. t & line & by & given & out becomes after & at & tt)
      (said_at out.now at (add_reply t.now line.now by.now given.now))

-- a refused block, kernel or file of cards leaves no table, a refused month the table as it was
pub record SettledTablewords : Type 0 where
  pub put_entries : (t : Shown Table) (out : Lent (List ℕ)) (at : ℕ) →
      Leaves tablewords_put_entries.Pre tablewords_put_entries.Post (t & out & at & tt) (λ after. t & out becomes after & at & tt) (put_at out.now at (entries_text t.now))
  pub put_words : (t : Shown Table) (out : Lent (List ℕ)) (at : ℕ) →
      Leaves tablewords_put_words.Pre tablewords_put_words.Post (t & out & at & tt) (λ after. t & out becomes after & at & tt) (put_at out.now at (table_words t.now))
  pub load_block_lem : (hex : Shown (List ℕ)) (out : Lent (List ℕ)) (at : ℕ) →
      Leaves tablewords_load_block.Pre tablewords_load_block.Post (hex & out & at & tt) (λ after. hex & out becomes after & at & tt)
      (loaded_at out.now at (load_block hex.now))
  pub load_kernel_lem : (given : Shown (List ℕ)) (readable : Bool) (file : Shown (List ℕ)) (out : Lent (List ℕ)) (at : ℕ) →
      Leaves tablewords_load_kernel.Pre tablewords_load_kernel.Post (given & readable & file & out & at & tt) (λ after. given & readable & file & out becomes after & at & tt)
      (loaded_at out.now at (load_kernel given.now readable file.now))
  pub load_cards_lem : (given : Shown (List ℕ)) (readable : Bool) (file : Shown (List ℕ)) (out : Lent (List ℕ)) (at : ℕ) →
      Leaves tablewords_load_cards.Pre tablewords_load_cards.Post (given & readable & file & out & at & tt) (λ after. given & readable & file & out becomes after & at & tt)
      (loaded_at out.now at (load_cards given.now readable file.now))
  pub vouch : (t : Shown Table) (month : Shown (List ℕ)) (out : Lent (List ℕ)) (at : ℕ) →
      Leaves tablewords_vouch.Pre tablewords_vouch.Post (t & month & out & at & tt) (λ after. t & month & out becomes after & at & tt)
      (loaded_at out.now at (vouch_for t.now month.now))

-- the answer to a line with the table from then on, the part of a line that names a file, and the last line
pub record SettledWording : Type 0 where
  pub answer : (line : Shown (List ℕ)) (t : Shown Table) (readable : Bool) (file : Shown (List ℕ)) (out : Lent (List ℕ)) (at : ℕ) →
      Leaves wording_answer.Pre wording_answer.Post (line & t & readable & file & out & at & tt) (λ after. line & t & readable & file & out becomes after & at & tt)
      (loaded_at out.now at (answered t.now readable file.now line.now))
  pub file_of_lem : (line : Shown (List ℕ)) → Returns wording_file_of.Pre wording_file_of.Post (line & tt) (file_of line.now)
  pub summary : (count bad : ℕ) (first : Shown (List ℕ)) (out : Lent (List ℕ)) (at : ℕ) →
      Leaves wording_summary.Pre wording_summary.Post (count & bad & first & out & at & tt) (λ after. count & bad & first & out becomes after & at & tt)
      (put_at out.now at (summary_text count bad first.now))

pub record SettledDesk : Type 0 where
  pub phrases : SettledPhrases
  pub seconds : SettledSeconds
  pub stampwords : SettledStampwords
  pub tablewords : SettledTablewords
  pub wording : SettledWording
