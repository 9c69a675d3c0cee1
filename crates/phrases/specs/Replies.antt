-- What is answered to a line: its text, and whether it is good, which a refusal is not.
-- Assumes nothing.
use Rattle.std.specs.Prelude.{ℕ, ◌≡◌, Bool, true, false, List}
use Rattle.answer.specs.declared.Refusal.{Refusal}
use Rattle.answer.specs.Refusals.{number}
use Rattle.phrases.specs.declared.Said.{Said}
use Rattle.phrases.specs.Puts.{Puts}
use Rattle.phrases.specs.Texts.{refusal_text}

pub record Reply : Type 0 where
  pub text : List ℕ
  pub good : Bool

abbrev pub answering : List ℕ → Reply
answering t = record { text = t; good = true }

-- a refusal of number n with a sentence of its own
abbrev pub refusing_as : ℕ → ℕ → List ℕ → Reply
refusing_as n sentence given = record { text = refusal_text n sentence given; good = false }

-- and one with the sentence of its number
abbrev pub refusal : Refusal → List ℕ → Reply
refusal why given = refusing_as (number why) (number why) given

-- a reply put into a buffer
pub record Says (l : List ℕ) (i : ℕ) (reply : Reply) (said : Said) (now : List ℕ) : Type 0 where
  pub puts : Puts l i reply.text said.at now
  pub good : said.good ≡ reply.good
