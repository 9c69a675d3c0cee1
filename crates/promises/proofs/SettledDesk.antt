-- Two equations are in every contract, of the end and of the bytes; that the end stands within them follows.
-- Assumes nothing.
use mathlib.Core.Path.{◌≡◌, refl, sym, ap₂, subst}
use mathlib.Core.Bool.{Bool, true, false, cond}
use mathlib.Core.List.{List, [], ◌∷◌}
use Prim.Native.Nat.{ℕ, ◌+◌, ◌≤◌}
use native.Mathlib.Omega.{arith}
use lib.Dec.{eqb, leb}
use lib.ListN.{length, drop}
use Rattle.std.specs.Prelude.{Option, Some, None, IfSome}
use Rattle.seconds.specs.declared.Move.{Move}
use Rattle.phrases.specs.declared.Said.{Said}
use Rattle.phrases.specs.Puts.{Puts}
use Rattle.phrases.specs.Parts.{begins_with, up_to}
use Rattle.phrases.specs.Replies.{Reply, Says}
use Rattle.phrases.proofs.Puts.{puts}
use Rattle.digits.specs.Bytes.{ascii}
use Rattle.digits.specs.Decimals.{decimal_of, Within}
use Rattle.lines.specs.Words.{before}
use Rattle.seconds.specs.Seconds.{fraction_given, joined, micros_given, move_given, Short}
use Rattle.seconds.proofs.Seconds.{small, short_ahead, short_back}
use Rattle.leap.specs.declared.Table.{Table}
use Rattle.tablewords.specs.declared.Loaded.{Loaded}
use Rattle.tablewords.specs.Loading.{Load, Loads}
use Rattle.wording.specs.declared.Part.{Part}
use Rattle.wording.specs.Summary.{file_of}
use Rattle.laws.specs.Settles.{Settles}
use Rattle.laws.proofs.Settles.{equal, following}
use Rattle.laws.proofs.Cases.{pick}
use Rattle.promises.specs.SettledDesk.{put_at, said_at, loaded_at, SettledPhrases, SettledSeconds, SettledStampwords, SettledTablewords, SettledWording, SettledDesk}

-- a text that is put
put_alone : {l : List ℕ} {i : ℕ} {text : List ℕ} → Settles Unit (λ (a : ℕ × List ℕ). Puts l i text a.0 a.1) (put_at l i text)
put_alone {l} {i} {text} =
    record {
      asks_nothing = tt;
      allows_it_alone = λ a. (λ p. ap₂ (λ x y. (x, y)) p.end p.bytes, λ p. subst (λ (b : ℕ × List ℕ). Puts l i text b.0 b.1) (sym p) (puts l i text refl refl));
    }

abbrev said : ℕ → Bool → Said
said i b = record { at = i; good = b }

-- a reply that is put
said_alone : {l : List ℕ} {i : ℕ} {reply : Reply} → Settles Unit (λ (a : Said × List ℕ). Says l i reply a.0 a.1) (said_at l i reply)
said_alone {l} {i} {reply} =
    record {
      asks_nothing = tt;
      allows_it_alone = λ a. (
        λ p. ap₂ (λ x y. (x, y)) (ap₂ said p.puts.end p.good) p.puts.bytes,
        λ p.
            subst (λ (b : Said × List ℕ). Says l i reply b.0 b.1) (sym p) (record { puts = puts l i reply.text refl refl; good = refl }),
      );
    }

abbrev loaded : Said → Table → Loaded
loaded s t = record { said = s; table = t }

-- a reply that is put, with the table
loads_alone : {l : List ℕ} {i : ℕ} {load : Load} → Settles Unit (λ (a : Loaded × List ℕ). Loads l i load a.0 a.1) (loaded_at l i load)
loads_alone {l} {i} {load} =
    record {
      asks_nothing = tt;
      allows_it_alone = λ a. (
        λ p. ap₂ (λ x y. (x, y)) (ap₂ loaded (ap₂ said p.says.puts.end p.says.good) p.table) p.says.puts.bytes,
        λ p.
            subst (λ (b : Loaded × List ℕ). Loads l i load b.0 b.1) (sym p)
            (record { says = record { puts = puts l i load.reply.text refl refl; good = refl }; table = refl }),
      );
    }

-- the bytes before a word are no more than all
few_up_to : (word s : List ℕ) → length (up_to word s) ≤ length s
unfolding up_to
few_up_to word [] = omega arith
few_up_to word (b ∷ s) = go (begins_with word (b ∷ s)) (few_up_to word s)
  where
    go : (t : Bool) → length (up_to word s) ≤ length s → length (cond t [] (b ∷ up_to word s)) ≤ length (b ∷ s)
    go true h = omega arith
    go false h = omega arith

-- seconds as they are given are few
few_micros : (s : List ℕ) → Within 999999999999999999 (micros_given s)
unfolding micros_given
few_micros s = go (decimal_of 999999999999 (before 46 s)) (fraction_given (drop (length (before 46 s) + 1) s)) refl refl
  where
    go : (w f : Option ℕ) → w ≡ decimal_of 999999999999 (before 46 s) → f ≡ fraction_given (drop (length (before 46 s) + 1) s) → Within 999999999999999999 (joined w f)
    go (Some m) (Some n) p q = let h = small (before 46 s) (drop (length (before 46 s) + 1) s) p q refl refl in omega arith
    go (Some m) None p q = tt
    go None f p q = tt

abbrev MoveIsShort : Option Move → Type 0
MoveIsShort m = IfSome m Short

given_short : (s : List ℕ) → MoveIsShort (move_given s)
unfolding move_given
given_short [] = tt
given_short (b ∷ s) =
    pick MoveIsShort (eqb b 45) (λ e. short_back (micros_given s) (few_micros s))
    (λ e. pick MoveIsShort (eqb b 43) (λ f. short_ahead (micros_given s) (few_micros s)) (λ f. short_ahead (micros_given (b ∷ s)) (few_micros (b ∷ s))))

-- a part lies within its line
abbrev PartIn : List ℕ → Part → Type 0
PartIn line r = (r.from ≤ r.end) × (r.end ≤ length line)

file_inside : (line : List ℕ) → PartIn line (file_of line)
unfolding file_of
file_inside line =
    pick (PartIn line) (leb (length line) 1024)
    (λ e. pick (PartIn line) (begins_with (ascii "table kernel ") line) (λ f. (omega arith, omega arith))
    (λ f. pick (PartIn line) (begins_with (ascii "table cards ") line) (λ g. (omega arith, omega arith)) (λ g. (omega arith, omega arith))))
    (λ e. (omega arith, omega arith))

settled_phrases : SettledPhrases
settled_phrases =
    record {
      put = λ out at text k. put_alone;
      put_unsigned = λ out at n k. put_alone;
      put_signed = λ out at z k. put_alone;
      put_quoted = λ out at given k. put_alone;
      begins_with_lem = λ s word k. equal;
      up_to_lem = λ s word k. following (λ r. r ≤ length s.now) (few_up_to word.now s.now);
      refuse_as = λ out at number sentence given k. said_alone;
      sentence_lem = λ wrong k. equal;
      refuse_request = λ out at wrong given k. said_alone;
      refuse = λ out at why given k. said_alone;
      put_why = λ out at number k. put_alone;
      put_month = λ out at month k. put_alone;
      put_help = λ out at k. put_alone;
    }

settled_seconds : SettledSeconds
settled_seconds =
    record {
      put_seconds = λ out at z k. put_alone;
      move_given_lem = λ given k. following MoveIsShort (given_short given.now);
    }

settled_stampwords : SettledStampwords
settled_stampwords =
    record {
      say_between = λ t a b out at k. said_alone;
      say_pass = λ t name a b out at k. said_alone;
      say_show = λ t line given clock out at k. said_alone;
      say_after = λ t line given out at k. said_alone;
      say_add = λ t line by given out at k. said_alone;
    }

settled_tablewords : SettledTablewords
settled_tablewords =
    record {
      put_entries = λ t out at k. put_alone;
      put_words = λ t out at k. put_alone;
      load_block_lem = λ hex out at k. loads_alone;
      load_kernel_lem = λ given readable file out at k. loads_alone;
      load_cards_lem = λ given readable file out at k. loads_alone;
      vouch = λ t month out at k. loads_alone;
    }

settled_wording : SettledWording
settled_wording =
    record {
      answer = λ line t readable file out at k. loads_alone;
      file_of_lem = λ line k. following (PartIn line.now) (file_inside line.now);
      summary = λ count bad first out at k. put_alone;
    }

pub settled_desk : SettledDesk
settled_desk =
    record {
      phrases = settled_phrases;
      seconds = settled_seconds;
      stampwords = settled_stampwords;
      tablewords = settled_tablewords;
      wording = settled_wording;
    }
