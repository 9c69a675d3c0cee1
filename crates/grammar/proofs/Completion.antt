-- Wherever the automaton stands and is not dead, bytes can follow that lead to a good file.
-- Assumes nothing.
use Prim.Native.Nat.{ℕ, zero, suc, ◌+◌, ◌-◌, ◌≤◌, ◌<◌}
use mathlib.Core.Path.{◌≡◌, refl, sym, ap, subst, ◌∙◌}
use mathlib.Core.Bool.{Bool, true, false, not}
use mathlib.Core.List.{List, [], ◌∷◌, ◌++◌, append_assoc}
use native.Mathlib.Omega.{arith}
use borrow.Author.Tests.{lt-ltb, le-ltb, le-leb, eq-eqb, ne_eqb, not-true}
use lib.Dec.{ltb, eqb, lit≤, lit<}
use lib.ListN.{length, get_or}
use Rattle.laws.specs.Tests.{all_below}
use Rattle.laws.proofs.Cases.{by_order, below}
use Rattle.digits.specs.Bytes.{ascii}
use Rattle.digits.specs.Decimals.{digit_value}
use Rattle.digits.specs.Months.{letter}
use Rattle.automaton.specs.declared.Mode.{Mode}
use Rattle.automaton.specs.declared.Mode.TheVariants.{Rest, Inside, Name, Ours, Pair, Date, Done, Dead}
use Rattle.automaton.specs.declared.Resting.{Resting}
use Rattle.automaton.specs.declared.Resting.TheVariants.{Text, Fresh, Gap, Closed, Run, Quoted}
use Rattle.automaton.specs.declared.Within.{Within}
use Rattle.automaton.specs.declared.Within.TheVariants.{Close, Other, Plus, Value, Quote, Open, Items, ItemRun, ItemQuote, ItemQuoted}
use Rattle.automaton.specs.declared.Pairing.{Pairing}
use Rattle.automaton.specs.declared.Pairing.TheVariants.{Named, OurValue, First, Pairs}
use Rattle.automaton.specs.declared.Counting.{Counting}
use Rattle.automaton.specs.declared.Counting.TheVariants.{Sign, Digits, ToDate}
use Rattle.automaton.specs.declared.Dating.{Dating}
use Rattle.automaton.specs.declared.Dating.TheVariants.{Year, Month, Day}
use Rattle.kinds.specs.Kinds.{upper, begin_data, begin_text, ours}
use Rattle.kinds.specs.Parts.{matched, years_begin, grown_year, month_on}
use Rattle.automaton.specs.Step.{step}
use Rattle.automaton.specs.Run as R
use Rattle.automaton.specs.Run.{may_end, noted, run, scan}
use Rattle.grammar.proofs.Good.{Good}
use Rattle.grammar.proofs.Running.{step_on, scan_append, scan_from}
use Rattle.grammar.proofs.Standing.{YearFine, DateFine, WithinFine, BehindOf, Anywhere, on_capital, behind}

-- bytes lead to the front of a line in data
pub record ToFresh (m : Mode) (ps : R.Pairs) (at : ℕ) : Type 0 where
  pub bytes : List ℕ
  pub fresh : (run m ps at bytes).mode ≡ Rest Fresh

-- with one byte more in front
on : {m m' : Mode} {ps : R.Pairs} {at : ℕ} (b : ℕ) → step (ltb 0 (length ps)) at m b ≡ m' → ToFresh m' (noted m' ps) (at + 1) → ToFresh m ps at
on {m} {ps = ps} {at = at} b e f = record { bytes = b ∷ f.bytes; fresh = ap (λ r. r.mode) (step_on m ps at b f.bytes e) ∙ f.fresh }

-- ---- text and words

abbrev to_data : List ℕ
to_data = 10 ∷ begin_data ++ 10 ∷ []

-- a byte that a word does not have
pub unmatched : (word : List ℕ) (c : ℕ) → all_below (λ i. not (eqb (get_or word i 0) c)) (length word) ≡ true → (k : ℕ) → matched word k c ≡ 16
unfolding matched
unmatched word c t k = by_order k (length word)
    (λ h. rw (not-true (eqb (get_or word k 0) c) (below (λ i. not (eqb (get_or word i 0) c)) (length word) t k h), lt-ltb k (length word) h))
    (λ h. rw (le-ltb k (length word) h))

-- a month goes on with its own letter
letter_fits : (from : ℕ) → from ≤ 12 → (k : ℕ) → k < 3 → ltb 0 (month_on from k (upper (letter from k)) 12) ≡ true
unfolding all_below month_on
letter_fits from h zero l = below (λ m. ltb 0 (month_on m 0 (upper (letter m 0)) 12)) 13 refl from (omega arith)
letter_fits from h (suc zero) l = below (λ m. ltb 0 (month_on m 1 (upper (letter m 1)) 12)) 13 refl from (omega arith)
letter_fits from h (suc (suc zero)) l = below (λ m. ltb 0 (month_on m 2 (upper (letter m 2)) 12)) 13 refl from (omega arith)
letter_fits from h (suc (suc (suc k))) l = absurd (omega arith)

module _ (ps : R.Pairs) where
  from_text : (k at : ℕ) → ToFresh (Rest (Text k)) ps at
  unfolding run step matched
  from_text k at = go (eqb k 10) refl
    where
      go : (b : Bool) → eqb k 10 ≡ b → ToFresh (Rest (Text k)) ps at
      go true e = record { bytes = 10 ∷ []; fresh = rw e }
      go false e = record { bytes = to_data; fresh = rw e }

  -- j more bytes before the last
  from_close : (j k at : ℕ) → j + k ≡ 9 → ToFresh (Inside (Close k)) ps at
  unfolding run step matched
  from_close zero k at e = let z : k ≡ 9 = omega arith in subst (λ i. ToFresh (Inside (Close i)) ps at) (sym z) (record { bytes = 116 ∷ to_data; fresh = refl })
  from_close (suc j) k at e = on (get_or begin_text k 0) (next (omega arith)) (from_close j (k + 1) (at + 1) (omega arith))
    where
      next : k < 9 → step (ltb 0 (length ps)) at (Inside (Close k)) (get_or begin_text k 0) ≡ Inside (Close (k + 1))
      next h = rw (lt-ltb k 10 (omega arith), eq-eqb (get_or begin_text k 0) (get_or begin_text k 0) refl, ne_eqb (k + 1) 16 (λ q. omega arith), ne_eqb (k + 1) 10 (λ q. omega arith))

  from_rest : (r : Resting) (at : ℕ) → ToFresh (Rest r) ps at
  unfolding run step
  from_rest (Text k) at = from_text k at
  from_rest Fresh at = record { bytes = []; fresh = refl }
  from_rest Gap at = record { bytes = 10 ∷ []; fresh = refl }
  from_rest Closed at = on 10 refl (from_text 0 (at + 1))
  from_rest Run at = record { bytes = 10 ∷ []; fresh = refl }
  from_rest Quoted at = record { bytes = 10 ∷ []; fresh = refl }

  from_name : (k start at : ℕ) → ToFresh (Name k start) ps at
  unfolding run step all_below
  from_name k start at = record { bytes = ascii "x=1\n"; fresh = rw (unmatched ours 120 refl k) }

  from_inside : (w : Within) (at : ℕ) → WithinFine w → ToFresh (Inside w) ps at
  unfolding run step
  from_inside (Close k) at h = from_close (9 - k) k at (omega arith)
  from_inside Other at h = record { bytes = ascii "=1\n"; fresh = refl }
  from_inside Plus at h = record { bytes = ascii "=1\n"; fresh = refl }
  from_inside Value at h = record { bytes = ascii "1\n"; fresh = refl }
  from_inside Quote at h = record { bytes = ascii "'\n"; fresh = refl }
  from_inside Open at h = record { bytes = ascii "1)\n"; fresh = refl }
  from_inside Items at h = record { bytes = ascii ")\n"; fresh = refl }
  from_inside ItemRun at h = record { bytes = ascii ")\n"; fresh = refl }
  from_inside ItemQuote at h = record { bytes = ascii "')\n"; fresh = refl }
  from_inside ItemQuoted at h = record { bytes = ascii ")\n"; fresh = refl }

  -- ---- our assignment

  from_ours : (o : Pairing) (at : ℕ) → ToFresh (Ours o) ps at
  unfolding run step month_on digit_value
  from_ours Named at = record { bytes = ascii "=(1,@1972-JAN-1)\n"; fresh = refl }
  from_ours OurValue at = record { bytes = ascii "(1,@1972-JAN-1)\n"; fresh = refl }
  from_ours First at = record { bytes = ascii "1,@1972-JAN-1)\n"; fresh = refl }
  from_ours Pairs at = record { bytes = ascii ")\n"; fresh = refl }

  from_pair : (minus : Bool) (n : ℕ) (c : Counting) (at : ℕ) → ToFresh (Pair minus n c) ps at
  unfolding run step month_on digit_value
  from_pair minus n Sign at = record { bytes = ascii "1,@1972-JAN-1)\n"; fresh = refl }
  from_pair minus n Digits at = record { bytes = ascii ",@1972-JAN-1)\n"; fresh = refl }
  from_pair minus n ToDate at = record { bytes = ascii "@1972-JAN-1)\n"; fresh = refl }

  module _ (start : ℕ) (minus : Bool) (n : ℕ) where
    from_month : (j year k from at : ℕ) → j + k ≡ 3 → from ≤ 12 → ToFresh (Date start minus n (Month year k from)) ps at
    unfolding run step
    from_month zero year k from at e h = let z : k ≡ 3 = omega arith in subst (λ i. ToFresh (Date start minus n (Month year i from)) ps at) (sym z) (record { bytes = ascii "-1)\n"; fresh = refl })
    from_month (suc j) year k from at e h = on (letter from k) next (from_month j year (k + 1) (month_on from k (upper (letter from k)) 12) (at + 1) (omega arith) (on_capital from k (upper (letter from k)) (letter_fits from h k (omega arith))).0)
      where
        next : step (ltb 0 (length ps)) at (Date start minus n (Month year k from)) (letter from k) ≡ Date start minus n (Month year (k + 1) (month_on from k (upper (letter from k)) 12))
        next = let l : k < 3 = omega arith in rw (lt-ltb k 3 l, letter_fits from h k l)

    -- a nine more
    nine : (k year at : ℕ) → k < 4 → years_begin k (grown_year year 57) ≡ true → ToFresh (Date start minus n (Year (k + 1) (grown_year year 57))) ps (at + 1) → ToFresh (Date start minus n (Year k year)) ps at
    unfolding step
    nine k year at h e f = on 57 next f
      where
        next : step (ltb 0 (length ps)) at (Date start minus n (Year k year)) 57 ≡ Date start minus n (Year (k + 1) (grown_year year 57))
        next = rw (lt-ltb k 4 h, e)

    year_4 : (k year at : ℕ) → 4 ≤ k → ToFresh (Date start minus n (Year k year)) ps at
    unfolding step
    year_4 k year at h = on 45 next (from_month 3 year 0 0 (at + 1) refl (lit≤ tt))
      where
        next : step (ltb 0 (length ps)) at (Date start minus n (Year k year)) 45 ≡ Date start minus n (Month year 0 0)
        next = rw (le-ltb k 4 h)

    year_3 : (year at : ℕ) → (197 ≤ year) × (year ≤ 999) → ToFresh (Date start minus n (Year 3 year)) ps at
    unfolding digit_value
    year_3 year at h = nine 3 year at (lit< tt) (le-leb 1972 (grown_year year 57) (omega arith)) (year_4 4 (grown_year year 57) (at + 1) (lit≤ tt))

    year_2 : (year at : ℕ) → (19 ≤ year) × (year ≤ 99) → ToFresh (Date start minus n (Year 2 year)) ps at
    unfolding digit_value
    year_2 year at h = nine 2 year at (lit< tt) (le-leb 197 (grown_year year 57) (omega arith)) (year_3 (grown_year year 57) (at + 1) (omega arith))

    year_1 : (year at : ℕ) → (1 ≤ year) × (year ≤ 9) → ToFresh (Date start minus n (Year 1 year)) ps at
    unfolding digit_value
    year_1 year at h = nine 1 year at (lit< tt) (le-leb 19 (grown_year year 57) (omega arith)) (year_2 (grown_year year 57) (at + 1) (omega arith))

    from_year : (k year at : ℕ) → YearFine k year → ToFresh (Date start minus n (Year k year)) ps at
    unfolding digit_value
    from_year zero year at h = nine 0 year at (lit< tt) (le-leb 1 (grown_year year 57) (omega arith)) (year_1 (grown_year year 57) (at + 1) (omega arith))
    from_year (suc zero) year at h = year_1 year at h
    from_year (suc (suc zero)) year at h = year_2 year at h
    from_year (suc (suc (suc zero))) year at h = year_3 year at h
    from_year (suc (suc (suc (suc k)))) year at h = year_4 (suc (suc (suc (suc k)))) year at (omega arith)

    from_date : (d : Dating) (at : ℕ) → DateFine d → ToFresh (Date start minus n d) ps at
    unfolding run step
    from_date (Year k year) at h = from_year k year at h
    from_date (Month year k from) at h = by_order 3 k (λ l. past l) (λ l. from_month (3 - k) year k from at (omega arith) h)
      where
        past : 3 < k → ToFresh (Date start minus n (Month year k from)) ps at
        past l = record { bytes = ascii "-1)\n"; fresh = rw (le-ltb k 3 (omega arith)) }
    from_date (Day month nought) at h = record { bytes = ascii "1)\n"; fresh = refl }

  pub to_fresh : (m : Mode) (s : List ℕ) (at : ℕ) → BehindOf Anywhere s m → ((p : ℕ) → m ≡ Dead p → ⊥) → ToFresh m ps at
  unfolding run step
  to_fresh (Rest r) s at h live = from_rest r at
  to_fresh (Inside w) s at h live = from_inside w at h
  to_fresh (Name k start) s at h live = from_name k start at
  to_fresh (Ours o) s at h live = from_ours o at
  to_fresh (Pair minus n c) s at h live = from_pair minus n c at
  to_fresh (Date start minus n d) s at h live = from_date start minus n d at h.0
  to_fresh (Done start minus n month) s at h live = record { bytes = ascii ")\n"; fresh = refl }
  to_fresh (Dead place) s at h live = absurd (live place refl)

-- ---- our assignment, where none stood

abbrev one_assignment : List ℕ
one_assignment = ours ++ ascii "=(1,@1972-JAN-1)"

record Reads (r : R.Stand) : Type 0 where
  all : may_end r.mode ≡ true
  some : 0 < length r.pairs

ours_reads : (ps : R.Pairs) (at : ℕ) → length ps ≡ 0 → Reads (run (Rest Fresh) ps at one_assignment)
unfolding run step matched month_on digit_value
ours_reads [] at e = record { all = refl; some = lit< tt }
ours_reads (p ∷ ps) at e = absurd (omega arith)

module _ (s : List ℕ) (live : (p : ℕ) → (scan s).mode ≡ Dead p → ⊥) where
  led : ToFresh (scan s).mode (scan s).pairs (length s)
  led = to_fresh (scan s).pairs (scan s).mode s (length s) (behind s).known live

  abbrev w : List ℕ
  w = s ++ led.bytes

  at_fresh : (scan w).mode ≡ Rest Fresh
  at_fresh = ap (λ r. r.mode) (scan_append s led.bytes) ∙ led.fresh

  -- some good file begins with s
  pub live_good : (rest : List ℕ) × Good (s ++ rest)
  live_good = by_order 0 (length (scan w).pairs)
      (λ h. (led.bytes, record { may_end_lem = ap may_end at_fresh; some_pair = h }))
      (λ h. (led.bytes ++ one_assignment, subst Good (append_assoc s led.bytes one_assignment) (more (ours_reads (scan w).pairs (length w) (omega arith)))))
    where
      more : Reads (run (Rest Fresh) (scan w).pairs (length w) one_assignment) → Good (w ++ one_assignment)
      more r =
          let there = scan_from w one_assignment at_fresh in
          record { may_end_lem = ap (λ x. may_end x.mode) there ∙ r.all; some_pair = subst (λ x. 0 < length x.pairs) (sym there) r.some }
