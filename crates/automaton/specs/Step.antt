-- The reader as an automaton: where it stands in the grammar, a byte, and where it stands behind it. Nothing here need be believed: `grammar` proves that it
-- knows what a kernel is, both ways, and where a fault is placed. It may look like its loop because a place is the byte at which the loop stops.
-- Assumes nothing.
use Rattle.std.specs.Prelude.{ℕ, ◌+◌, Bool, true, false, cond, not, ◌&&◌, ◌||◌, ltb, eqb}
use Rattle.digits.specs.Decimals.{is_digit}
use Rattle.automaton.specs.declared.Mode.{Mode}
use Rattle.automaton.specs.declared.Mode.TheVariants.{Rest, Inside, Name, Ours, Pair, Date, Done, Dead}
use Rattle.automaton.specs.declared.Resting.{Resting}
use Rattle.automaton.specs.declared.Resting.TheVariants.{Text, Fresh, Gap, Closed, Run, Quoted}
use Rattle.automaton.specs.declared.Within.{Within}
use Rattle.automaton.specs.declared.Within.TheVariants.{Close, Other, Plus, Value, Quote, Open, Items, ItemRun, ItemQuote, ItemQuoted}
use Rattle.automaton.specs.declared.Pairing.{Pairing}
use Rattle.automaton.specs.declared.Pairing.TheVariants.{Named, OurValue, First, Pairs}
use Rattle.automaton.specs.declared.Counting.{Counting}
use Rattle.automaton.specs.declared.Counting.TheVariants.{Sign, Digits, ToDate}
use Rattle.automaton.specs.declared.Dating.{Dating}
use Rattle.automaton.specs.declared.Dating.TheVariants.{Year, Month, Day}
use Rattle.kinds.specs.Parts.{matched, grown, years_begin, grown_year, month_on, month_number}
use Rattle.kinds.specs.Kinds.{is_white, is_gap, is_between, is_run, is_name, upper, begin_data, begin_text, ours}

-- ---- text, and where a file may end

-- a line of text of which k bytes of `\begindata` are read, with nothing but white around them; 16 for any other line
abbrev pub in_text : ℕ → ℕ → Mode
in_text k b =
    cond (eqb b 10) (cond (eqb k 10) (Rest Fresh) (Rest (Text 0)))
    (cond (is_white b) (cond (eqb k 0 || eqb k 10) (Rest (Text k)) (Rest (Text 16))) (Rest (Text (matched begin_data k b))))

-- behind an assignment
abbrev pub in_gap : ℕ → ℕ → Mode
in_gap at b = cond (is_white b) (Rest Gap) (cond (eqb b 10) (Rest Fresh) (cond (is_name b) (Name (matched ours 0 b) at) (Dead at)))

-- on a line with nothing but white so far
abbrev pub in_fresh : ℕ → ℕ → Mode
in_fresh at b = cond (eqb b 92) (Inside (Close 1)) (cond (is_white b) (Rest Fresh) (in_gap at b))

-- behind all of `\begintext`
abbrev pub in_closed : ℕ → ℕ → Mode
in_closed at b = cond (eqb b 10) (Rest (Text 0)) (cond (is_white b) (Rest Closed) (Dead at))

-- in another's run
abbrev pub in_run : ℕ → ℕ → Mode
in_run at b = cond (is_run b) (Rest Run) (cond (is_white b) (Rest Gap) (cond (eqb b 10) (Rest Fresh) (Dead at)))

-- behind a quote that closes, or that the next one doubles
abbrev pub in_quoted : ℕ → ℕ → Mode
in_quoted at b = cond (eqb b 39) (Inside Quote) (in_gap at b)

abbrev pub in_rest : ℕ → Resting → ℕ → Mode
in_rest at (Text k) b = in_text k b
in_rest at Fresh b = in_fresh at b
in_rest at Gap b = in_gap at b
in_rest at Closed b = in_closed at b
in_rest at Run b = in_run at b
in_rest at Quoted b = in_quoted at b

-- ---- a name

-- behind another's name, and behind ours
abbrev pub in_other : ℕ → ℕ → Mode
in_other at b = cond (is_gap b) (Inside Other) (cond (eqb b 43) (Inside Plus) (cond (eqb b 61) (Inside Value) (Dead at)))

abbrev pub in_named : ℕ → ℕ → Mode
in_named at b = cond (is_gap b) (Ours Named) (cond (eqb b 61) (Ours OurValue) (Dead at))

-- in a name that begins at `start`: k bytes of ours are read, 16 where it is another; `have`: ours stood before
abbrev pub in_name : Bool → ℕ → ℕ → ℕ → ℕ → Mode
in_name have at k start b =
    cond (is_name b) (Name (matched ours k b) start)
    (cond (eqb k 15) (cond have (Dead start) (in_named at b)) (in_other at b))

-- ---- a `\begintext` line, and another's assignment

-- k bytes of `\begintext` are read
abbrev pub in_close : ℕ → ℕ → ℕ → Mode
in_close at k b =
    cond (eqb (matched begin_text k b) 16) (Dead at)
    (cond (eqb (matched begin_text k b) 10) (Rest Closed) (Inside (Close (matched begin_text k b))))

abbrev pub in_plus : ℕ → ℕ → Mode
in_plus at b = cond (eqb b 61) (Inside Value) (Dead at)

abbrev pub in_value : ℕ → ℕ → Mode
in_value at b =
    cond (is_gap b) (Inside Value)
    (cond (eqb b 40) (Inside Open) (cond (eqb b 39) (Inside Quote) (cond (is_run b) (Rest Run) (Dead at))))

abbrev pub in_quote : ℕ → ℕ → Mode
in_quote at b = cond (eqb b 39) (Rest Quoted) (cond (eqb b 10 || eqb b 92) (Dead at) (Inside Quote))

-- an item in parentheses is to begin
abbrev pub to_item : ℕ → ℕ → Mode
to_item at b = cond (eqb b 39) (Inside ItemQuote) (cond (is_run b) (Inside ItemRun) (Dead at))

-- before the first item, and behind an item and what parts it from the next
abbrev pub in_open : ℕ → ℕ → Mode
in_open at b = cond (is_between b) (Inside Open) (to_item at b)

abbrev pub in_items : ℕ → ℕ → Mode
in_items at b = cond (is_between b) (Inside Items) (cond (eqb b 41) (Rest Gap) (to_item at b))

-- right behind an item
abbrev pub behind_item : ℕ → ℕ → Mode
behind_item at b = cond (is_between b) (Inside Items) (cond (eqb b 41) (Rest Gap) (Dead at))

abbrev pub in_item_run : ℕ → ℕ → Mode
in_item_run at b = cond (is_run b) (Inside ItemRun) (behind_item at b)

abbrev pub in_item_quote : ℕ → ℕ → Mode
in_item_quote at b = cond (eqb b 39) (Inside ItemQuoted) (cond (eqb b 10 || eqb b 92) (Dead at) (Inside ItemQuote))

abbrev pub in_item_quoted : ℕ → ℕ → Mode
in_item_quoted at b = cond (eqb b 39) (Inside ItemQuote) (behind_item at b)

abbrev pub in_inside : ℕ → Within → ℕ → Mode
in_inside at (Close k) b = in_close at k b
in_inside at Other b = in_other at b
in_inside at Plus b = in_plus at b
in_inside at Value b = in_value at b
in_inside at Quote b = in_quote at b
in_inside at Open b = in_open at b
in_inside at Items b = in_items at b
in_inside at ItemRun b = in_item_run at b
in_inside at ItemQuote b = in_item_quote at b
in_inside at ItemQuoted b = in_item_quoted at b

-- ---- our number

abbrev pub in_sign : ℕ → Bool → ℕ → ℕ → Mode
in_sign at minus n b = cond (is_digit b) (Pair minus (grown n b) Digits) (Dead at)

abbrev pub in_digits : ℕ → Bool → ℕ → ℕ → Mode
in_digits at minus n b = cond (is_digit b) (Pair minus (grown n b) Digits) (cond (is_between b) (Pair minus n ToDate) (Dead at))

abbrev pub in_to_date : ℕ → Bool → ℕ → ℕ → Mode
in_to_date at minus n b = cond (is_between b) (Pair minus n ToDate) (cond (eqb b 64) (Date at minus n (Year 0 0)) (Dead at))

abbrev pub in_pair : ℕ → Bool → ℕ → Counting → ℕ → Mode
in_pair at minus n Sign b = in_sign at minus n b
in_pair at minus n Digits b = in_digits at minus n b
in_pair at minus n ToDate b = in_to_date at minus n b

-- ---- our assignment, before a number

abbrev pub in_our_value : ℕ → ℕ → Mode
in_our_value at b = cond (is_gap b) (Ours OurValue) (cond (eqb b 40) (Ours First) (Dead at))

-- a pair is to begin
abbrev pub to_pair : ℕ → ℕ → Mode
to_pair at b = cond (eqb b 43) (Pair false 0 Sign) (cond (eqb b 45) (Pair true 0 Sign) (in_sign at false 0 b))

-- before the first pair, and behind a pair and what parts it from the next
abbrev pub in_first : ℕ → ℕ → Mode
in_first at b = cond (is_between b) (Ours First) (to_pair at b)

abbrev pub in_pairs : ℕ → ℕ → Mode
in_pairs at b = cond (is_between b) (Ours Pairs) (cond (eqb b 41) (Rest Gap) (to_pair at b))

abbrev pub in_ours : ℕ → Pairing → ℕ → Mode
in_ours at Named b = in_named at b
in_ours at OurValue b = in_our_value at b
in_ours at First b = in_first at b
in_ours at Pairs b = in_pairs at b

-- ---- our date, which begins at `start`; a bad one is placed there

-- k digits of the year are read
abbrev pub in_year : ℕ → Bool → ℕ → ℕ → ℕ → ℕ → Mode
in_year start minus n k year b =
    cond (ltb k 4)
    (cond (is_digit b && years_begin k (grown_year year b)) (Date start minus n (Year (k + 1) (grown_year year b))) (Dead start))
    (cond (eqb b 45) (Date start minus n (Month year 0 0)) (Dead start))

-- k letters of its month are read, and `from` is a month that begins with them
abbrev pub in_month : ℕ → Bool → ℕ → ℕ → ℕ → ℕ → ℕ → Mode
in_month start minus n year k from b =
    cond (ltb k 3)
    (cond (ltb 0 (month_on from k (upper b) 12)) (Date start minus n (Month year (k + 1) (month_on from k (upper b) 12))) (Dead start))
    (cond (eqb b 45) (Date start minus n (Day (month_number year from) false)) (Dead start))

-- its day, perhaps behind a zero
abbrev pub in_day : ℕ → Bool → ℕ → ℕ → Bool → ℕ → Mode
in_day start minus n month nought b =
    cond (eqb b 49) (Done start minus n month)
    (cond (not nought && eqb b 48) (Date start minus n (Day month true)) (Dead start))

abbrev pub in_date : ℕ → Bool → ℕ → Dating → ℕ → Mode
in_date start minus n (Year k year) b = in_year start minus n k year b
in_date start minus n (Month year k from) b = in_month start minus n year k from b
in_date start minus n (Day month nought) b = in_day start minus n month nought b

-- right behind a date
abbrev pub in_done : ℕ → ℕ → ℕ → Mode
in_done at start b = cond (is_run b) (Dead start) (cond (is_between b) (Ours Pairs) (cond (eqb b 41) (Rest Gap) (Dead at)))

-- ---- one byte: where the reader stands behind the byte b at place `at`; `have`: a pair of ours stood before

unfoldable pub step : Bool → ℕ → Mode → ℕ → Mode
step have at (Rest r) b = in_rest at r b
step have at (Inside w) b = in_inside at w b
step have at (Name k start) b = in_name have at k start b
step have at (Ours o) b = in_ours at o b
step have at (Pair minus n c) b = in_pair at minus n c b
step have at (Date start minus n d) b = in_date start minus n d b
step have at (Done start minus n month) b = in_done at start b
step have at (Dead place) b = Dead place
