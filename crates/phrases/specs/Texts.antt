-- The refusals in words, one line for each: line 0 stands for none, lines 1 to 15 for the refusals of these numbers, and the later ones for what only a desk's request can get wrong.
-- Assumes nothing.
use Prim.Native.String.{String}
use Rattle.std.specs.Prelude.{ℕ, List, [], ◌∷◌, ◌++◌}
use Rattle.digits.specs.Bytes.{ascii}
use Rattle.digits.specs.Decimals.{decimal_text}
use Rattle.lines.specs.Words.{line_of}
use Rattle.phrases.specs.declared.Wrong.{Wrong}
use Rattle.phrases.specs.declared.Wrong.TheVariants.{LongLine, NoSeconds, NoName, NoMonth, NoNumber, NoHex, NoFile, LongFile}
use Rattle.phrases.specs.Parts.{quoted}

-- a line and those behind it
infixr 5 ◌line◌
abbrev ◌line◌ : String → List ℕ → List ℕ
s line rest = ascii s ++ (10 ∷ rest)

abbrev pub names : List ℕ
names =
    "-" line "ROOM" line "SHAPE" line "YEAR" line "DATE" line "CLOCK" line "NOSECOND" line "RANGE" line "ASK" line "CUT"
    line "GROUPS" line "TABLE" line "TAIL" line "NUMBER" line "KERNEL" line "CARD" line []

-- what is wrong
abbrev pub sentences : List ℕ
sentences =
    "-"
    line "The result is longer than the buffer that was lent."
    line "A stamp looks like 1987-04-12T16:31:12 or 1987-102T16:31:12 or 1986 APR 12 16:31:09 and one to six digits may follow a point. Not read are a blank for the T; a Z or a blank or a carriage return at the end; a stamp without seconds; Dec for DEC."
    line "The year is before 1972 or past 9999."
    line "The month or the day is zero or too large."
    line "The hour is over 23 or the minute over 59 or the second over 60; and TAI and TDT and GPS have no second 60."
    line "UTC has no such second under the table in force."
    line "What is asked for lies before 1972 or past 9999 on its clock."
    line "This is no request or a stamp without its clock. The clocks are UTC and TAI and TDT and GPS; help lists the requests."
    line "The block ends too soon."
    line "A number of the block is not in its shortest form."
    line "The leap table is not right or none is loaded; or its last entry lies after the month that it is to be vouched for."
    line "The block goes on behind its last entry."
    line "This is no pair of a midnight and a fraction."
    line "The file is no leap-seconds kernel or is longer than 65536 bytes."
    line "A line of the file is no TP card or its date is out of order."
    line "The line has over 1024 bytes."
    line "A number of seconds looks like 90.5 or -3 with up to 12 digits and six behind the point."
    line "A name has no comma and no quote in it."
    line "A month looks like 2026-12 and is not before 1972-01."
    line "A refusal has a number from 1 to 15."
    line "A block is written as pairs of hex digits."
    line "The file cannot be read."
    line "The file is longer than 65536 bytes."
    line []

-- the desk's own, behind those of the refusals
abbrev pub long_line : ℕ
long_line = 16

abbrev pub no_seconds : ℕ
no_seconds = 17

abbrev pub no_name : ℕ
no_name = 18

abbrev pub no_month : ℕ
no_month = 19

abbrev pub no_number : ℕ
no_number = 20

abbrev pub no_hex : ℕ
no_hex = 21

abbrev pub no_file : ℕ
no_file = 22

abbrev pub long_file : ℕ
long_file = 23

-- the sentence for what a request got wrong
abbrev pub sentence : Wrong → ℕ
sentence LongLine = long_line
sentence NoSeconds = no_seconds
sentence NoName = no_name
sentence NoMonth = no_month
sentence NoNumber = no_number
sentence NoHex = no_hex
sentence NoFile = no_file
sentence LongFile = long_file

-- what to do
abbrev pub advice : List ℕ
advice =
    "-"
    line "Lend a longer one. This program never gives it."
    line "Write it so; behind its clock and one blank."
    line "Check the year."
    line "Check the date; February 29 is in leap years only."
    line "Check the time and the clock in front of it."
    line "Check the stamp; if it is right then load a newer table."
    line "Ask for another clock or a smaller step."
    line "Put the clock in front of each stamp; help lists the requests."
    line "Copy it again from its beginning to its end."
    line "Ask whoever sent the block for a new one."
    line "Load a right table; or give a later month."
    line "Copy the block alone."
    line "Give a midnight that ends in .5 and a fraction below 1."
    line "Look at the byte that is named; or ask for the file again."
    line "Look at the line that begins at the byte that is named; or ask for the file again."
    line []

-- the months' names; line 0 stands for none
abbrev pub months : List ℕ
months =
    "-"
    line "January"
    line "February"
    line "March"
    line "April"
    line "May"
    line "June"
    line "July"
    line "August"
    line "September"
    line "October"
    line "November"
    line "December"
    line []

-- the requests
abbrev pub help : List ℕ
help =
    "between UTC 2016-12-31T23:58:30 and UTC 2017-01-01T00:01:30"
    line "show UTC 2016-12-31T23:59:60 on GPS"
    line "after UTC 2016-12-31T23:59:59"
    line "add 90.5 to UTC 2016-12-31T23:58:30"
    line "pass AURORA-3 from UTC 2016-12-31T23:58:30 to UTC 2017-01-01T00:01:30"
    line "table"
    line "table kernel FILE"
    line "table cards FILE"
    line "table block HEX"
    line "vouched 2026-12"
    line "why 6"
    line "help"
    line "clocks: UTC TAI TDT GPS"
    line ascii "pictures: 1987-04-12T16:31:12 1987-102T16:31:12 1986 APR 12 16:31:09 and up to six digits behind a point"

-- a number, its name and a sentence
unfoldable pub named_text : ℕ → ℕ → List ℕ
named_text n sentence = decimal_text n ++ (32 ∷ [] ++ (line_of names n ++ (ascii ": " ++ line_of sentences sentence)))

-- a refusal, and what was given
unfoldable pub refusal_text : ℕ → ℕ → List ℕ → List ℕ
refusal_text n sentence given = ascii "refused " ++ (named_text n sentence ++ (ascii " Given: " ++ quoted given))

-- why a call is refused so, and what to do
unfoldable pub why_text : ℕ → List ℕ
why_text n = named_text n n ++ (ascii " What to do: " ++ line_of advice n)
