-- The leap table: which tables are accepted, TAI-UTC by months, and the table of Bulletin C.
-- Assumes nothing.
use Rattle.std.specs.Prelude.{Bool, cond, not, ◌&&◌, ◌||◌, List, [], ◌∷◌, ◌++◌, ℕ, zero, suc, ◌+◌, ◌-◌, ◌*◌, min, leb, ltb, eqb, ℤ, pos, length, get_or, replicate}
use Rattle.std.proofs.Math.IntN.{suc_ℤ}
use Rattle.laws.specs.Tests.{eq_z, all_below}
use Rattle.leap.specs.declared.Table.{Table}
use Rattle.leap.specs.declared.OffsetPair.{OffsetPair}

-- a table of n entries in these months with these offsets, no month given
abbrev pub tabled : ℕ → List ℕ → List ℤ → Table
tabled n ms os = record { count = n; months = ms; offsets = os; vouched = 0 }

-- the same entries, vouched for up to the month of this number
abbrev pub vouched_to : ℕ → Table → Table
vouched_to v t = record { count = t.count; months = t.months; offsets = t.offsets; vouched = v }

abbrev pub without_month : Table → Table
without_month t = vouched_to 0 t

-- ---- an accepted table

-- December 9999, where January 1972 is 0
abbrev pub last_entry_month : ℕ
last_entry_month = 96335

-- the month number of entry k, where January 1972 is 0
abbrev pub entry_month : Table → ℕ → ℕ
entry_month t k = get_or t.months k 0

-- its TAI-UTC in whole seconds, from the first day of that month
abbrev pub entry_offset : Table → ℕ → ℤ
entry_offset t k = get_or t.offsets k (pos 0)

-- the first entry is month 0 with 10
abbrev pub first_right : ℕ → ℤ → Bool
first_right m o = eqb m 0 && eq_z o (pos 10)

-- each offset differs from the one before by exactly +1 or -1
unfoldable pub one_apart : ℤ → ℤ → Bool
one_apart o o' = eq_z o' (suc_ℤ o) || eq_z o (suc_ℤ o')

-- an entry of month m' after one of month m: months rise strictly, up to December 9999, and the offsets are one apart
abbrev pub later_right : ℕ → ℤ → ℕ → ℤ → Bool
later_right m o m' o' = ltb m m' && (leb m' last_entry_month && one_apart o o')

-- unused places are zero
abbrev pub unused_right : ℕ → ℤ → Bool
unused_right m o = eqb m 0 && eq_z o (pos 0)

-- place k is right: the first entry, or a later one after the entry before it, or unused
unfoldable pub place_right : Table → ℕ → Bool
place_right t zero = first_right (entry_month t 0) (entry_offset t 0)
place_right t (suc k) =
    cond (ltb (suc k) t.count)
    (later_right (entry_month t k) (entry_offset t k) (entry_month t (suc k)) (entry_offset t (suc k)))
    (unused_right (entry_month t (suc k)) (entry_offset t (suc k)))

-- The last month that a table is vouched for has a number: the month plus one, and 0 where none is given.
abbrev pub is_given : ℕ → Bool
is_given v = ltb 0 v

abbrev pub vouched_month : ℕ → ℕ
vouched_month v = v - 1

-- none is given, or a month from the last entry's to December 9999
unfoldable pub vouched_right : ℕ → ℕ → Bool
vouched_right last v = not (is_given v) || (leb last (vouched_month v) && leb (vouched_month v) last_entry_month)

-- 1 to 64 entries, each of the 64 places is right, and so is the month that it is vouched for
unfoldable pub accepted : Table → Bool
accepted t =
    leb 1 t.count
    && (leb t.count 64 && (all_below (place_right t) 64 && vouched_right (entry_month t (t.count - 1)) t.vouched))

-- ---- TAI-UTC

-- January 1972, the table's month 0, among the calendar's months from January of year 0
abbrev pub epoch : ℕ
epoch = 23664

-- of the entries 0 to k the last that has begun in the calendar's month m
unfoldable pub last_begun : List ℕ → ℕ → ℕ → ℕ
last_begun months m zero = 0
last_begun months m (suc k) = cond (leb (epoch + get_or months (suc k) 0) m) (suc k) (last_begun months m k)

-- the last place of n entries, of which a table has no more than 64
abbrev pub top : ℕ → ℕ
top n = min n 64 - 1

-- TAI-UTC in the calendar's month m by these entries: that of the last that has begun
unfoldable pub offset_in : ℕ → List ℕ → List ℤ → ℕ → ℤ
offset_in n months offsets m = get_or offsets (last_begun months m (top n)) (pos 0)

-- by a table; the month that it is vouched for does not count
abbrev pub offset_at : Table → ℕ → ℤ
offset_at t = offset_in t.count t.months t.offsets

-- TAI-UTC in the calendar's month m and in the one after it
abbrev pub near_at : Table → ℕ → OffsetPair
near_at t m = record { here = offset_at t m; next = offset_at t (m + 1) }

-- ---- beyond

-- a month is given, number v, and the calendar's month m is later
unfoldable pub beyond : ℕ → ℕ → Bool
beyond v m = is_given v && ltb (epoch + vouched_month v) m

-- ---- Bulletin C

-- n offsets from z up
abbrev pub rising : ℕ → ℕ → List ℤ
rising zero z = []
rising (suc n) z = pos z ∷ rising n (suc z)

-- 64 places, those that are not given zero
abbrev pub padded : {A : Type 0} → A → List A → List A
padded z xs = xs ++ replicate (64 - length xs) z

-- a table of these entries, its unused places zero
abbrev pub filled : List ℕ → List ℤ → Table
filled ms os = tabled (length ms) (padded 0 ms) (padded (pos 0) os)

-- the month numbers of a year's January and July
abbrev pub january : ℕ → ℕ
january year = 12 * (year - 1972)

abbrev pub july : ℕ → ℕ
july year = january year + 6

-- the table of Bulletin C, 28 entries: 10 in January 1972, and each entry after it one more
abbrev pub bulletin_c : Table
bulletin_c =
    filled
    (january 1972 ∷ july 1972 ∷ january 1973 ∷ january 1974 ∷ january 1975 ∷ january 1976 ∷ january 1977
    ∷ january 1978 ∷ january 1979 ∷ january 1980 ∷ july 1981 ∷ july 1982 ∷ july 1983 ∷ july 1985
    ∷ january 1988 ∷ january 1990 ∷ january 1991 ∷ july 1992 ∷ july 1993 ∷ july 1994 ∷ january 1996
    ∷ july 1997 ∷ january 1999 ∷ january 2006 ∷ january 2009 ∷ july 2012 ∷ july 2015 ∷ january 2017 ∷ [])
    (rising 28 10)
