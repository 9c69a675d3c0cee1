-- The way back, from a microsecond of the axis to the reading that stands there. Nothing here need be believed: `Converts` of `stamp` fixes what comes of it by the way there.
-- Assumes nothing.
use Rattle.std.specs.Prelude.{cond, ℕ, zero, suc, ◌+◌, ◌*◌, ◌-◌, ◌/◌, ◌%◌, min, ℤ, pos, nat_abs, ◌+ℤ◌, ◌-ℤ◌}
use Rattle.std.specs.Int.Signed.{le_z}
use Rattle.months.specs.Months.{month_length, days_before}
use Rattle.labels.specs.declared.Label.{Label}
use Rattle.labels.specs.declared.Reading.{Reading}
use Rattle.labels.specs.declared.Place.{Place}
use Rattle.labels.specs.Labels.{Offsets, label}
use Rattle.labels.specs.Seconds.{last_month}

-- the second of the axis at which day d begins where the offset is o; seconds and days are counted from year 0
abbrev pub day_begins : ℕ → ℤ → ℤ
day_begins d o = pos (86400 * d) +ℤ o

-- and month m
abbrev pub begins : Offsets → ℕ → ℤ
begins o m = day_begins (days_before m) (o m)

-- of the months 0 to m the last that has begun at second s
unfoldable pub month_at : Offsets → ℕ → ℕ → ℕ
month_at o s zero = 0
month_at o s (suc m) = cond (le_z (begins o (suc m)) (pos s)) (suc m) (month_at o s m)

-- the seconds since day d began
unfoldable pub since : ℕ → ℤ → ℕ → ℕ
since d o s = nat_abs (pos s -ℤ day_begins d o)

-- where second s falls, if it is in month m
abbrev pub place_in : Offsets → ℕ → ℕ → Place
place_in o s m = record { month = m; start = days_before m; days = month_length m; second = since (days_before m) (o m) s }

abbrev pub place_at : Offsets → ℕ → Place
place_at o s = place_in o s (month_at o s last_month)

-- second r of a day is in this minute; the last minute takes what is left
abbrev pub minute_of : ℕ → ℕ
minute_of r = min (r / 60) 1439

-- second r of day d of month m, both counted from 0
unfoldable pub in_day : ℕ → ℕ → ℕ → Label
in_day m d r = label (m / 12) (m % 12 + 1) (d + 1) (minute_of r / 60) (minute_of r % 60) (r - 60 * minute_of r)

-- second r of a month of so many days is in this day; the last day takes what is left
abbrev pub day_of : ℕ → ℕ → ℕ
day_of days r = min (r / 86400) (days - 1)

-- `label_of`
unfoldable pub label_of : Place → Label
label_of p = in_day p.month (day_of p.days p.second) (p.second - 86400 * day_of p.days p.second)

unfoldable pub label_at : Offsets → ℕ → Label
label_at o s = label_of (place_at o s)

abbrev pub reading_at : Offsets → ℕ → Reading
reading_at o c = record { label = label_at o (c / 1000000); micro = c % 1000000 }
