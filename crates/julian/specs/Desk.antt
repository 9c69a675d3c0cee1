-- The scope's midnights, and instants and pairs of days with a step; doubles that are easily read otherwise stand in the crate `fraction`.
-- Assumes nothing.
use Rattle.std.specs.Prelude.{◌≡◌, ℕ, [], ◌∷◌, pos, neg_ℤ, from_bits}
use Rattle.std.specs.Float.{binary64}
use Rattle.leap.specs.declared.Table.{Table}
use Rattle.leap.specs.Leap.{filled, bulletin_c}
use Rattle.labels.specs.Seconds.{first_day, last_day}
use Rattle.julian.specs.declared.JulianDate.{JulianDate}
use Rattle.julian.specs.Midnight.{midnight_of, first_midnight, last_midnight}
use Rattle.julian.specs.Promise.{Writes, ReadAs, ReadRefused}

-- a pair by its bit patterns
abbrev pub bits : ℕ → ℕ → JulianDate
bits a b = record { midnight = from_bits binary64 a; fraction = from_bits binary64 b }

-- 2016-12-31, which has 86,401 seconds under Bulletin C; f is the pattern of a fraction
abbrev pub leap_day : ℕ → JulianDate
leap_day f = bits 0x4142_c04c_c000_0000 f

-- one second is taken out at the end of 1972-06-30
abbrev pub taken_out : Table
taken_out = filled (0 ∷ 6 ∷ []) (pos 10 ∷ pos 9 ∷ [])

pub record Desk : Type 0 where
  -- 1972-01-01 and 9999-12-31
  pub first_midnight_lem : midnight_of first_day ≡ first_midnight
  pub last_midnight_lem : midnight_of last_day ≡ last_midnight
  -- written on UTC: 12:00:00, 23:59:60.25 and the last microsecond of the day, and one second after the second of these
  pub noon : Writes bulletin_c 0 (pos 536457636000000) (leap_day 0x3fdf_ffe7_ba49_c869)
  pub added : Writes bulletin_c 0 (pos 536500836250000) (leap_day 0x3fef_ffed_cbb7_564f)
  pub last : Writes bulletin_c 0 (pos 536500836999999) (leap_day 0x3fef_ffff_fffe_68c7)
  pub next : Writes bulletin_c 0 (pos 536500837250000) (bits 0x4142_c04d_4000_0000 0x3ec8_45c8_a0ce_5129)
  -- read: a tie, 1 / 128, and just below one, where a product of doubles says one more
  pub tie : ReadAs bulletin_c 0 (leap_day 0x3f80_0000_0000_0000) (pos 536415111007813)
  pub no_tie : ReadAs bulletin_c 0 (leap_day 0x3fef_8613_e657_d96f) (pos 536499551086212)
  -- the largest double below 1 is the next midnight, and behind 9999 there is none
  pub whole_day : ReadAs bulletin_c 0 (leap_day 0x3fef_ffff_ffff_ffff) (pos 536500837000000)
  pub past_9999 : ReadRefused bulletin_c 0 (bits 0x4154_7f8a_e000_0000 0x3fef_ffff_ffff_ffff) 7
  -- 1 / 128 of 1972-06-30, which has 86,399 seconds
  pub shorter : ReadAs taken_out 0 (bits 0x4142_a08d_4000_0000 0x3f80_0000_0000_0000) (neg_ℤ (pos 868016915007812))
