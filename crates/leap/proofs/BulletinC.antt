-- The table of Bulletin C is accepted, and gives TAI-UTC as the scope lists it: by Januaries, then by Julies.
-- Assumes nothing.
use mathlib.Core.Path.{◌≡◌, refl}
use mathlib.Core.Bool.{true}
use mathlib.Core.List.{[], ◌∷◌, map}
use Prim.Native.Nat.{◌+◌}
use lib.IntN.{pos}
use Rattle.laws.specs.Tests.{eq_z, all_below}
use Rattle.leap.specs.Leap.{one_apart, place_right, vouched_right, accepted, epoch, last_begun, offset_in, offset_at, january, july, bulletin_c}

pub bulletin_accepted : accepted bulletin_c ≡ true
unfolding eq_z all_below one_apart place_right vouched_right accepted
bulletin_accepted = refl

pub bulletin-januaries :
    map (λ y. offset_at bulletin_c (epoch + january y)) (1972 ∷ 1973 ∷ 1974 ∷ 1975 ∷ 1976 ∷ 1977 ∷ 1978 ∷ 1979 ∷ 1980 ∷ 1988 ∷ 1990 ∷ 1991 ∷ 1996 ∷ 1999 ∷ 2006 ∷ 2009 ∷ 2017 ∷ [])
    ≡ map pos (10 ∷ 12 ∷ 13 ∷ 14 ∷ 15 ∷ 16 ∷ 17 ∷ 18 ∷ 19 ∷ 24 ∷ 25 ∷ 26 ∷ 30 ∷ 32 ∷ 33 ∷ 34 ∷ 37 ∷ [])
unfolding last_begun offset_in
bulletin-januaries = refl

pub bulletin-julies :
    map (λ y. offset_at bulletin_c (epoch + july y)) (1972 ∷ 1981 ∷ 1982 ∷ 1983 ∷ 1985 ∷ 1992 ∷ 1993 ∷ 1994 ∷ 1997 ∷ 2012 ∷ 2015 ∷ [])
    ≡ map pos (11 ∷ 20 ∷ 21 ∷ 22 ∷ 23 ∷ 27 ∷ 28 ∷ 29 ∷ 31 ∷ 35 ∷ 36 ∷ [])
unfolding last_begun offset_in
bulletin-julies = refl
