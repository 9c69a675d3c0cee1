-- An instant near 2000 and a short move: the sum fits.
use mathlib.Core.Path.{sym, ap, subst}
use Prim.Native.Nat.{◌≤◌, ◌<◌, ◌^◌}
use native.Mathlib.Omega.{arith}
use mir.Syntax.{w64}
use mir.Facts.{to_z-of_z, to_z_pos}
use Rattle.seconds.specs.declared.Move.{Move}
use Rattle.seconds.specs.Seconds.{Short, moved_by}
use Rattle.stampwords.proofs.Stamps.{on_fits, back_fits}
use Rattle.stampwords.proofs.moved.Goals as goal
use Rattle.stampwords.proofs.moved.Goals.{In-Back, In-On}

-- the move is short
few : (c : In-On) → (c.in-On.n ≤ 999999999999999999) × (c.in-On.n < 2 ^ 63)
few c = let h = subst Short c.in-On.is c.requires.1 in (h, omega arith)

few_back : (c : In-Back) → (c.in-Back.n ≤ 999999999999999999) × (c.in-Back.n < 2 ^ 63)
few_back c = let h = subst Short c.in-Back.is c.requires.1 in (h, omega arith)

pub overflow_cast-result : goal.overflow_cast-result
overflow_cast-result c = record { sfits = (few (goal.at.overflow_cast-result c).In-On).1 }

pub overflow_add-result : goal.overflow_add-result
overflow_add-result c = rw (to_z-of_z c.ranges.x, to_z_pos w64 (few (goal.at.overflow_add-result c).In-On).1) (on_fits _ c.requires.0 _ (few (goal.at.overflow_add-result c).In-On).0)

pub overflow_cast-result-in-Back : goal.overflow_cast-result-in-Back
overflow_cast-result-in-Back c = record { sfits = (few_back (goal.at.overflow_cast-result-in-Back c).In-Back).1 }

pub overflow_sub-result : goal.overflow_sub-result
overflow_sub-result c = rw (to_z-of_z c.ranges.x, to_z_pos w64 (few_back (goal.at.overflow_sub-result c).In-Back).1) (back_fits _ c.requires.0 _ (few_back (goal.at.overflow_sub-result c).In-Back).0)

pub returns-in-On : goal.returns-in-On
returns-in-On c =
    rw (to_z-of_z c.ranges.x, to_z_pos w64 (few (goal.at.returns-in-On c).In-On).1, to_z-of_z (on_fits _ c.requires.0 _ (few (goal.at.returns-in-On c).In-On).0)) (ap (λ (m : Move). moved_by m c.args.x) (sym c.in-On.is))

pub returns-in-Back : goal.returns-in-Back
returns-in-Back c =
    rw (to_z-of_z c.ranges.x, to_z_pos w64 (few_back (goal.at.returns-in-Back c).In-Back).1, to_z-of_z (back_fits _ c.requires.0 _ (few_back (goal.at.returns-in-Back c).In-Back).0)) (ap (λ (m : Move). moved_by m c.args.x) (sym c.in-Back.is))
