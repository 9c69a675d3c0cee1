-- Its texts, one behind another.
use mathlib.Core.Path.{◌≡◌}
use mathlib.Core.List.{append_assoc}
use Prim.Native.Nat.{◌+◌, ◌/◌}
use lib.ListN.{take, drop}
use mir.Syntax.{w32}
use mir.Facts.{to_z-of_z}
use Rattle.digits.specs.Decimals.{digits_of}
use Rattle.digits.proofs.Bytes.{digits_from}
use Rattle.kernel.proofs.Kernel.put_pair.Goals as goal

pub returns : goal.returns
returns c =
    let year : take 4 (drop 5 c.digits-year.result) ≡ digits_of 4 (1972 + c.args.month / 12) = digits_from 5 c.digits-year.ensures in
    let same = to_z-of_z {w = w32} c.ranges.offset in
    simp (c.put-5.ensures, c.put-4.ensures, c.month_name.ensures, c.put-3.ensures, c.put-2.ensures, c.put.ensures, c.put_signed.ensures.value, year, same, append_assoc)
