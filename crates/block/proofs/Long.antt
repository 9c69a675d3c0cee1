-- A number of two or three groups, as the code reads it: behind its first group, which is `low`.
-- Assumes nothing.
use Prim.Native.Nat.{ℕ, ◌<◌, ◌≤◌, ◌+◌, ◌*◌, ◌%◌}
use mathlib.Core.Path.{◌≡◌, sym, ap, ◌∙◌}
use mathlib.Core.List.{List}
use native.Mathlib.Omega.{arith}
use lib.Bits.{bit_or}
use lib.ListN.{length, get_or, drop}
use Rattle.std.specs.Prelude.{Ok, Err}
use Rattle.answer.specs.declared.Refusal.TheVariants.{Cut as CUT, Groups as GROUPS}
use Rattle.block.specs.Reading.{NumberRead, above, read_groups}
use Rattle.block.proofs.Numbers.{above_zero, above_number, at_none, at_end, at_last, at_more}
use Rattle.block.proofs.Masks.{joined}

module _ (low : ℕ) (s : List ℕ) where
  -- what follows the first group
  follows : {r : NumberRead} → read_groups 2 s ≡ r → above low r ≡ above low (read_groups 2 s)
  follows e = sym (ap (above low) e)

  pub none : length s ≤ 0 → Err CUT ≡ above low (read_groups 2 s)
  none h = follows (at_end s 1 h)

  module _ (h : 0 < length s) where
    pub two_zero : get_or s 0 0 ≡ 0 → Err GROUPS ≡ above low (read_groups 2 s)
    two_zero z = sym (above_zero low (get_or s 0 0) 1 z) ∙ follows (at_last s 1 h (omega arith))

    -- as the code joins the groups
    pub two : low < 128 → get_or s 0 0 < 128 → (get_or s 0 0 ≡ 0 → ⊥) → {x y : ℕ} → x ≡ get_or s 0 0 → y ≡ low → Ok (bit_or (x * 128 % 4294967296) y, 2) ≡ above low (read_groups 2 s)
    two l m z ex ey =
        rw (ex, ey, joined (get_or s 0 0) low (omega arith) l) (sym (above_number low (get_or s 0 0) 1 z) ∙ follows (at_last s 1 h m))

    -- `rest` is what follows the second group
    module _ {rest : List ℕ} (m : 128 ≤ get_or s 0 0) (e : rest ≡ drop 1 s) where
      three : {r : NumberRead} → read_groups 1 rest ≡ r → read_groups 2 s ≡ above (get_or s 0 0 % 128) r
      three f = at_more s 1 h m ∙ ap (above (get_or s 0 0 % 128)) (ap (read_groups 1) (sym e) ∙ f)

      pub three_none : length rest ≤ 0 → Err CUT ≡ above low (read_groups 2 s)
      three_none k = follows (three (at_end rest 0 k))

      module _ (k : 0 < length rest) where
        pub three_zero : get_or rest 0 0 ≡ 0 → Err GROUPS ≡ above low (read_groups 2 s)
        three_zero z = follows (three (at_last rest 0 k (omega arith)) ∙ above_zero (get_or s 0 0 % 128) (get_or rest 0 0) 1 z)

        pub four : 128 ≤ get_or rest 0 0 → Err GROUPS ≡ above low (read_groups 2 s)
        four l = follows (three (at_more rest 0 k l ∙ ap (above (get_or rest 0 0 % 128)) (at_none (drop 1 rest))))

        pub three_groups : low < 128 → get_or rest 0 0 < 128 → (get_or rest 0 0 ≡ 0 → ⊥) → {x y z : ℕ} → x ≡ get_or rest 0 0 → y ≡ get_or s 0 0 % 128 → z ≡ low
            → Ok (bit_or (bit_or (x * 128 % 4294967296) y * 128 % 4294967296) z, 3) ≡ above low (read_groups 2 s)
        three_groups l n f {x} {y} {z} ex ey ez =
            let second : ℕ = get_or s 0 0 % 128 in
            let third : ℕ = get_or rest 0 0 in
            let high : ℕ = third * 128 + second in
            rw (ex, ey, ez, joined third second (omega arith) (omega arith), joined high low (omega arith) l)
            (sym (above_number low high 2 (λ e. f (omega arith))) ∙ follows (three (at_last rest 0 k n) ∙ above_number second third 1 f))
