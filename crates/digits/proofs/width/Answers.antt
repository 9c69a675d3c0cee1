-- The digits passed, and those of what is left above them.
use Prim.Native.Nat.{ℕ, suc, ◌+◌, ◌-◌, ◌/◌, ◌^◌, ◌≤◌, ◌<◌}
use mathlib.Core.Path.{◌≡◌, ap, ◌∙◌}
use native.Mathlib.Nat.{pow-succ', pow-le-pow_right}
use native.Mathlib.Numerals.{add-one}
use native.Mathlib.Omega.{arith}
use lib.Dec.{lit<}
use Rattle.digits.specs.Decimals.{width_of}
use Rattle.digits.proofs.Decimals.{width_one, width_more, width_last, few_tens, more_tens, next_tens}
use Rattle.digits.proofs.width.Goals as goal

-- below the power that k digits do not reach there are k digits
counted : (n k : ℕ) → 1 ≤ k → k ≤ 19 → k + width_of (21 - k) (n / 10 ^ (k - 1)) ≡ width_of 20 n + 1 → n < 10 ^ k → k ≡ width_of 20 n
counted n k low high e l = omega (arith, e, width_one (21 - k) (n / 10 ^ (k - 1)) (omega arith) (few_tens n k low l))

pub returns-then-n-power : goal.returns-then-n-power
returns-then-n-power c =
    let l = c.loop-k in
    (counted c.args.n l.k l.invariant.0 (omega arith) l.invariant.2 (omega (arith, l.invariant.1)), omega arith, omega arith)

pub overflow_mul-power : goal.overflow_mul-power
overflow_mul-power c =
    let l = c.loop-k in
    record { fits = omega (arith, l.invariant.1, pow-le-pow_right {n = 10} (lit< tt) {i = l.k} {j = 18} (omega arith)) }

pub loop-k-preserved : goal.loop-k-preserved
loop-k-preserved c =
    let l = c.loop-k in
    let n = c.args.n in
    let m : 21 - l.k ≡ suc (21 - (l.k + 1)) = omega arith in
    let e = width_more (21 - (l.k + 1)) (n / 10 ^ (l.k - 1)) (more_tens n l.k l.invariant.0 (omega (arith, l.invariant.1))) in (
      omega arith,
      omega (arith, l.invariant.1, pow-succ' 10 l.k, ap (λ (j : ℕ). 10 ^ j) (add-one l.k)),
      omega (arith, l.invariant.2, e, ap (λ (j : ℕ). width_of j (n / 10 ^ (l.k - 1))) m, ap (width_of (21 - (l.k + 1))) (next_tens n l.k l.invariant.0)),
    )

pub returns-then-n-power-2 : goal.returns-then-n-power-2
returns-then-n-power-2 c =
    let l = c.loop-k in
    let z : 19 ≡ l.k = omega arith in
    (z ∙ counted c.args.n l.k l.invariant.0 (omega arith) l.invariant.2 (omega (arith, l.invariant.1)), omega arith, omega arith)

pub returns-else-n-power-2 : goal.returns-else-n-power-2
returns-else-n-power-2 c =
    let l = c.loop-k in
    let n = c.args.n in
    let q = n / 10 ^ (l.k - 1) in
    let m : 21 - l.k ≡ 2 = omega arith in
    let e = width_more 1 q (more_tens n l.k l.invariant.0 (omega (arith, l.invariant.1))) in
    (omega (arith, l.invariant.2, e, width_last (q / 10), ap (λ (j : ℕ). width_of j q) m), omega arith, omega arith)
