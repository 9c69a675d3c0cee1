-- A name is looked up among those of the months: each is found, and what is found has the name.
-- Assumes nothing.
use mathlib.Core.Path.{◌≡◌, refl, sym, ap, ◌∙◌}
use mathlib.Core.Bool.{Bool, true, false, cond}
use mathlib.Core.List.{List}
use Prim.Native.Nat.{ℕ, zero, suc, ◌≤◌, ◌<◌}
use native.Mathlib.Omega.{arith}
use borrow.Author.Tests.{eqb-true}
use lib.Dec.{eqb}
use Rattle.laws.specs.Tests.{all_below}
use Rattle.laws.proofs.Cases.{below}
use Rattle.digits.specs.Bytes.{same_bytes}
use Rattle.digits.specs.Months.{month_name, among_months, month_named}
use Rattle.digits.proofs.Bytes.{same_true}

-- one step of the search
pub named_yes : (m : ℕ) (name : List ℕ) → 0 < m → same_bytes (month_name m) name ≡ true → among_months m name ≡ m
unfolding among_months
named_yes zero name h e = absurd (omega arith)
named_yes (suc m) name h e = rw e

pub named_no : (m : ℕ) (name : List ℕ) {k : ℕ} → m ≡ suc k → same_bytes (month_name m) name ≡ false → among_months m name ≡ among_months k name
unfolding among_months
named_no m name {k} p e = let q : same_bytes (month_name (suc k)) name ≡ false = ap (λ (j : ℕ). same_bytes (month_name j) name) (sym p) ∙ e in rw (p, q)

-- what is found has the name
found : (m : ℕ) (name : List ℕ) → 0 < among_months m name → (among_months m name ≤ m) × (month_name (among_months m name) ≡ name)
unfolding among_months
found zero name h = absurd (omega arith)
found (suc m) name h = go (same_bytes (month_name (suc m)) name) refl h (λ l. found m name l)
  where
    go : (t : Bool) → same_bytes (month_name (suc m)) name ≡ t → 0 < cond t (suc m) (among_months m name)
        → (0 < among_months m name → (among_months m name ≤ m) × (month_name (among_months m name) ≡ name))
        → (cond t (suc m) (among_months m name) ≤ suc m) × (month_name (cond t (suc m) (among_months m name)) ≡ name)
    go true e l ih = (omega arith, same_true (month_name (suc m)) name e)
    go false e l ih = let r = ih l in (omega arith, r.1)

pub named_is : (name : List ℕ) → 0 < month_named name → (month_named name ≤ 12) × (month_name (month_named name) ≡ name)
unfolding month_named
named_is name h = found 12 name h

-- each name is found
itself : ℕ → Bool
itself k = eqb (month_named (month_name (suc k))) (suc k)

pub named_back : (m : ℕ) → 1 ≤ m → m ≤ 12 → month_named (month_name m) ≡ m
unfolding all_below itself month_named among_months
named_back zero h g = absurd (omega arith)
named_back (suc k) h g = eqb-true _ _ (below itself 12 refl k g)
