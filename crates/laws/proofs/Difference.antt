-- Integers for omega, which reads naturals alone: each is a difference of two naturals, `up z` less `down z`, and each statement about integers a linear one about those.
-- To use: list `integers`, and for each sum, difference and `sub_ℕ` in sight its equation: `omega (arith, integers, sum_is x y)`.
-- Assumes nothing.
use mathlib.Core.Path.{◌≡◌, refl, sym, ap, subst}
use mathlib.Core.Bool.{Bool, true, false, not, cond}
use Prim.Native.Nat.{ℕ, zero, suc, ◌+◌, ◌-◌, ◌≤◌, ◌<◌}
use native.Mathlib.Omega.{arith}
use borrow.Author.Tests.{ltb-true, ltb-false, leb-false, le-leb}
use lib.Dec.{T, ltb, leb, ltb→lt, lt→ltb, leb→le, le→leb}
use lib.IntN.{ℤ, pos, negsuc, sub_ℕ, ◌+ℤ◌, ◌-ℤ◌, neg_ℤ, suc_ℤ}
use lib.Signed.{lt_z, le_z, ◌<ℤ◌, ◌≤ℤ◌, lt_z_no}

abbrev pub up : ℤ → ℕ
up (pos n) = n
up (negsuc n) = 0

abbrev pub down : ℤ → ℕ
down (pos n) = 0
down (negsuc n) = suc n

-- ---- the operations

pub sub_is : (a b : ℕ) → up (sub_ℕ a b) + b ≡ a + down (sub_ℕ a b)
sub_is a b = go (ltb a b) refl
  where
    go : (t : Bool) → ltb a b ≡ t → up (cond t (negsuc (b - suc a)) (pos (a - b))) + b ≡ a + down (cond t (negsuc (b - suc a)) (pos (a - b)))
    go true e = let h : a < b = ltb-true a b e in omega arith
    go false e = let h : b ≤ a = ltb-false a b e in omega arith

pub sum_is : (x y : ℤ) → up (x +ℤ y) + (down x + down y) ≡ up x + up y + down (x +ℤ y)
sum_is (pos a) (pos b) = omega arith
sum_is (pos a) (negsuc b) = omega (arith, sub_is a (suc b))
sum_is (negsuc a) (pos b) = omega (arith, sub_is b (suc a))
sum_is (negsuc a) (negsuc b) = omega arith

pub neg_is : (x : ℤ) → up (neg_ℤ x) + up x ≡ down x + down (neg_ℤ x)
neg_is (pos zero) = refl
neg_is (pos (suc n)) = omega arith
neg_is (negsuc n) = omega arith

pub diff_is : (x y : ℤ) → up (x -ℤ y) + (down x + up y) ≡ up x + down y + down (x -ℤ y)
diff_is x y = omega (arith, sum_is x (neg_ℤ y), neg_is y)

pub suc_is : (x : ℤ) → up (suc_ℤ x) + down x ≡ suc (up x + down (suc_ℤ x))
suc_is (pos n) = omega arith
suc_is (negsuc zero) = refl
suc_is (negsuc (suc n)) = omega arith

-- ---- the statements, from integers to naturals and back

pub eq_to : {x y : ℤ} → x ≡ y → up x + down y ≡ up y + down x
eq_to {x} {y} e = omega (arith, ap up e, ap down e)

pub eq_from : (x y : ℤ) → up x + down y ≡ up y + down x → x ≡ y
eq_from (pos a) (pos b) h = ap pos (omega arith)
eq_from (pos a) (negsuc b) h = absurd (omega arith)
eq_from (negsuc a) (pos b) h = absurd (omega arith)
eq_from (negsuc a) (negsuc b) h = ap negsuc (omega arith)

lt_to' : (x y : ℤ) → T (lt_z x y) → up x + down y < up y + down x
lt_to' (pos a) (pos b) h = omega (arith, ltb→lt a b h)
lt_to' (pos a) (negsuc b) h = absurd h
lt_to' (negsuc a) (pos b) h = omega arith
lt_to' (negsuc a) (negsuc b) h = omega (arith, ltb→lt b a h)

pub lt_from' : (x y : ℤ) → up x + down y < up y + down x → T (lt_z x y)
lt_from' (pos a) (pos b) h = lt→ltb a b (omega arith)
lt_from' (pos a) (negsuc b) h = absurd (omega arith)
lt_from' (negsuc a) (pos b) h = tt
lt_from' (negsuc a) (negsuc b) h = lt→ltb b a (omega arith)

le_to' : (x y : ℤ) → T (le_z x y) → up x + down y ≤ up y + down x
le_to' (pos a) (pos b) h = omega (arith, leb→le a b h)
le_to' (pos a) (negsuc b) h = absurd h
le_to' (negsuc a) (pos b) h = omega arith
le_to' (negsuc a) (negsuc b) h = omega (arith, leb→le b a h)

le_from' : (x y : ℤ) → up x + down y ≤ up y + down x → T (le_z x y)
le_from' (pos a) (pos b) h = le→leb a b (omega arith)
le_from' (pos a) (negsuc b) h = absurd (omega arith)
le_from' (negsuc a) (pos b) h = tt
le_from' (negsuc a) (negsuc b) h = le→leb b a (omega arith)

pub lt_to : {x y : ℤ} → x <ℤ y → up x + down y < up y + down x
lt_to {x} {y} h = lt_to' x y h.lt

pub lt_from : (x y : ℤ) → up x + down y < up y + down x → x <ℤ y
lt_from x y h = record { lt = lt_from' x y h }

pub le_to : {x y : ℤ} → x ≤ℤ y → up x + down y ≤ up y + down x
le_to {x} {y} h = le_to' x y h.le

pub le_from : (x y : ℤ) → up x + down y ≤ up y + down x → x ≤ℤ y
le_from x y h = record { le = le_from' x y h }

-- ---- the tests, as a branch leaves them

pub lt_z_true : (x y : ℤ) → lt_z x y ≡ true → up x + down y < up y + down x
lt_z_true x y e = lt_to' x y (subst T (sym e) tt)

pub lt_z_false : (x y : ℤ) → lt_z x y ≡ false → up y + down x ≤ up x + down y
lt_z_false x y e = le_to (lt_z_no {a = x} {b = y} (subst (λ (b : Bool). T (not b)) (sym e) tt))

pub le_z_true : (x y : ℤ) → le_z x y ≡ true → up x + down y ≤ up y + down x
le_z_true x y e = le_to' x y (subst T (sym e) tt)

pub le_z_false : (x y : ℤ) → le_z x y ≡ false → up y + down x < up x + down y
le_z_false (pos a) (pos b) e = omega (arith, leb-false a b e)
le_z_false (pos a) (negsuc b) e = omega arith
le_z_false (negsuc a) (pos b) e = let z : ◌≡◌ {A = ℕ} 0 1 = cc in absurd (omega arith)
le_z_false (negsuc a) (negsuc b) e = omega (arith, leb-false b a e)

pub le_le_z : (x y : ℤ) → up x + down y ≤ up y + down x → le_z x y ≡ true
le_le_z (pos a) (pos b) h = le-leb a b (omega arith)
le_le_z (pos a) (negsuc b) h = absurd (omega arith)
le_le_z (negsuc a) (pos b) h = refl
le_le_z (negsuc a) (negsuc b) h = le-leb b a (omega arith)

-- ---- the statements of a goal and of what is in scope, for omega

pub ruleset integers = (eq_to, eq_from, lt_to, lt_from, le_to, le_from)
